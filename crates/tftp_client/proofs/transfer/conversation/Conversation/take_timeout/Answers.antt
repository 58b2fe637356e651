-- No timeout is due; or one is: its step, its note and its answer.
use Rattle.std.proofs.Common.{rules}
use Rattle.tftp_client.proofs.Common.{◌∙◌, ap, inr, refl, ◌∷◌, ℕ, sym, subst, EndState, state_of, MayElapse, State}
use Rattle.tftp_client.proofs.Common.{deadline_at, Stays, Elapses, inl, lt_of_not-le, true≢false}
use Rattle.tftp_sockets.specs.Watch.{deadline_of}
use Rattle.tftp_sockets.specs.Trace.SocketEvent.{Elapsed}
use Rattle.tftp_client.proofs.Conversing.{is_closed, not_refused, replies, state_is}
use Rattle.tftp_client.proofs.transfer.conversation.Conversation.take_timeout.Goals as goal

pub returns-then-not-is_due-clause-elapses : goal.returns-then-not-is_due-clause-elapses
returns-then-not-is_due-clause-elapses g c = Stays (inl
    (lt_of_not-le (λ due. true≢false (sym (c.is_due.ensures.1 due) ∙ c.if-not-is_due.true))))

pub returns-then-not-is_due-clause-ready : goal.returns-then-not-is_due-clause-ready
returns-then-not-is_due-clause-ready g c is_open due = search rules

pub returns-in_default-clause-elapses : goal.returns-in_default-clause-elapses
returns-in_default-clause-elapses g c =
    let s : State = state_of c.args.self.now (g.N.Udp.log c.args.net.now) in
    let At : State → Type 0 = λ t. MayElapse c.args.self.now.socket.port s t in
    subst At (state_is (sym c.in_default.ensures.err) refl refl refl refl)
    (Stays (inr (is_closed c.in_default.field-0 c.in_default.ensures.closed c.in_default.ensures.memory)))

pub returns-clause-elapses : goal.returns-clause-elapses
returns-clause-elapses g c =
    let port = c.args.self.now.socket.port in
    let s : State = state_of c.args.self.now (g.N.Udp.log c.args.net.now) in
    let At : State → Type 0 = λ t. MayElapse port s t in
    let lends = c.in-Ok.ensures.steps.0 in
    let noted = c.elapsed.ensures.noted ∙ ap (λ (p : ℕ). Elapsed p s.now ∷ s.events) c.port.ensures in
    let sent = replies _ _ c.reply-sent.ensures lends.goes (c.bytes_of.ensures ∙ lends.bytes) noted in
    let due = c.deadline-self.ensures.value ∙ (ap (λ (n : ℕ). deadline_of s.now n) c.seconds.ensures ∙ ap (λ (e :
    EndState). deadline_at s.backoff s.now e) lends.state) in
    subst At (sym (state_is lends.state refl refl due sent)) (Elapses (c.is_due.ensures.0 c.if-not-is_due.false) (not_refused _ _
    c.in-Ok.ensures.closed))

pub returns-in_default-clause-ready : goal.returns-in_default-clause-ready
returns-in_default-clause-ready g c is_open due = search rules

pub returns-clause-ready : goal.returns-clause-ready
returns-clause-ready g c is_open due = search rules
