-- A wait: a datagram that was received, or none.
use Rattle.tftp_client.proofs.Common.{rules, ◌∙◌, ap, refl, ◌∷◌, ℕ, List, take, sym, subst, inl, inr, state_of}
use Rattle.tftp_client.proofs.Common.{Converses, AnswersReceived, MayWait, State, Begins, Receives, Waits, SocketEvent}
use Rattle.tftp_client.proofs.Common.{QuietEvent}
use Rattle.std.proofs.lemmas.List.{with_items_is, places}
use Rattle.tftp_sockets.specs.Trace.SocketEvent.{Watched}
use Rattle.tftp_sockets.specs.Trace.QuietEvent.{Empty, Failed}
use Rattle.tftp_client.proofs.Conversing.{read_by, state_is}
use Rattle.tftp_client.proofs.transfer.conversation.Conversation.take_received.Goals as goal

pub returns-in-Datagram-clause-converses : goal.returns-in-Datagram-clause-converses
returns-in-Datagram-clause-converses g c =
    let port = c.args.self.now.socket.port in
    let s : State = state_of c.args.self.now (g.N.Udp.log c.args.net.now) in
    let from = c.in-Datagram.from in
    let watch = c.read_watch.new.watch in
    let next : State = state_of c.answer_datagram.new.self (g.N.Udp.log c.answer_datagram.new.net) in
    let handles : List ℕ → ℕ → State → Type 0 = λ b p t.
    AnswersReceived g.S.Source.meaning g.K.Sink.meaning p from (take c.in-Datagram.count b) t c.args.files.now
    next c.answer_datagram.new.files in
    let t : State = record {
      end = s.end;
      now = watch.now;
      reading = watch.reading;
      deadline = s.deadline;
      backoff = s.backoff;
      events = (g.N.Udp.log c.read_watch.new.self);
    } in
    let At : State → Type 0 = λ t. handles c.receive_until-received.new.buffer port t in
    let Of : ℕ → Type 0 = λ p. handles c.receive_until-received.new.buffer p t in
    let Over : List ℕ → Type 0 = λ b. handles b c.receive_until-received.new.socket.port t in
    let whole = with_items_is c.args.self.now.buffer c.receive_until-received.new.buffer (search (rules, places)) in
    let noted = c.read_watch.ensures.noted ∙ ap (λ (es : List SocketEvent). Watched watch ∷ es) c.in-Datagram.ensures.noted in
    let may : MayWait s = record { not_closed = c.requires.not_closed; due = c.requires.ready c.requires.not_closed } in
    Receives Begins may (read_by s watch c.read_watch.ensures.time c.read_watch.ensures.reading c.read_watch.ensures.forward)
    (subst At (state_is refl refl refl refl noted)
    (subst Of c.receive_until-received.ensures.port (subst Over whole c.answer_datagram.ensures.answers)))

pub returns-in-Nothing-clause-converses : goal.returns-in-Nothing-clause-converses
returns-in-Nothing-clause-converses g c =
    let s : State = state_of c.args.self.now (g.N.Udp.log c.args.net.now) in
    let At : State → Type 0 = λ t. Converses g.S.Source.meaning g.K.Sink.meaning c.args.self.now.socket.port s
    c.args.files.now t c.args.files.now in
    let may : MayWait s = record { not_closed = c.requires.not_closed; due = c.requires.ready c.requires.not_closed } in
    let event : QuietEvent = Empty c.args.self.now.socket.port in
    let noted = c.read_watch.ensures.noted ∙ ap (λ (es : List SocketEvent). Watched c.read_watch.new.watch ∷ es)
    c.in-Nothing.ensures.noted in
    subst At (sym (state_is refl refl refl refl noted))
    (Waits {event = event} Begins may (inl refl)
    (read_by s c.read_watch.new.watch c.read_watch.ensures.time c.read_watch.ensures.reading c.read_watch.ensures.forward))

pub returns-in-Failed-clause-converses : goal.returns-in-Failed-clause-converses
returns-in-Failed-clause-converses g c =
    let s : State = state_of c.args.self.now (g.N.Udp.log c.args.net.now) in
    let At : State → Type 0 = λ t. Converses g.S.Source.meaning g.K.Sink.meaning c.args.self.now.socket.port s
    c.args.files.now t c.args.files.now in
    let may : MayWait s = record { not_closed = c.requires.not_closed; due = c.requires.ready c.requires.not_closed } in
    let event : QuietEvent = Failed c.args.self.now.socket.port in
    let noted = c.read_watch.ensures.noted ∙ ap (λ es. Watched c.read_watch.new.watch ∷ es) c.in-Failed.ensures.noted in
    subst At (sym (state_is refl refl refl refl noted)) (Waits {event = event} Begins may (inr refl) (read_by s
    c.read_watch.new.watch c.read_watch.ensures.time c.read_watch.ensures.reading c.read_watch.ensures.forward))
