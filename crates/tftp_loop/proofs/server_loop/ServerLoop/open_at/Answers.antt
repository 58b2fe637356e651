use Rattle.std.proofs.Common.{arith as std_arith}
use Rattle.std.proofs.lemmas.Grind.{common_steps}
use Rattle.tftp_loop.proofs.Common.{arith, refl, ap, subst, sym, ◌∙◌, ℕ, ServerState, at, loop_state}
use Rattle.std.specs.Prelude.{Some}
use Rattle.tftp_loop.specs.Longest.{IsBoundedFor}
use Rattle.tftp_loop.proofs.AgreedLongest.{bounded_after, bounded_now}
use Rattle.tftp_loop.proofs.LoopRuns.{same_state}
use Rattle.tftp_loop.proofs.RequestRuns.{sets_and_answers, sets_and_loses, is_free, ok-err}
use Rattle.tftp_loop.proofs.Reserving.{carried_config, lacks_to_open, memory_if_free, room_grown, room_same}
use Rattle.tftp_loop.proofs.server_loop.ServerLoop.open_at.Goals as goal

pub returns-in-Ok-clause-answers : goal.returns-in-Ok-clause-answers
returns-in-Ok-clause-answers g c =
    let d = c.args.datagram in
    let a = c.answer_opened.ensures.answers in
    let free = is_free _ (λ h. ok-err _ _ (c.in-Ok.ensures.in_use.1 h)) in
    sets_and_answers _ _ _ _ _ _ _ _ _ _ _ _ _ refl c.requires.action.admitted c.requires.action.handled c.set_store.ensures.rest
    c.set_store.ensures.same c.set_store.ensures.behind c.in-Ok.ensures.carries_out free a.port a.own
    c.set_store.ensures.set c.requires.action.few c.clear.ensures.items (same_state _ _ a.requests a.range a.longest a.backoff
    a.requests_only a.per_client a.server refl a.timers a.watch a.limit refl a.marked a.asked a.drain a.left_to_close
    a.rounds a.events)

pub returns-in-Ok-clause-rounds : goal.returns-in-Ok-clause-rounds
returns-in-Ok-clause-rounds g c = c.answer_opened.ensures.answers.rounds

pub returns-in-Err-clause-answers : goal.returns-in-Err-clause-answers
returns-in-Err-clause-answers g c =
    let d = c.args.datagram in
    let why = c.in-Err.ensures in
    let lost = c.lose_for_memory.ensures.events in
    let free =
    ap (λ (s : ServerState _ _ _). at c.port-tid.result s.held) c.set_store.ensures.rest ∙ (ap (λ (p : ℕ). at p
    c.args.self.now.server.held) c.port-tid.ensures ∙ c.requires.free) in
    let is_memory = memory_if_free _ _ free why.in_use.0 why.fault in
    let s = loop_state (Some (d.from, d.bytes.now)) c.args.self.now (g.N.Udp.log c.args.net.now) in
    sets_and_loses _ _ s _ _ _ _ refl c.set_store.ensures.rest c.set_store.ensures.same c.set_store.ensures.behind
    (lacks_to_open _ _ _ _ _ _ _ _ _ c.set_store.ensures.rest c.requires.action.admitted c.clear.ensures.len (let capacity
    = c.clear.ensures.capacity in let longest = c.requires.room.longest in omega (arith, capacity, longest)) (why.why
    is_memory)) (same_state _ _ refl refl refl refl refl refl why.err.0 refl refl refl refl refl refl refl refl refl
    refl lost)

pub returns-in-Ok-clause-room : goal.returns-in-Ok-clause-room
returns-in-Ok-clause-room g c =
    let carried = c.in-Ok.ensures.carries_out in
    let config = carried_config _ _ _ _ _ _ _ _ carried.2 ∙ ap (λ s. s.config) c.set_store.ensures.rest in
    let capacity = c.clear.ensures.capacity in
    let grown = c.open-opened.ensures.capacity in
    c.answer_opened.ensures.answers.room (room_same config (room_grown (omega (arith, capacity, grown))
    c.requires.room))

pub returns-in-Err-clause-room : goal.returns-in-Err-clause-room
returns-in-Err-clause-room g c = grind (std_arith, common_steps)

pub returns-in-Err-clause-told : goal.returns-in-Err-clause-told
returns-in-Err-clause-told g c = (_, c.lose_for_memory.ensures.told)

pub returns-in-Ok-clause-bounded : goal.returns-in-Ok-clause-bounded
returns-in-Ok-clause-bounded g c =
    let limits = c.args.self.now.server.config.limits in
    let same = ap (λ (s : ServerState _ _ _). s.store) c.answer_opened.ensures.answers.server in
    subst (IsBoundedFor g.S.ServedStore.is_bounded limits c.args.admission.ask) (sym same)
    (bounded_after g.S.Store.meaning g.S.Source.Source.meaning c.set_store.new.server c.args.admission.from
    c.args.admission.bytes c.port-tid.result g.S.ServedStore.is_bounded limits c.args.admission.ask _
    c.in-Ok.ensures.carries_out.2 c.set_store.ensures.longest)

pub returns-in-Err-clause-bounded : goal.returns-in-Err-clause-bounded
returns-in-Err-clause-bounded g c =
    let limits = c.args.self.now.server.config.limits in
    let same = ap (λ (s : ServerState _ _ _). s.store) c.in-Err.ensures.err.0 in
    subst (IsBoundedFor g.S.ServedStore.is_bounded limits c.args.admission.ask) (sym same)
    (bounded_now g.S.ServedStore.is_bounded limits c.args.admission.ask c.set_store.new.server.store
    c.set_store.ensures.longest)
