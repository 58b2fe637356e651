use Rattle.std.proofs.lemmas.Grind.{common_steps}
use Rattle.std.proofs.Common.{arith, rules}
use Rattle.tftp_loop.proofs.Common.{◌≡◌, true, refl, ap, subst, ◌∙◌, LoopState, loop_state, Concludes}
use Rattle.std.specs.Prelude.{None, Some}
use Rattle.tftp_sockets.specs.Told.{and_told}
use Rattle.tftp_sockets.specs.declared.entry.Entry.TheVariants.{Lost}
use Rattle.tftp_loop.specs.declared.sockets.Sockets.{Sockets}
use Rattle.tftp_loop.specs.Steps.{is_taken}
use Rattle.tftp_loop.proofs.LoopRuns.{same_state}
use Rattle.tftp_loop.proofs.RequestRuns.{binds_in_vain, bound_as, may_open, prepares_first, tries_in_vain}
use Rattle.tftp_loop.proofs.server_loop.ServerLoop.open_request.Goals as goal

pub returns-in_default-clause-answers : goal.returns-in_default-clause-answers
returns-in_default-clause-answers g c =
    let d = c.args.datagram in
    let same = c.port_for.ensures.same in
    let s = loop_state (Some (d.from, d.bytes.now)) c.args.self.now (g.N.Udp.log c.args.net.now) in
    let opens =
    may_open g.S.Store.meaning g.S.Source.Source.meaning _ _ _ _ _ refl c.requires.action.admitted c.requires.action.may_open in
    tries_in_vain g.S.Store.meaning g.S.Source.Source.meaning s _ _ _ _ refl opens c.in_default.ensures.tries
    (same_state _ _ (ap (λ s. s.requests.port) same) (ap (λ s. s.pool.range) same) refl refl refl refl refl refl refl
    (ap (λ s. s.watch) same) (ap (λ s. s.limit) same) refl (ap (λ s. s.is_ready) same) (ap (λ s. s.has_received) same)
    refl refl refl c.lose.ensures.events)

pub returns-then-is_taken-clause-answers : goal.returns-then-is_taken-clause-answers
returns-then-is_taken-clause-answers g c =
    let d = c.args.datagram in
    let same = c.port_for.ensures.same in
    let s = loop_state (Some (d.from, d.bytes.now)) c.args.self.now (g.N.Udp.log c.args.net.now) in
    let opens =
    may_open g.S.Store.meaning g.S.Source.Source.meaning c.args.self.now.server c.args.self.now.server d.from
    d.bytes.now c.args.admission refl c.requires.action.admitted c.requires.action.may_open in
    let taken : is_taken s c.in-Some.bound.port ≡ true = search rules in
    binds_in_vain g.S.Store.meaning g.S.Source.Source.meaning s _ d.from d.bytes.now (g.N.Udp.log c.port_for.new.net)
    c.in-Some.bound.port refl opens c.in-Some.ensures.port.port c.in-Some.ensures.tries taken (same_state _ _ (ap (λ (s
    : Sockets). s.requests.port) same) (ap (λ (s : Sockets). s.pool.range) same) refl refl refl refl refl refl refl
    (ap (λ (s : Sockets). s.watch) same) (ap (λ (s : Sockets). s.limit) same) refl (ap (λ (s : Sockets). s.is_ready)
    same) (ap (λ (s : Sockets). s.has_received) same) refl refl refl c.lose-then-is_taken.ensures.events)

pub returns-clause-answers : goal.returns-clause-answers
returns-clause-answers g c =
    let d = c.args.datagram in
    let same = c.port_for.ensures.same in
    let s = loop_state (Some (d.from, d.bytes.now)) c.args.self.now (g.N.Udp.log c.args.net.now) in
    let opens =
    may_open g.S.Store.meaning g.S.Source.Source.meaning _ _ _ _ _ refl c.requires.action.admitted c.requires.action.may_open in
    let tried : LoopState _ _ _ = record s { events = g.N.Udp.log c.port_for.new.net } in
    prepares_first _ _ s _ _ (bound_as g.S.Store.meaning g.S.Source.Source.meaning s _ _ refl opens _ _ _
    c.in-Some.ensures.port.port c.in-Some.ensures.tries) (subst (λ (u : LoopState _ _ _). Concludes g.S.Store.meaning
    g.S.Source.Source.meaning u (loop_state None c.open_at.new.self (g.N.Udp.log c.open_at.new.net))) (same_state _ _
    (ap (λ (s : Sockets). s.requests.port) same) (ap (λ (s : Sockets). s.pool.range) same) refl refl refl refl refl refl
    refl (ap (λ (s : Sockets). s.watch) same) (ap (λ (s : Sockets). s.limit) same) refl (ap (λ (s : Sockets).
    s.is_ready) same) (ap (λ (s : Sockets). s.has_received) same) refl refl refl refl) c.open_at.ensures.answers)

pub returns-in_default-clause-told : goal.returns-in_default-clause-told
returns-in_default-clause-told g c =
    (Lost, c.lose.ensures.told ∙ ap (and_told Lost) c.port_for.ensures.told)

pub returns-then-is_taken-clause-told : goal.returns-then-is_taken-clause-told
returns-then-is_taken-clause-told g c = grind (arith, common_steps)

pub returns-clause-told : goal.returns-clause-told
returns-clause-told g c = grind (arith, common_steps)
