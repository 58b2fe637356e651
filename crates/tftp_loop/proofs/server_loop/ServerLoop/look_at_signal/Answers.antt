use Rattle.std.proofs.lemmas.Grind.{common_steps}
use Rattle.std.proofs.Common.{arith}
use Rattle.tftp_loop.proofs.Common.{refl, ServerLoop, Start, state_of}
use Rattle.tftp_loop.specs.declared.drain.Drain.TheVariants.{Begun}
use Rattle.tftp_loop.proofs.Receipts.{drains_as, found_it, found_nothing}
use Rattle.tftp_loop.proofs.RunLemmas.{idle}
use Rattle.tftp_loop.proofs.server_loop.ServerLoop.look_at_signal.Goals as goal

pub returns-in_default : goal.returns-in_default
returns-in_default g c = record { works = λ buffer. Start; rest = refl; room = λ has. has; file = refl }

pub returns-then-now-self-clause-works : goal.returns-then-now-self-clause-works
returns-then-now-self-clause-works g c = λ buffer. Start

pub returns-then-not-is_signalled-clause-works : goal.returns-then-not-is_signalled-clause-works
returns-then-not-is_signalled-clause-works g c = grind (arith, common_steps, idle, state_of, found_nothing)

pub returns-clause-works : goal.returns-clause-works
returns-clause-works g c =
    let begun : ServerLoop _ _ _ = record c.args.self.now { drain = Begun } in
    λ buffer.
    drains_as g.S.Store.meaning g.S.Source.Source.meaning buffer c.args.self.now begun _ _ c.in-Awaited.is
    refl (found_it c.is_signalled.result _ _ _ c.if-not-is_signalled.false c.is_signalled.ensures.noted)
