-- What was read is printed, from the start to the end.
use Rattle.std.proofs.Common.{ℕ, refl, subst}
use Rattle.tftp_supervisor.specs.ProcessEvent.{AllSucceeded}
use Rattle.tftp_supervisor.proofs.Following.{all_succeeded, starts_watching}
use Rattle.tftp_supervisor.proofs.supervisor.Supervisor.watch.Goals as goal

pub loop-init : goal.loop-init
loop-init g c = record { watching = starts_watching _ c.args.self.now c.requires; started = refl; count = refl }

pub returns-then-has_all_ended-clause-succeeded : goal.returns-then-has_all_ended-clause-succeeded
returns-then-has_all_ended-clause-succeeded g c =
    subst (λ (n : ℕ). AllSucceeded n (g.P.ServerProcesses.log c.loop.processes)) c.loop.invariant.count
    (all_succeeded _ c.loop.self c.loop.invariant.watching (c.has_all_ended.ensures c.if-has_all_ended.true))
