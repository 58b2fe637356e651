use Rattle.tftp_loop.proofs.Common.{subst, sym}
use Rattle.tftp_loop.specs.MayWait.{MayBeginWait}
use Rattle.tftp_loop.proofs.server_loop.ServerLoop.wait.Goals as goal

pub sync_and_wait-requires-clause-may : goal.sync_and_wait-requires-clause-may
sync_and_wait-requires-clause-may g c = subst (MayBeginWait c.args.self.now) (sym c.report_if_due.ensures.events) c.requires

pub sleep-requires-clause-may : goal.sleep-requires-clause-may
sleep-requires-clause-may g c = subst (MayBeginWait c.args.self.now) (sym c.report_if_due.ensures.events) c.requires
