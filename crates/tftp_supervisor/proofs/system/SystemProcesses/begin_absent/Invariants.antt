-- Nothing is noted.
use Rattle.std.proofs.Common.{◌≡◌}
use Rattle.tftp_supervisor.proofs.system.SystemProcesses.begin_absent.Given as goal

abbrev pub invariant-loop-index : goal.invariant-loop-index
invariant-loop-index l = l.self.trace ≡ l.fn.self.trace
