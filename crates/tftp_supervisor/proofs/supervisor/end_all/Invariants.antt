-- So many servers were ended.
use Rattle.std.proofs.Common.{ℕ, ◌<◌, ◌+◌}
use Rattle.tftp_supervisor.specs.ProcessEvent.{WasEnded}
use Rattle.tftp_supervisor.specs.Watching.{GoesOn}
use Rattle.tftp_supervisor.proofs.supervisor.end_all.Given as goal

abbrev pub invariant-loop-before : goal.invariant-loop-before
invariant-loop-before g l = record {
  goes_on : GoesOn (g.P.ServerProcesses.log l.fn.processes) (g.P.ServerProcesses.log l.processes);
  ended : (k : ℕ) → k < l.before → WasEnded (k + 1) (g.P.ServerProcesses.log l.processes);
}
