-- What was read is printed.
use Rattle.std.proofs.Common.{◌≡◌}
use Rattle.tftp_supervisor.specs.ProcessEvent.{started_in}
use Rattle.tftp_supervisor.specs.Watching.{IsWatching}
use Rattle.tftp_supervisor.proofs.supervisor.Supervisor.read_reported.Given as goal

abbrev pub invariant-loop-server : goal.invariant-loop-server
invariant-loop-server g l = record {
  watching : IsWatching (g.P.ServerProcesses.log l.processes) l.self;
  started : started_in (g.P.ServerProcesses.log l.processes) ≡ started_in (g.P.ServerProcesses.log l.fn.processes);
  count : l.self.count ≡ l.fn.self.count;
}
