-- What was read is printed.
use Rattle.std.proofs.Common.{◌≡◌}
use Rattle.tftp_supervisor.specs.ProcessEvent.{started_in}
use Rattle.tftp_supervisor.specs.Watching.{IsWatching}
use Rattle.tftp_supervisor.proofs.supervisor.Supervisor.watch.Given as goal

abbrev pub invariant-loop : goal.invariant-loop
invariant-loop g l = record {
  watching : IsWatching (g.P.ServerProcesses.log l.processes) l.self;
  started : started_in (g.P.ServerProcesses.log l.processes) ≡ started_in (g.P.ServerProcesses.log l.fn.processes);
  count : l.self.count ≡ l.fn.self.count;
}
