-- The servers of the first command lines were started, and none was read.
use Rattle.std.proofs.Common.{◌≡◌, map, take}
use Rattle.std.specs.String.{string_bytes}
use Rattle.tftp_supervisor.specs.ProcessEvent.{started_in}
use Rattle.tftp_supervisor.specs.Watching.{IsStarting}
use Rattle.tftp_supervisor.proofs.supervisor.Supervisor.start_all.Given as goal

abbrev pub invariant-loop-line : goal.invariant-loop-line
invariant-loop-line g l = record {
  starting : IsStarting (g.P.ServerProcesses.log l.processes) l.self;
  started :
      started_in (g.P.ServerProcesses.log l.processes)
      ≡ map (λ line. map string_bytes line.items) (take l.line-index l.servers);
}
