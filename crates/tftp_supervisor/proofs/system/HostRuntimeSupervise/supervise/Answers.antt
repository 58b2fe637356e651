-- No server was started.
use Rattle.std.proofs.Common.{rules}
use Rattle.tftp_supervisor.proofs.Starting.{first_of_none}
use Rattle.tftp_supervisor.proofs.system.HostRuntimeSupervise.supervise.Goals as goal

pub returns-in-Err-clause-started : goal.returns-in-Err-clause-started
returns-in-Err-clause-started c = search (rules, first_of_none)
