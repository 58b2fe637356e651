-- Each server ended with the status 0.
use Rattle.std.proofs.Common.{rules}
use Rattle.tftp_supervisor.proofs.Starting.{ended_well}
use Rattle.tftp_supervisor.proofs.supervisor.supervise.Goals as goal

pub returns-in-Ok-clause-ended : goal.returns-in-Ok-clause-ended
returns-in-Ok-clause-ended g c = search (rules, ended_well)
