-- The lemmas that are the law.
use Rattle.tftp_promises.proofs.ClientsRun.{clients_are_programs, clients_run}
use Rattle.tftp_promises.proofs.laws.a_client_is_one_run.Goals as goal

pub returns-clause-runs : goal.returns-clause-runs
returns-clause-runs g c = clients_run _ _

pub returns-clause-programs : goal.returns-clause-programs
returns-clause-programs g c = clients_are_programs _ _
