-- The lemma that is the law.
use Rattle.tftp_promises.proofs.ClientsRun.{servers_run}
use Rattle.tftp_promises.proofs.laws.a_server_is_one_run.Goals as goal

pub returns : goal.returns
returns g c = servers_run _ _
