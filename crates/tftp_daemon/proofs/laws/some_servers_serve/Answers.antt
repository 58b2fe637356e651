-- The lemma that is the law.
use Rattle.tftp_daemon.proofs.WitnessServers.{some_serve}
use Rattle.tftp_daemon.proofs.laws.some_servers_serve.Goals as goal

pub returns : goal.returns
returns c = some_serve
