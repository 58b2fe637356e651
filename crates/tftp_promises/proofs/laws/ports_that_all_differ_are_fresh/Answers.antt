-- The lemma that is the law.
use Rattle.tftp_promises.proofs.KeptFresh.{fresh_ports}
use Rattle.tftp_promises.proofs.laws.ports_that_all_differ_are_fresh.Goals as goal

pub returns : goal.returns
returns g c = λ programs. fresh_ports programs
