-- The lemma that is the law.
use Rattle.tftp_promises.proofs.Fated.{requests_settled}
use Rattle.tftp_promises.proofs.laws.each_request_is_settled.Goals as goal

pub returns : goal.returns
returns g c = requests_settled _ _
