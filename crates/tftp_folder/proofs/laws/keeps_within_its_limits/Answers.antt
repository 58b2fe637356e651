-- Each call stays within the limits.
use Rattle.tftp_folder.proofs.ChangingLemmas.{keeps_within}
use Rattle.tftp_folder.proofs.laws.keeps_within_its_limits.Goals as goal

pub returns : goal.returns
returns g c = keeps_within _
