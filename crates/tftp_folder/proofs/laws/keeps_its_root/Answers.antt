-- No call follows a path.
use Rattle.tftp_folder.proofs.ChangingLemmas.{keeps_root}
use Rattle.tftp_folder.proofs.laws.keeps_its_root.Goals as goal

pub returns : goal.returns
returns g c = keeps_root _
