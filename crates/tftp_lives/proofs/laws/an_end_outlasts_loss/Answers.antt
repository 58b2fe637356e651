-- The lemma that is the law.
use Rattle.tftp_lives.proofs.Outlasts.{ends_outlast_loss}
use Rattle.tftp_lives.proofs.laws.an_end_outlasts_loss.Goals as goal

pub returns : goal.returns
returns g c = ends_outlast_loss _ _ _ _
