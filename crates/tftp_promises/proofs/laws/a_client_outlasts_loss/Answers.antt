-- The lemma that is the law.
use Rattle.tftp_promises.proofs.Outlasting.{programs_outlast_loss}
use Rattle.tftp_promises.proofs.laws.a_client_outlasts_loss.Goals as goal

pub returns : goal.returns
returns g c = programs_outlast_loss _ _ _ _
