-- The lemma that is the law.
use Rattle.tftp_rules.proofs.Refines.{shown_acts}
use Rattle.tftp_rules.proofs.laws.an_end_goes_on.Goals as goal

pub returns : goal.returns
returns g = shown_acts
