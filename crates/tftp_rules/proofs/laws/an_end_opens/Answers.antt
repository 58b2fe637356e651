-- The lemma that is the law.
use Rattle.tftp_rules.proofs.Refines.{shown_opens}
use Rattle.tftp_rules.proofs.laws.an_end_opens.Goals as goal

pub returns : goal.returns
returns g = shown_opens
