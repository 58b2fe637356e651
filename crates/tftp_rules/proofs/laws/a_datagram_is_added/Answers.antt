-- The lemma that is the law.
use Rattle.tftp_rules.proofs.Refines.{shown_speaks}
use Rattle.tftp_rules.proofs.laws.a_datagram_is_added.Goals as goal

pub returns : goal.returns
returns g = shown_speaks
