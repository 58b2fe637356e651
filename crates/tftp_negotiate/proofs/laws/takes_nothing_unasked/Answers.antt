-- The lemma that is the law.
use Rattle.tftp_negotiate.proofs.LawsLemmas.{takes_nothing_unasked as law}
use Rattle.tftp_negotiate.proofs.laws.takes_nothing_unasked.Goals as goal

pub returns : goal.returns
returns c = law
