-- The lemma that is the law.
use Rattle.tftp_negotiate.proofs.LawsLemmas.{ends_agree as law}
use Rattle.tftp_negotiate.proofs.laws.ends_agree.Goals as goal

pub returns : goal.returns
returns c = law
