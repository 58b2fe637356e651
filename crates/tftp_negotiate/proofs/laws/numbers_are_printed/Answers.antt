-- The lemma that is the law.
use Rattle.tftp_negotiate.proofs.LawsLemmas.{numbers_are_printed as law}
use Rattle.tftp_negotiate.proofs.laws.numbers_are_printed.Goals as goal

pub returns : goal.returns
returns c = law
