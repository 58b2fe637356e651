-- The lemma that is the law.
use Rattle.tftp_wire.proofs.SpellingLemmas.{one_meaning as law}
use Rattle.tftp_wire.proofs.laws.one_meaning.Goals as goal

pub returns : goal.returns
returns c = law
