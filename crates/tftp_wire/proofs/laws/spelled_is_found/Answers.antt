-- The lemma that is the law.
use Rattle.tftp_wire.proofs.SpellingLemmas.{spelled_is_found as law}
use Rattle.tftp_wire.proofs.laws.spelled_is_found.Goals as goal

pub returns : goal.returns
returns c = law
