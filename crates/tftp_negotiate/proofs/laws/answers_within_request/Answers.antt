-- The lemma that is the law.
use Rattle.tftp_negotiate.proofs.LawsLemmas.{answers_within_request as law}
use Rattle.tftp_negotiate.proofs.laws.answers_within_request.Goals as goal

pub returns : goal.returns
returns c = law
