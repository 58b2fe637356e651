-- The lemma that is the law.
use Rattle.tftp_arguments.proofs.Commands.{matches_are_rows as law}
use Rattle.tftp_arguments.proofs.laws.matches_are_rows.Goals as goal

pub returns : goal.returns
returns c = law
