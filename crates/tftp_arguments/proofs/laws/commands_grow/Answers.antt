-- The lemma that is the law.
use Rattle.tftp_arguments.proofs.Commands.{commands_grow as law}
use Rattle.tftp_arguments.proofs.laws.commands_grow.Goals as goal

pub returns : goal.returns
returns c = law
