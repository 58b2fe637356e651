-- The lemmas that are the law.
use Rattle.tftp_rules.proofs.Blocks.{take-block}
use Rattle.tftp_rules.proofs.ViewSafe.{first_of_empty}
use Rattle.tftp_rules.proofs.laws.texts_go_on.Goals as goal

pub returns-clause-blocks : goal.returns-clause-blocks
returns-clause-blocks g = take-block

pub returns-clause-nothing : goal.returns-clause-nothing
returns-clause-nothing g = first_of_empty
