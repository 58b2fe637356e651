-- The lemmas that are the law.
use Rattle.tftp_file.proofs.BlockLemmas.{blocks_join}
use Rattle.tftp_file.proofs.laws.blocks.Goals as goal

pub returns-clause-joined : goal.returns-clause-joined
returns-clause-joined c = blocks_join
