-- The lemma that is the law.
use Rattle.tftp_folder.proofs.LockLemmas.{stores_keep_locks}
use Rattle.tftp_folder.proofs.laws.locks_are_removed_by_their_makers.Goals as goal

pub returns : goal.returns
returns c = stores_keep_locks
