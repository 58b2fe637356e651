-- The lemma that is the law.
use Rattle.tftp_folder.proofs.HeldLemmas.{stores_keep_drafts}
use Rattle.tftp_folder.proofs.laws.drafts_are_taken_by_their_holders.Goals as goal

pub returns : goal.returns
returns c = stores_keep_drafts
