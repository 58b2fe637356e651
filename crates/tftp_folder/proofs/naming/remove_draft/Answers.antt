-- The own path of a draft is removed, and no file gets a name.
use Rattle.tftp_folder.proofs.LeavesLemmas.{remove_unnamed}
use Rattle.tftp_folder.proofs.naming.remove_draft.Goals as goal

pub returns-in-Linked-clause-unnamed : goal.returns-in-Linked-clause-unnamed
returns-in-Linked-clause-unnamed g c = remove_unnamed _ _ _ _ c.remove.ensures
