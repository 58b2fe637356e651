-- The path is that of the draft.
use Rattle.std.proofs.Common.{rules}
use Rattle.tftp_folder.proofs.folder_draft.FolderDraft.is_at_draft.Goals as goal

pub returns-clause-inside : goal.returns-clause-inside
returns-clause-inside g c = search rules
