-- The path is that of the file after the commit.
use Rattle.std.proofs.Common.{rules}
use Rattle.tftp_folder.proofs.folder_draft.FolderDraft.is_at_target.Goals as goal

pub returns-clause-inside : goal.returns-clause-inside
returns-clause-inside g c = search rules
