-- All of it is in the file, unless a call failed.
use Rattle.tftp_folder.proofs.WrittenLemmas.{written_out}
use Rattle.tftp_folder.proofs.folder_draft.FolderDraft.write_out.Goals as goal

pub returns-clause-out : goal.returns-clause-out
returns-clause-out g c =
    written_out c.flush.new.self c.flush.result c.flush.ensures.empty c.flush.ensures.failed
