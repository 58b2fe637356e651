-- A draft that is written out.
use Rattle.std.proofs.Common.{◌≡◌, ◌≢◌, [], None, Result, OnOk, OnErr, rules}
use Rattle.std.specs.declared.io.Error.{Error}
use Rattle.tftp_folder.specs.Draft.{IsWrittenOut}
use Rattle.tftp_folder.specs.declared.folder_draft.FolderDraft.{FolderDraft}

-- its buffer is empty, or a call failed
pub written_out : {F : Type 0} (draft : FolderDraft F) (result : Result (Unit {0}) Error)
    → OnOk result (draft.writer.buffer.items ≡ []) → OnErr result (draft.failure ≢ None) → IsWrittenOut draft
written_out draft result empty failed none = search rules
