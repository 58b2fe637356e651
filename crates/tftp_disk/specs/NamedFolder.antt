-- The folder in which a file gets its name (ours).
use Rattle.std.specs.Prelude.{ℕ, ◌≡◌, ◌⊎◌, List, ◌∷◌, Option, Some, None, Ok, Err}
use Rattle.std.specs.Prelude.{Contains}
use Rattle.std.specs.IoError.{error_kind}
use Rattle.std.specs.declared.io.Error.{Error}
use Rattle.std.specs.declared.io.ErrorKind.TheVariants as kinds
use Rattle.tftp_disk.specs.Changes.{IsSynced}
use Rattle.tftp_disk.specs.DiskTrace.{DiskEvent, Done, folder_at}
use Rattle.tftp_disk.specs.DiskTrace.DiskEvent.{Folder_opened, Folder_synced}
use Rattle.tftp_disk.specs.Folder.{IsFolderOf}
use Rattle.tftp_disk.specs.declared.disk_file.DiskFolder.{DiskFolder}

-- the user may not read the folder of the path, so that it is not synced: one of these calls was to
-- open it, and was refused for that
abbrev pub MayNotSync : List ℕ → List DiskEvent → Type 0
MayNotSync path calls =
    (at : List ℕ) × (refusal : Error) × IsFolderOf path at
    × (error_kind refusal ≡ kinds.PermissionDenied)
    × Contains calls (Folder_opened at (Err refusal))

-- the folder of the path was opened, or may not be
abbrev pub OpensFolder : {F : Type 0} → List ℕ → Option (DiskFolder F) → List DiskEvent
    → List DiskEvent → Type 0
OpensFolder path (Some folder) before after =
    (at : List ℕ) × IsFolderOf path at × (folder_at folder.trace.events ≡ Some at)
    × (after ≡ Folder_opened at (Ok tt) ∷ before)
OpensFolder path None before after =
    (at : List ℕ) × (refusal : Error) × IsFolderOf path at
    × (error_kind refusal ≡ kinds.PermissionDenied)
    × (after ≡ Folder_opened at (Err refusal) ∷ before)

-- the folder is that of the path, or one of these calls was to open it, and was refused
abbrev pub IsFolderFor : {F : Type 0} → List ℕ → Option (DiskFolder F) → List DiskEvent → Type 0
IsFolderFor path (Some folder) calls =
    (at : List ℕ) × IsFolderOf path at × (folder_at folder.trace.events ≡ Some at)
IsFolderFor path None calls = MayNotSync path calls

-- the folder was not opened
abbrev pub OpensNoFolder : List ℕ → List DiskEvent → List DiskEvent → Type 0
OpensNoFolder path before after =
    (at : List ℕ) × (refusal : Error) × IsFolderOf path at
    × (after ≡ Folder_opened at (Err refusal) ∷ before)

-- the path by which the folder was opened
abbrev pub path_in : {F : Type 0} → Option (DiskFolder F) → Option (List ℕ)
path_in None = None
path_in (Some folder) = folder_at folder.trace.events

-- the folder was synced, unless its file system syncs none or it may not be opened
abbrev pub SyncsFolder : {F : Type 0} → Option (DiskFolder F) → List DiskEvent → List DiskEvent
    → Type 0
SyncsFolder (Some folder) before after =
    (answer : Done) × IsSynced answer
    × (after ≡ Folder_synced (folder_at folder.trace.events) answer ∷ before)
SyncsFolder None before after = after ≡ before

-- the folder could not be synced
abbrev pub SyncsNoFolder : {F : Type 0} → Option (DiskFolder F) → List DiskEvent → Error
    → List DiskEvent → Type 0
SyncsNoFolder (Some folder) before error after =
    after ≡ Folder_synced (folder_at folder.trace.events) (Err error) ∷ before
SyncsNoFolder None before error after = ⊥

-- the folder of the path was synced, unless its file system syncs none or the user may not read it
abbrev pub SyncsAfter : List ℕ → List DiskEvent → List DiskEvent → Type 0
SyncsAfter path before after =
    ((at : List ℕ) × (answer : Done) × IsFolderOf path at × IsSynced answer
    × (after ≡ Folder_synced (Some at) answer ∷ before))
    ⊎ (MayNotSync path before × (after ≡ before))

-- the one call is the opening of the folder of the path
abbrev pub OpensAlone : List ℕ → List DiskEvent → List DiskEvent → Type 0
OpensAlone path before after =
    (at : List ℕ) × (answer : Done) × IsFolderOf path at
    × (after ≡ Folder_opened at answer ∷ before)

-- the one call, if there is one, is a sync of the folder
abbrev pub SyncsAlone : {F : Type 0} → Option (DiskFolder F) → List DiskEvent → List DiskEvent
    → Type 0
SyncsAlone folder before after =
    (after ≡ before)
    ⊎ ((answer : Done) × (after ≡ Folder_synced (path_in folder) answer ∷ before))
