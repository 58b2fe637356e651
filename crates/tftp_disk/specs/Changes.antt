-- The calls of a disk trace that change something of the disk (ours).
use Rattle.std.specs.Prelude.{◌≡◌, ◌⊎◌, ⊤, List, [], ◌∷◌, Ok, Err}
use Rattle.std.specs.IoError.{error_kind}
use Rattle.std.specs.declared.io.ErrorKind.TheVariants as kinds
use Rattle.tftp_disk.specs.DiskTrace.{DiskEvent, Done}
use Rattle.tftp_disk.specs.DiskTrace.DiskEvent.{Made, Locked, Linked, Renamed, Removed}
use Rattle.tftp_disk.specs.DiskTrace.DiskEvent.{Folder_opened, Folder_synced}

-- the calls that make, lock, name or remove a file, and those that open and sync a folder, whatever
-- their answer; all others only look, open a file and read
abbrev pub changes : List DiskEvent → List DiskEvent
changes [] = []
changes (Made path answer ∷ events) = Made path answer ∷ changes events
changes (Locked path answer ∷ events) = Locked path answer ∷ changes events
changes (Linked file from to answer ∷ events) = Linked file from to answer ∷ changes events
changes (Renamed file from to answer ∷ events) = Renamed file from to answer ∷ changes events
changes (Removed path answer ∷ events) = Removed path answer ∷ changes events
changes (Folder_opened path answer ∷ events) = Folder_opened path answer ∷ changes events
changes (Folder_synced path answer ∷ events) = Folder_synced path answer ∷ changes events
changes (event ∷ events) = changes events

-- the calls up to each rename, whatever its answer: the newest rename first
abbrev pub renames : List DiskEvent → List (List DiskEvent)
renames [] = []
renames (Renamed file from to answer ∷ events) =
    (Renamed file from to answer ∷ events) ∷ renames events
renames (event ∷ events) = renames events

-- a folder was synced, or its file system syncs none
abbrev pub IsSynced : Done → Type 0
IsSynced (Ok done) = ⊤
IsSynced (Err error) =
    (error_kind error ≡ kinds.InvalidInput) ⊎ (error_kind error ≡ kinds.Unsupported)
