-- The calls by which a client writes a fetched file and gives it its name (own).
use Rattle.std.specs.List.{AllByRecursion}
use Rattle.std.specs.Prelude.{ℕ, ◌≡◌, ◌≤◌, ◌⊎◌, ⊤, Bool, true, false, List, [], ◌∷◌, Option, Some}
use Rattle.std.specs.Prelude.{Result, Ok, Err}
use Rattle.std.specs.IoError.{error_kind}
use Rattle.std.specs.declared.io.Error.{Error}
use Rattle.std.specs.declared.io.ErrorKind.TheVariants as kinds
use Rattle.tftp_disk.specs.Changes.{IsSynced}
use Rattle.tftp_disk.specs.DiskTrace.{DiskEvent, Done, FileState}
use Rattle.tftp_disk.specs.DiskTrace.DiskEvent.{Looked, Made, Linked, Renamed, Removed}
use Rattle.tftp_disk.specs.DiskTrace.DiskEvent.{Folder_opened, Folder_synced}
use Rattle.tftp_disk.specs.Folder.{IsFolderOf}
use Rattle.tftp_disk.specs.Still.{IsStillAt}
use Rattle.tftp_disk.specs.declared.found.Found.{Found}

-- the names of a fetched file: its own, and that under which it is written; and whether a file that
-- has its own is replaced
pub record Paths : Type 0 where
  pub local : List ℕ
  pub part : List ℕ
  pub replaces : Bool

-- who may read, write and run a file: no bit of its mode that is above these
abbrev pub ArePermissions : ℕ → Type 0
ArePermissions mode = mode ≤ 511

-- a file was made at this path, and these bytes were written to it, in order and each once; a sync
-- succeeded after the last write, and none failed; and each mode that it was to have is permissions
-- alone
pub record IsWholeAt (part bytes : List ℕ) (file : FileState) : Type 0 where
  pub place : file.made_at ≡ Some part
  pub content : file.written ≡ bytes
  pub synced : file.is_synced ≡ true
  pub sound : file.sync_failed ≡ false
  pub modes : ∥ AllByRecursion ArePermissions file.modes ∥₁

-- ---- its folder
-- the call was to open the folder of the path, and was refused since the user may not read it
abbrev pub Bars : List ℕ → DiskEvent → Type 0
Bars path (Folder_opened at (Err refusal)) =
    IsFolderOf path at × (error_kind refusal ≡ kinds.PermissionDenied)
Bars path event = ⊥

-- one of these calls was
abbrev pub IsBarred : List ℕ → List DiskEvent → Type 0
IsBarred path [] = ⊥
IsBarred path (event ∷ events) = Bars path event ⊎ IsBarred path events

-- the folder was synced, unless its file system syncs none, or the system answered one of all these
-- calls that the user may not read it
abbrev pub SyncsIn : List ℕ → List DiskEvent → List DiskEvent → List DiskEvent → Type 0
SyncsIn path all before after =
    ((at : List ℕ) × (answer : Done) × IsFolderOf path at × IsSynced answer
    × (after ≡ Folder_synced (Some at) answer ∷ before))
    ⊎ (IsBarred path all × (after ≡ before))

-- ---- its name
-- nothing was found at the path
abbrev pub FindsNothing : List ℕ → List DiskEvent → List DiskEvent → Type 0
FindsNothing path before after =
    (absence : Error) × (error_kind absence ≡ kinds.NotFound)
    × (after ≡ Looked path (Err absence) ∷ before)

-- nothing was
abbrev pub IsAbsent : Result Found Error → Type 0
IsAbsent (Ok found) = ⊥
IsAbsent (Err error) = error_kind error ≡ kinds.NotFound

-- the system made no link
abbrev pub IsUnlinked : Paths → FileState → List DiskEvent → List DiskEvent → Type 0
IsUnlinked paths file before after =
    (refusal : Error) × (after ≡ Linked file paths.part paths.local (Err refusal) ∷ before)

-- the same, and then nothing was found at the name
abbrev pub LinksNone : Paths → FileState → List DiskEvent → List DiskEvent → Type 0
LinksNone paths file before after =
    (unlinked : List DiskEvent) × IsUnlinked paths file before unlinked
    × FindsNothing paths.local unlinked after

-- just before
abbrev pub WasUnlinked : Paths → List DiskEvent → Type 0
WasUnlinked paths before =
    (file : FileState) × (earlier : List DiskEvent) × IsUnlinked paths file earlier before

-- by how the folder was synced, between these calls
module _ (Syncs : List DiskEvent → List DiskEvent → Type 0) where
  -- the file was renamed, over what had the name, and then the folder was synced
  abbrev pub Renames : Paths → FileState → List DiskEvent → List DiskEvent → Type 0
  Renames paths file before after =
      Syncs (Renamed file paths.part paths.local (Ok tt) ∷ before) after

  -- the folder was synced, and then the first name removed
  abbrev pub KeepsOne : Paths → List DiskEvent → List DiskEvent → Type 0
  KeepsOne paths before after =
      (synced : List DiskEvent) × (removal : Done) × Syncs before synced
      × (after ≡ Removed paths.part removal ∷ synced)

  -- the file got a second name, which no file had, and then it kept that alone
  abbrev pub Links : Paths → FileState → List DiskEvent → List DiskEvent → Type 0
  Links paths file before after =
      KeepsOne paths (Linked file paths.part paths.local (Ok tt) ∷ before) after

  -- the file got its name: where it may replace one, by a rename; else by a link, which never
  -- replaces one, or, if the system makes none and nothing is found at the name, by a rename
  abbrev pub NamesFile : Bool → Paths → FileState → List DiskEvent → List DiskEvent → Type 0
  NamesFile true paths file before after = Renames paths file before after
  NamesFile false paths file before after =
      Links paths file before after
      ⊎ ((unlinked : List DiskEvent) × LinksNone paths file before unlinked
      × Renames paths file unlinked after)

  -- the newest of these calls gave the name to a file of just these bytes, which was still what had
  -- its first name
  abbrev pub NamesBytes : Paths → List ℕ → List DiskEvent → Type 0
  NamesBytes paths bytes after =
      (file : FileState) × (before : List DiskEvent) × IsWholeAt paths.part bytes file
      × ∥ IsStillAt paths.part file.made_when before ∥₁
      × NamesFile paths.replaces paths file before after

-- the same; the folder of the name was synced then, and these are the last of all the calls: nothing
-- was asked of the disk after them
abbrev pub WasNamed : Paths → List ℕ → List DiskEvent → Type 0
WasNamed paths bytes after = NamesBytes (SyncsIn paths.local after) paths bytes after

-- the folder could not be synced, and the name was removed again
abbrev pub LosesName : Paths → List DiskEvent → List DiskEvent → Type 0
LosesName paths before after =
    (folder : Option (List ℕ)) × (error : Error) × (removal : Done)
    × (after ≡ Removed paths.local removal ∷ Folder_synced folder (Err error) ∷ before)

-- ---- no other file
-- a rename replaces no file, unless it is to: the system made no link just before, and nothing was
-- found at the name
abbrev pub MayRename : Paths → List DiskEvent → Type 0
MayRename paths before =
    (paths.replaces ≡ true)
    ⊎ ((file : FileState) × (earlier : List DiskEvent) × LinksNone paths file earlier before)

-- the file got its name by a link just before, and the folder could not be synced
abbrev pub HasUnsyncedName : Paths → List DiskEvent → Type 0
HasUnsyncedName paths before =
    (file : FileState) × (folder : Option (List ℕ)) × (error : Error) × (earlier : List DiskEvent)
    × (before ≡ Folder_synced folder (Err error)
    ∷ Linked file paths.part paths.local (Ok tt) ∷ earlier)

-- a call, after those, that changes no other name than those of the file: that under which it is
-- written is made and removed; its own is given, and removed only if it was new and could not be
-- synced
abbrev pub IsOwnCall : Paths → DiskEvent → List DiskEvent → Type 0
IsOwnCall paths (Made path answer) before = path ≡ paths.part
IsOwnCall paths (Removed path answer) before =
    (path ≡ paths.part) ⊎ ((path ≡ paths.local) × HasUnsyncedName paths before)
IsOwnCall paths (Linked file from to answer) before = (from ≡ paths.part) × (to ≡ paths.local)
IsOwnCall paths (Renamed file from to answer) before =
    (from ≡ paths.part) × (to ≡ paths.local) × MayRename paths before
IsOwnCall paths event before = ⊤

-- all these calls are such
abbrev pub AreOwn : Paths → List DiskEvent → Type 0
AreOwn paths [] = ⊤
AreOwn paths (event ∷ events) = IsOwnCall paths event events × AreOwn paths events

-- ---- what a failed one leaves
-- the file, whole, was renamed to its name, over what had it, and then the folder could not be
-- synced: it has the name
abbrev pub MovesUnsynced : Paths → List ℕ → List DiskEvent → Type 0
MovesUnsynced paths bytes after =
    (file : FileState) × (before : List DiskEvent) × (folder : Option (List ℕ)) × (error : Error)
    × IsWholeAt paths.part bytes file × ∥ IsStillAt paths.part file.made_when before ∥₁
    × (after ≡ Folder_synced folder (Err error)
    ∷ Renamed file paths.part paths.local (Ok tt) ∷ before)

-- ---- what stays
-- the calls from the one list to the other are of no other file, and a folder that may not be read
-- stays so
pub record Keeps (paths : Paths) (before after : List DiskEvent) : Type 0 where
  pub own : AreOwn paths before → AreOwn paths after
  pub barred : IsBarred paths.local before → IsBarred paths.local after

-- the same, of a file whose names stay the same; once it was to get its name, which is tried once,
-- its disk is asked for nothing more
pub record KeepsPlace (paths paths' : Paths) (tried tried' : Bool) (before after : List DiskEvent)
    : Type 0 where
  pub same : paths' ≡ paths
  pub keeps : Keeps paths before after
  pub rests : tried ≡ true → (tried' ≡ true) × (after ≡ before)
