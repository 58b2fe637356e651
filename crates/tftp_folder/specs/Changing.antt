-- What a store over a folder changes on the disk (ours).
use Rattle.std.specs.Prelude.{ℕ, ◌≡◌, ◌⊎◌, ⊤, Bool, true, false, List, [], ◌∷◌, ◌++◌, Ok, Option, IfSome}
use Rattle.std.specs.String.{string_bytes}
use Rattle.tftp_file.specs.Path.{IsPath}
use Rattle.tftp_disk.specs.Changes.{changes}
use Rattle.tftp_disk.specs.DiskTrace.{DiskEvent, Done, FileState}
use Rattle.tftp_disk.specs.DiskTrace.DiskEvent.{Made, Locked, Linked, Renamed, Removed}
use Rattle.tftp_disk.specs.DiskTrace.DiskEvent.{Folder_opened, Folder_synced}
use Rattle.tftp_disk.specs.Still.{AllLeave}
use Rattle.tftp_store.specs.Drafts.{CallsKeep}
use Rattle.tftp_store.specs.Store.{StoreMeaning}
use Rattle.tftp_folder.specs.Begin.{IsDraftOf, TriesDraft}
use Rattle.tftp_folder.specs.Commit.{lock_of}
use Rattle.tftp_folder.specs.Draft.{BeginsAt, GivesName, NamesNothing}
use Rattle.tftp_folder.specs.Effects.{changes_of}
use Rattle.tftp_folder.specs.Inside.{AreInside, IsInside}
use Rattle.tftp_folder.specs.Opened.{IsRootOf}
use Rattle.tftp_folder.specs.Placed.{placed}
use Rattle.tftp_folder.specs.Reached.{AreReached}
use Rattle.tftp_folder.specs.Uploads.{IsBelow, path_below}
use Rattle.tftp_folder.specs.declared.folder_draft.FolderDraft.{FolderDraft}
use Rattle.tftp_folder.specs.declared.folder_store.FolderStore.{FolderStore}

-- where a store may change files: its root, the folder of its drafts, whether it refuses writes,
-- and the folder below the root that takes all writes, if one does
pub record Limits : Type 0 where
  pub root : List ℕ
  pub drafts : List ℕ
  pub read_only : Bool
  pub uploads : Option (List ℕ)

module _ {D G H K : Type 0} where
  -- those of a store
  abbrev pub limits_of : FolderStore D G H K → Limits
  limits_of store =
      record {
        root = string_bytes store.folder.root;
        drafts = string_bytes store.folder.drafts;
        read_only = store.is_read_only;
        uploads = store.uploads;
      }

-- the path of a draft in this folder
abbrev pub IsDraftIn : List ℕ → List ℕ → Type 0
IsDraftIn folder path = (port : ℕ) × IsDraftOf folder port path

-- the place of a path that a client can name, below the folder of uploads if there is one
pub record IsTarget (limits : Limits) (target : List ℕ) : Type 0 where
  pub path : List ℕ
  pub is_path : IsPath path
  pub place : target ≡ path_below limits.root path
  pub uploads : IfSome limits.uploads (λ folder. IsBelow folder path)

-- the store asked the system to give a file this name
abbrev pub IsGiven : List ℕ → List DiskEvent → Type 0
IsGiven path [] = ⊥
IsGiven path (Linked file from to answer ∷ events) = (path ≡ to) ⊎ IsGiven path events
IsGiven path (Renamed file from to answer ∷ events) = (path ≡ to) ⊎ IsGiven path events
IsGiven path (event ∷ events) = IsGiven path events

-- the path is that of the lock of such a place
abbrev pub IsLock : Limits → List ℕ → Type 0
IsLock limits path =
    (target : List ℕ) × IsTarget limits target × (path ≡ lock_of target)

-- the lock at this path was made by one of these calls, and each since has left it
pub record HoldsLock (path : List ℕ) (calls : List DiskEvent) : Type 0 where
  pub since : List DiskEvent
  pub before : List DiskEvent
  pub made : calls ≡ since ++ Made path (Ok tt) ∷ before
  pub left : AllLeave path since

-- who asked these calls may remove the draft at this path: the newest locked the file there, which
-- no other program has locked since; or gave it its name, by a link, and synced the folder, or not
pub data MayGo (path : List ℕ) : List DiskEvent → Type 0 where
  Is_locked : {calls : List DiskEvent} → MayGo path (Locked path (Ok tt) ∷ calls)
  Is_linked : {file : FileState} {to : List ℕ} {calls : List DiskEvent}
      → MayGo path (Linked file path to (Ok tt) ∷ calls)
  Is_synced : {file : FileState} {to : List ℕ} {at : Option (List ℕ)} {answer : Done}
      {calls : List DiskEvent}
      → MayGo path (Folder_synced at answer ∷ Linked file path to (Ok tt) ∷ calls)

-- a change by a store that does not refuse writes
pub record Admits (limits : Limits) (Change : Type 0) : Type 0 where
  pub admitted : limits.read_only ≡ false
  pub change : Change

-- a call after these others, the newest first, that changes something: a draft is made, or is given
-- a name that a client can spell; it is removed once it has that, or was locked; a name that was
-- asked for is removed, and the lock of one is made, and removed by the store that made it; no
-- other file is made, locked, removed or renamed. Folders are opened and synced for such a name
-- alone
abbrev pub IsChange : Limits → DiskEvent → List DiskEvent → Type 0
IsChange limits (Made path answer) before =
    Admits limits (IsDraftIn limits.drafts path ⊎ IsLock limits path)
IsChange limits (Locked path answer) before = Admits limits (IsDraftIn limits.drafts path)
IsChange limits (Removed path answer) before =
    Admits limits ((IsDraftIn limits.drafts path × MayGo path before)
    ⊎ (IsTarget limits path × IsGiven path before)
    ⊎ (IsLock limits path × HoldsLock path before))
IsChange limits (Linked file from to answer) before =
    Admits limits (IsDraftIn limits.drafts from × IsTarget limits to)
IsChange limits (Renamed file from to answer) before =
    Admits limits (IsDraftIn limits.drafts from × IsTarget limits to)
IsChange limits (Folder_opened path answer) before = Admits limits ⊤
IsChange limits (Folder_synced path answer) before = Admits limits ⊤
IsChange limits event before = ⊤

-- each of these calls is such
abbrev pub AreChanges : Limits → List DiskEvent → Type 0
AreChanges limits [] = ⊤
AreChanges limits (event ∷ events) = IsChange limits event events × AreChanges limits events

-- a draft's path and the place of its file, as a store that admits it gives them
pub record IsOwn (limits : Limits) (draft target : List ℕ) : Type 0 where
  pub admitted : limits.read_only ≡ false
  pub is_draft : IsDraftIn limits.drafts draft
  pub is_target : IsTarget limits target

-- calls that try to begin a draft at its paths change nothing else, and in a store that refuses
-- writes nothing
abbrev pub BeginStaysWithin : Type 0
BeginStaysWithin =
    (limits : Limits) (port : ℕ) (before after : List DiskEvent)
    → (limits.read_only ≡ true → after ≡ before)
    → TriesDraft limits.drafts port before after → AreChanges limits before
    → AreChanges limits after

module _ {F : Type 0} where
  -- a draft that is begun at its path for a path that the store admits is the store's
  abbrev pub BeginsOwn : FolderDraft F → Type 0
  BeginsOwn draft =
      (limits : Limits) (port : ℕ) (path : List ℕ) (before after : List DiskEvent)
      → IsPath path → limits.read_only ≡ false → IfSome limits.uploads (λ folder. IsBelow folder path)
      → BeginsAt limits.drafts port (path_below limits.root path) draft before after
      → IsOwn limits (string_bytes draft.draft) (string_bytes draft.target)

  -- calls that give a draft its name, if it is the store's
  abbrev pub CommitStaysWithin : FolderDraft F → Type 0
  CommitStaysWithin draft =
      (limits : Limits) (replaces : Bool) (before after : List DiskEvent)
      → IsOwn limits (string_bytes draft.draft) (string_bytes draft.target)
      → GivesName draft before replaces after ⊎ NamesNothing draft before replaces after
      → AreChanges limits before → AreChanges limits after

module _ {D G H K : Type 0} (log : D → List DiskEvent) where
  -- a store has these limits, and has changed nothing beyond them; it passed no path outside its
  -- root to the system, and its folder of drafts is inside the root. Each call that was to give a
  -- file a name came just after looks at the folders on the way to that: each was a folder, and no
  -- link
  pub record IsWithin (limits : Limits) (store : FolderStore D G H K) : Type 0 where
    pub has : limits_of store ≡ limits
    pub changed : AreChanges limits (changes_of log store)
    pub drafts : IsInside limits.root limits.drafts
    pub inside : AreInside limits.root (log store.disk)
    pub reached : AreReached limits.root (placed (log store.disk))

module _ {D G H K F : Type 0} (log : D → List DiskEvent) where
  -- each call of a store that is within its limits keeps it so, and its drafts its own
  abbrev pub KeepsWithin : StoreMeaning (FolderStore D G H K) (FolderDraft F) → Type 0
  KeepsWithin stores =
      (limits : Limits) → CallsKeep (IsWithin log limits)
      (λ draft. IsOwn limits (string_bytes draft.draft) (string_bytes draft.target)) stores

module _ {D G H K F : Type 0} (log : D → List DiskEvent) where
  -- each call of a store keeps that this is its root
  abbrev pub KeepsRoot : StoreMeaning (FolderStore D G H K) (FolderDraft F) → Type 0
  KeepsRoot stores =
      (path root : List ℕ) (first : List DiskEvent)
      → CallsKeep (λ store. IsRootOf path root first (log store.disk)) (λ draft. ⊤) stores

-- a store that refuses writes, and is within its limits, has changed nothing on the disk
abbrev pub ReadOnlyChangesNothing : Type 0
ReadOnlyChangesNothing =
    (limits : Limits) (calls : List DiskEvent) → limits.read_only ≡ true
    → AreChanges limits (changes calls) → changes calls ≡ []
