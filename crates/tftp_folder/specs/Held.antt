-- Who takes away what has the path of a draft, in a folder that several programs share (ours).
use Rattle.std.specs.Prelude.{ℕ, ◌≡◌, ◌≢◌, ◌⊎◌, ⊤, List, [], ◌∷◌, ◌++◌, Ok}
use Rattle.tftp_disk.specs.Changes.{changes}
use Rattle.tftp_disk.specs.DiskTrace.{DiskEvent}
use Rattle.tftp_disk.specs.DiskTrace.DiskEvent.{Made, Locked, Linked, Renamed, Removed}
use Rattle.tftp_disk.specs.Still.{AllLeave}
use Rattle.tftp_folder.specs.Changing.{AreChanges, IsDraftIn, Limits}
use Rattle.tftp_folder.specs.Placed.{NamesThere}

-- a program took the file at this path: it made it there, or locked what it found there
abbrev pub Takes : List ℕ → DiskEvent → Type 0
Takes path call = (call ≡ Made path (Ok tt)) ⊎ (call ≡ Locked path (Ok tt))

-- by its own calls a program holds the file at this path: it took it by one of them, and none since
-- took the path away
pub record HoldsDraft (path : List ℕ) (calls : List DiskEvent) : Type 0 where
  pub since : List DiskEvent
  pub first : DiskEvent
  pub before : List DiskEvent
  pub is : calls ≡ since ++ first ∷ before
  pub takes : Takes path first
  pub left : AllLeave path since

-- a call of a program, after these others of it, that was to remove the path, or to link or rename
-- what has it: the program holds that, by its own calls. Nothing is to get the path as its name
abbrev pub KeepsDraft : List ℕ → DiskEvent → List DiskEvent → Type 0
KeepsDraft path (Removed at answer) before = path ≡ at → HoldsDraft path before
KeepsDraft path (Linked file from to answer) before = (path ≡ from → HoldsDraft path before) × (path ≢ to)
KeepsDraft path (Renamed file from to answer) before = (path ≡ from → HoldsDraft path before) × (path ≢ to)
KeepsDraft path event before = ⊤

-- each of its calls is such
abbrev pub KeepDraft : List ℕ → List DiskEvent → Type 0
KeepDraft path [] = ⊤
KeepDraft path (event ∷ events) = KeepsDraft path event events × KeepDraft path events

-- a store that changes nothing beyond its limits, and names only files that by its own calls are
-- still where it made them, keeps to that, of the path of a draft of any store
abbrev pub StoresKeepDrafts : Type 0
StoresKeepDrafts =
    (limits : Limits) (folder path : List ℕ) (calls : List DiskEvent) → IsDraftIn folder path
    → AreChanges limits (changes calls) → NamesThere calls → KeepDraft path calls
