-- The folders on the way to a name, as they were looked at before a file got it (ours).
use Rattle.std.specs.Prelude.{ℕ, ◌≡◌, ⊤, List, [], ◌∷◌, ◌++◌, Result, Err}
use Rattle.std.specs.declared.io.Error.{Error}
use Rattle.tftp_disk.specs.DiskTrace.{DiskEvent, Done, FileState}
use Rattle.tftp_disk.specs.DiskTrace.DiskEvent.{Folder_opened, Linked, Looked, Made, Renamed, Tried}
use Rattle.tftp_disk.specs.Folder.{IsFolderOf}
use Rattle.tftp_disk.specs.declared.found.Found.{Found}
use Rattle.tftp_folder.specs.Commit.{lock_of}
use Rattle.tftp_folder.specs.Opened.{AreFolders}
use Rattle.tftp_folder.specs.Placed.{placed}

-- the folder of this path and each above it, up to the root, was looked at, and was a folder and no
-- link. Since then nothing was asked but what a name takes: its folder was opened, what has the name
-- was looked at or tried, its lock was made, or a link to it was refused
pub data IsReached (root path : List ℕ) : List DiskEvent → Type 0 where
  Walked : {folder : List ℕ} {before after : List DiskEvent} → IsFolderOf path folder
      → AreFolders root folder before after → IsReached root path after
  Opens : {folder : List ℕ} {events : List DiskEvent} (answer : Done) → IsFolderOf path folder
      → IsReached root path events → IsReached root path (Folder_opened folder answer ∷ events)
  Looks : {events : List DiskEvent} (answer : Result Found Error) → IsReached root path events
      → IsReached root path (Looked path answer ∷ events)
  Tries : {events : List DiskEvent} (answer : Done) → IsReached root path events
      → IsReached root path (Tried path answer ∷ events)
  Locks : {events : List DiskEvent} (answer : Done) → IsReached root path events
      → IsReached root path (Made (lock_of path) answer ∷ events)
  Refuses : {file : FileState} {from : List ℕ} {events : List DiskEvent} (refusal : Error)
      → IsReached root path events → IsReached root path (Linked file from path (Err refusal) ∷ events)

-- if the newest of these calls was to give a file a name, that was reached so just before
abbrev pub NamesReached : List ℕ → List DiskEvent → Type 0
NamesReached root (Linked file from to answer ∷ before) = IsReached root to before
NamesReached root (Renamed file from to answer ∷ before) = IsReached root to before
NamesReached root calls = ⊤

-- the same of each of these, which are the calls up to some of them
abbrev pub AreReached : List ℕ → List (List DiskEvent) → Type 0
AreReached root [] = ⊤
AreReached root (calls ∷ rest) = NamesReached root calls × AreReached root rest

-- between these calls a file was to get a name only just after each folder on the way to that, below
-- the root, was looked at, and was a folder and no link
pub record ReachesNames (root : List ℕ) (before after : List DiskEvent) : Type 0 where
  pub newer : List (List DiskEvent)
  pub are : placed after ≡ newer ++ placed before
  pub reached : AreReached root newer
