-- How a store over a folder finds and opens a file to be read (ours).
use Rattle.std.specs.Prelude.{ℕ, ◌≡◌, ◌≤◌, ◌⊎◌, true, max, List, []}
use Rattle.std.specs.Prelude.{◌∷◌, length, Option, Some, IfSome, Ok}
use Rattle.tftp_disk.specs.DiskTrace.{DiskEvent}
use Rattle.tftp_disk.specs.DiskTrace.DiskEvent.{Looked, Followed, Resolved, Opened}
use Rattle.tftp_disk.specs.Given.{examined, opened_at}
use Rattle.tftp_disk.specs.Folder.{IsFolderOf}
use Rattle.tftp_disk.specs.Found.{is_same_file}
use Rattle.tftp_disk.specs.declared.found.FileId.{FileId}
use Rattle.tftp_disk.specs.declared.found.Found.{Found}
use Rattle.tftp_disk.specs.declared.found.Kind.TheVariants.{Regular, Folder}
use Rattle.tftp_folder.specs.Inside.{IsRootText}
use Rattle.tftp_folder.specs.Uploads.{IsBelow, path_below}

-- the calls up to each look at what a path leads to, whatever its answer: the newest first
abbrev pub follows : List DiskEvent → List (List DiskEvent)
follows [] = []
follows (Followed path answer ∷ events) = (Followed path answer ∷ events) ∷ follows events
follows (event ∷ events) = follows events

-- the root is the folder that the system resolved the operator's path to, without its last slash:
-- by the oldest calls after those before, and nothing was followed since
pub record IsRootOf (path root : List ℕ) (before after : List DiskEvent) : Type 0 where
  pub text : List ℕ
  pub found : Found
  pub looked : follows after
      ≡ (Followed text (Ok found) ∷ Resolved path (Ok text) ∷ before) ∷ follows before
  pub is_folder : found.kind ≡ Folder
  pub whole : IsRootText root text

-- the path and each above it, up to the root, was looked at, and is a folder and no link
pub data AreFolders (root : List ℕ) : List ℕ → List DiskEvent → List DiskEvent → Type 0 where
  Above : {path : List ℕ} {events : List DiskEvent} → length path ≤ max (length root) 1
      → AreFolders root path events events
  Then : {path above : List ℕ} {found : Found} {before after : List DiskEvent}
      → found.kind ≡ Folder → IsFolderOf path above
      → AreFolders root above (Looked path (Ok found) ∷ before) after
      → AreFolders root path before after

-- the newest look was at the path, if a file was found
abbrev pub LooksLast : List ℕ → Option Found → List DiskEvent → Type 0
LooksLast at found after =
    IfSome found (λ seen. (before : List DiskEvent) × (after ≡ Looked at (Ok seen) ∷ before))

-- the system resolved the path to one that is below the root, and then that was looked at
abbrev pub FollowsTo : (root path at : List ℕ) → Option Found → List DiskEvent → Type 0
FollowsTo root path at found after =
    IfSome found (λ seen. (before : List DiskEvent) × IsBelow root at
    × (after ≡ Looked at (Ok seen) ∷ Resolved path (Ok at) ∷ before))

-- the path of a request is there in the root, or the system resolved it to a path that is below the
-- root and has no links
abbrev pub LeadsTo : (root path at : List ℕ) → List DiskEvent → Type 0
LeadsTo root path at before =
    (at ≡ path_below root path)
    ⊎ (IsBelow root at
    × ((first : List DiskEvent) × (before ≡ Resolved (path_below root path) (Ok at) ∷ first)))

-- the newest look was at the place of a request's path, if a file was found there
abbrev pub FindsAt : (root path at : List ℕ) → Option Found → List DiskEvent → Type 0
FindsAt root path at found after =
    IfSome found (λ seen. (before : List DiskEvent) × LeadsTo root path at before
    × (after ≡ Looked at (Ok seen) ∷ before))

-- each folder of the path was looked at, and is no link, and then the file was still there
pub record IsStill (root path : List ℕ) (id : FileId) (before after : List DiskEvent) : Type 0 where
  pub folder : List ℕ
  pub is_folder : IsFolderOf path folder
  pub looked : List DiskEvent
  pub folders : AreFolders root folder before looked
  pub again : Found
  pub newest : after ≡ Looked path (Ok again) ∷ looked
  pub same : is_same_file id again.id ≡ true

-- a file was opened at the path: it is the one that was seen, and is still there
pub record OpensSeen (root path : List ℕ) (seen : FileId) (opened : Found)
    (before after : List DiskEvent) : Type 0 where
  pub same : is_same_file opened.id seen ≡ true
  pub still : IsStill root path seen (Opened path (Ok tt) ∷ before) after

-- a regular file was found at the place of the path, and opened there; `after` are the calls on
-- paths, `file` those on the open file
pub record OpensAt (root path : List ℕ) (opened : Found) (after file : List DiskEvent) : Type 0 where
  pub at : List ℕ
  pub seen : Found
  pub before : List DiskEvent
  pub place : LeadsTo root path at before
  pub regular : seen.kind ≡ Regular
  pub opens : OpensSeen root at seen.id opened (Looked at (Ok seen) ∷ before) after
  pub file_at : opened_at file ≡ Some at
  pub file_is : examined file ≡ Some opened
