-- Which paths a store over a folder passes to the system (ours).
use Rattle.std.specs.Prelude.{ℕ, ◌≡◌, ◌⊎◌, ⊤, List, [], ◌∷◌, ◌++◌, IfSome, Ok, codes}
use Rattle.tftp_disk.specs.DiskTrace.{DiskEvent}
use Rattle.tftp_disk.specs.DiskTrace.DiskEvent.{Looked, Followed, Resolved, Opened, Tried}
use Rattle.tftp_disk.specs.DiskTrace.DiskEvent.{Made, Locked, Linked, Renamed, Removed}
use Rattle.tftp_disk.specs.DiskTrace.DiskEvent.{Folder_opened, Folder_synced}
use Rattle.tftp_folder.specs.Uploads.{IsBelow}

-- the path is the root, or that of a file or folder below it
abbrev pub IsInside : List ℕ → List ℕ → Type 0
IsInside root path = (path ≡ root) ⊎ IsBelow root path

-- the text of a path is that of the root, perhaps with a last slash
abbrev pub IsRootText : List ℕ → List ℕ → Type 0
IsRootText root text = (text ≡ root) ⊎ (text ≡ root ++ codes "/")

-- each path that was passed to the system is inside the root; a path that is not was only resolved,
-- and that to the root, as the operator's path is
abbrev pub IsCallInside : List ℕ → DiskEvent → Type 0
IsCallInside root (Looked path answer) = IsInside root path
IsCallInside root (Followed path answer) = IsInside root path
IsCallInside root (Resolved path answer) =
    IsInside root path ⊎ ((text : List ℕ) × (answer ≡ Ok text) × IsRootText root text)
IsCallInside root (Opened path answer) = IsInside root path
IsCallInside root (Tried path answer) = IsInside root path
IsCallInside root (Made path answer) = IsInside root path
IsCallInside root (Locked path answer) = IsInside root path
IsCallInside root (Linked file from to answer) = IsInside root from × IsInside root to
IsCallInside root (Renamed file from to answer) = IsInside root from × IsInside root to
IsCallInside root (Removed path answer) = IsInside root path
IsCallInside root (Folder_opened path answer) = IsInside root path
IsCallInside root (Folder_synced path answer) = IfSome path (IsInside root)
IsCallInside root event = ⊤

-- each of these calls is such
abbrev pub AreInside : List ℕ → List DiskEvent → Type 0
AreInside root [] = ⊤
AreInside root (event ∷ events) = IsCallInside root event × AreInside root events

-- if the calls before were inside the root, those after are
abbrev pub StaysInside : List ℕ → List DiskEvent → List DiskEvent → Type 0
StaysInside root before after = AreInside root before → AreInside root after
