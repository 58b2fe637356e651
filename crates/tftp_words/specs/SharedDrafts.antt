-- A folder that several programs share, by the calls that they asked of the system on its files:
-- while one holds the temporary file of a put, no other takes it (ours).
use Rattle.tftp_words.specs.Common.{DiskEvent, FileState, Made, Linked, Renamed, Removed, AllLeave}
use Rattle.tftp_words.specs.Common.{IsDraftIn, Limits}
use Rattle.std.specs.Prelude.{ℕ, ◌≡◌, ◌≢◌, ⊤, List, [], ◌∷◌, ◌++◌, length, Some, Ok}
use Rattle.tftp_disk.specs.Changes.{changes}
use Rattle.tftp_disk.specs.Still.{LeavesPath}
use Rattle.tftp_folder.specs.Changing.{AreChanges}
use Rattle.tftp_folder.specs.Held.{Takes}
use Rattle.tftp_folder.specs.Placed.{NamesThere}
use Rattle.tftp_words.specs.SharedFolder.{AllLeaveIt, FolderCall, calls_by}

-- the call is to remove this path, or to link or rename what has it
abbrev pub Uses : List ℕ → DiskEvent → Type 0
Uses path (Removed at answer) = path ≡ at
Uses path (Linked file from to answer) = path ≡ from
Uses path (Renamed file from to answer) = path ≡ from
Uses path event = ⊥

-- from one of its calls to another a program holds the file at this path: it made it there or
-- locked what it found there by the first, uses it by the last, and none of its own calls between
-- took the path away. It has that file open, and so its lock, from the first to the last
pub record Holds (order : List FolderCall) (path : List ℕ) (program : ℕ) : Type 0 where
  pub newer : List FolderCall
  pub last : DiskEvent
  pub between : List FolderCall
  pub first : DiskEvent
  pub older : List FolderCall
  pub at : order ≡ newer ++ (program, last) ∷ (between ++ (program, first) ∷ older)
  pub takes : Takes path first
  pub uses : Uses path last
  pub left : AllLeave path (calls_by program between)

-- what the system must promise of locks (flock(2)): as long as the calls of all leave what a
-- program holds at its path, no other program takes it, and then uses it; and no file is made there
-- (open(2), O_EXCL)
pub record IsHeldAlone (order : List FolderCall) (path : List ℕ) : Type 0 where
  pub alone : {i j : ℕ} (one : Holds order path i) (other : Holds order path j)
      (later earlier : List FolderCall) → i ≢ j → one.between ≡ later ++ (j, other.first) ∷ earlier
      → other.older ≡ earlier ++ (i, one.first) ∷ one.older → AllLeaveIt path earlier → ⊥
  pub there : {i : ℕ} (one : Holds order path i) (j : ℕ) (later earlier : List FolderCall)
      → one.between ≡ later ++ (j, Made path (Ok tt)) ∷ earlier → AllLeaveIt path earlier → ⊥

-- the calls of a store on one folder or another: it changes nothing beyond its limits, and by these
-- calls each file that was to get a name was still where the store had made it
pub record IsStore (calls : List DiskEvent) : Type 0 where
  pub limits : Limits
  pub changed : AreChanges limits (changes calls)
  pub there : NamesThere calls

-- each program of the order is such
abbrev pub AreStores : List FolderCall → Type 0
AreStores order = (program : ℕ) → IsStore (calls_by program order)

-- the call leaves what has the path, and no program but this one uses that by it
pub record LeavesTo (path : List ℕ) (program : ℕ) (call : FolderCall) : Type 0 where
  pub leaves : LeavesPath path call.1
  pub own : Uses path call.1 → call.0 ≡ program

-- each of these calls does
abbrev pub AllLeaveTo : List ℕ → ℕ → List FolderCall → Type 0
AllLeaveTo path program [] = ⊤
AllLeaveTo path program (call ∷ order) = LeavesTo path program call × AllLeaveTo path program order

-- of the path of a draft: while a program holds what has it, no call of any takes that away, gives
-- the path to another file or makes one there, and no other program removes, links or renames it
abbrev pub HeldIsLeft : Type 0
HeldIsLeft =
    (order : List FolderCall) (folder path : List ℕ) (program : ℕ)
    → IsDraftIn folder path → AreStores order → IsHeldAlone order path
    → (held : Holds order path program) → AllLeaveTo path program held.between

-- this call is to give the file at a path a name
abbrev pub IsNaming : DiskEvent → FileState → List ℕ → Type 0
IsNaming (Linked named from to answer) file path = (named ≡ file) × (from ≡ path)
IsNaming (Renamed named from to answer) file path = (named ≡ file) × (from ≡ path)
IsNaming event file path = ⊥

-- by the calls of all, the file that this program made at the path is still what has it: no call
-- since took it away, gave the path to another file or made one there, and no other program used it
pub record IsItsOwn (older : List FolderCall) (program : ℕ) (file : FileState) (path : List ℕ)
    : Type 0 where
  pub between : List FolderCall
  pub before : List FolderCall
  pub made : older ≡ between ++ (program, Made path (Ok tt)) ∷ before
  pub when : file.made_when ≡ Some (length (calls_by program before))
  pub left : AllLeaveTo path program between

-- so each file that is to get a name is the one that its program made for it
abbrev pub NamesTheirOwn : Type 0
NamesTheirOwn =
    (order newer older : List FolderCall) (folder path : List ℕ) (program : ℕ) (call : DiskEvent)
    (file : FileState) → order ≡ newer ++ (program, call) ∷ older → IsNaming call file path
    → IsDraftIn folder path → AreStores order → IsHeldAlone order path
    → IsItsOwn older program file path
