-- The file that an open file made is still what has its path, by the calls of its disk (ours).
use Rattle.std.specs.Prelude.{ℕ, ◌≡◌, ◌≢◌, ⊤, List, [], ◌∷◌, ◌++◌, length, Option, Some, Ok}
use Rattle.tftp_disk.specs.DiskTrace.{DiskEvent}
use Rattle.tftp_disk.specs.DiskTrace.DiskEvent.{Made, Linked, Renamed, Removed}

-- the call leaves what has the path: it makes no file there, gives no other the name, and does not
-- take the name away
abbrev pub LeavesPath : List ℕ → DiskEvent → Type 0
LeavesPath path (Made at (Ok done)) = path ≢ at
LeavesPath path (Linked file from to (Ok done)) = path ≢ to
LeavesPath path (Renamed file from to (Ok done)) = (path ≢ from) × (path ≢ to)
LeavesPath path (Removed at (Ok done)) = path ≢ at
LeavesPath path event = ⊤

-- each of these calls does
abbrev pub AllLeave : List ℕ → List DiskEvent → Type 0
AllLeave path [] = ⊤
AllLeave path (event ∷ events) = LeavesPath path event × AllLeave path events

-- the file that was made at the path when the disk had seen so many calls is still what has the
-- path: no call since then removed it, renamed it or another file over it, or made it anew
pub record IsStillAt (path : List ℕ) (calls : Option ℕ) (log : List DiskEvent) : Type 0 where
  pub since : List DiskEvent
  pub before : List DiskEvent
  pub made : log ≡ since ++ Made path (Ok tt) ∷ before
  pub when : calls ≡ Some (length before)
  pub left : AllLeave path since
