-- Who removes the lock of a name, in a folder that several programs share (ours).
use Rattle.std.specs.Prelude.{ℕ, ◌≡◌, ◌⊎◌, ⊤, List, [], ◌∷◌, Ok}
use Rattle.tftp_disk.specs.Changes.{changes}
use Rattle.tftp_disk.specs.DiskTrace.{DiskEvent}
use Rattle.tftp_disk.specs.DiskTrace.DiskEvent.{Renamed, Removed}
use Rattle.tftp_folder.specs.Changing.{AreChanges, HoldsLock, IsTarget, Limits}
use Rattle.tftp_folder.specs.Commit.{lock_of}

-- a call of a program, after these others of it, that takes the lock away, or gives its path to
-- another file: the program holds the lock
abbrev pub KeepsLock : List ℕ → DiskEvent → List DiskEvent → Type 0
KeepsLock lock (Removed at (Ok done)) before = lock ≡ at → HoldsLock lock before
KeepsLock lock (Renamed file from to (Ok done)) before =
    (lock ≡ from) ⊎ (lock ≡ to) → HoldsLock lock before
KeepsLock lock event before = ⊤

-- each of its calls is such
abbrev pub KeepLock : List ℕ → List DiskEvent → Type 0
KeepLock lock [] = ⊤
KeepLock lock (event ∷ events) = KeepsLock lock event events × KeepLock lock events

-- a store that changes nothing beyond its limits keeps to that, of each lock of its names
abbrev pub StoresKeepLocks : Type 0
StoresKeepLocks =
    (limits : Limits) (target : List ℕ) (calls : List DiskEvent) → IsTarget limits target
    → AreChanges limits (changes calls) → KeepLock (lock_of target) calls
