-- A look whether a path is that of an open file, and a removal by it (ours).
use Rattle.std.specs.Prelude.{ℕ, ◌≡◌, Bool, true, false, List, ◌∷◌, Result, Ok, Err}
use Rattle.std.specs.declared.io.Error.{Error}
use Rattle.tftp_disk.specs.DiskTrace.{DiskEvent, Done}
use Rattle.tftp_disk.specs.DiskTrace.DiskEvent.{Examined, Looked, Removed}
use Rattle.tftp_disk.specs.Found.{is_same_file}
use Rattle.tftp_disk.specs.declared.found.Found.{Found}

-- an open file was looked at, and a path: both found one file
abbrev pub is_found : Result Found Error → Result Found Error → Bool
is_found (Ok opened) (Ok found) = is_same_file opened.id found.id
is_found (Ok opened) (Err error) = false
is_found (Err error) found = false

-- a look at a path: whether it found the open file there, by device and inode, whose calls were
-- these before and after it
pub record LooksFor (path : List ℕ) (calls calls' before after : List DiskEvent) (finds : Bool)
    : Type 0 where
  pub opened : Result Found Error
  pub found : Result Found Error
  pub told : calls' ≡ Examined opened ∷ calls
  pub looked : after ≡ Looked path found ∷ before
  pub is : finds ≡ is_found opened found

-- a path was removed, or left
abbrev pub RemovesIf : Bool → List ℕ → List DiskEvent → List DiskEvent → Type 0
RemovesIf true path before after = (removal : Done) × (after ≡ Removed path removal ∷ before)
RemovesIf false path before after = after ≡ before

-- it was looked whether a path is that of an open file, and the next call removed it if it is; else
-- it is left
pub record RemovesOwn (path : List ℕ) (calls calls' before after : List DiskEvent) : Type 0 where
  pub looked : List DiskEvent
  pub finds : Bool
  pub looks : LooksFor path calls calls' before looked finds
  pub removes : RemovesIf finds path looked after
