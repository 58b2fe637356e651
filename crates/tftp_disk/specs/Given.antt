-- What an open file is, and what was read of it, by the calls on it (ours).
use Rattle.std.specs.Prelude.{ℕ, ◌≡◌, Bool, true, false, ◌==◌, if◌then◌else◌, List, [], ◌∷◌, ◌++◌}
use Rattle.std.specs.Prelude.{Option, Some, None, Ok}
use Rattle.std.specs.declared.io.SeekFrom.{SeekFrom}
use Rattle.std.specs.declared.io.SeekFrom.TheVariants.{Start}
use Rattle.tftp_disk.specs.DiskTrace.{DiskEvent}
use Rattle.tftp_disk.specs.DiskTrace.DiskEvent.{Opened, Examined, Given, Sought, Written}
use Rattle.tftp_disk.specs.declared.found.Found.{Found}

-- the path of the open file of these calls
abbrev pub opened_at : List DiskEvent → Option (List ℕ)
opened_at [] = None
opened_at (Opened path (Ok done) ∷ events) = Some path
opened_at (event ∷ events) = opened_at events

-- what the system said of it at the newest look
abbrev pub examined : List DiskEvent → Option Found
examined [] = None
examined (Examined (Ok found) ∷ events) = Some found
examined (event ∷ events) = examined events

-- the next read is to begin at the first byte
abbrev pub is_rewind : SeekFrom → Bool
is_rewind (Start place) = place == 0
is_rewind to = false

-- its next read is from its start: nothing was read since it was opened or set there
abbrev pub is_at_start : List DiskEvent → Bool
is_at_start [] = false
is_at_start (Opened path (Ok done) ∷ events) = true
is_at_start (Sought (Start offset) (Ok place) ∷ events) = offset == 0
is_at_start (Sought to answer ∷ events) = false
is_at_start (Given [] ∷ events) = is_at_start events
is_at_start (Given (byte ∷ bytes) ∷ events) = false
is_at_start (Written bytes ∷ events) = false
is_at_start (event ∷ events) = is_at_start events

-- the bytes that were read of it, in order, since its opening or its newest rewind
abbrev pub given : List DiskEvent → List ℕ
given [] = []
given (Opened path (Ok done) ∷ events) = []
given (Given bytes ∷ events) = given events ++ bytes
given (Sought to (Ok place) ∷ events) = if is_rewind to then [] else given events
given (event ∷ events) = given events

-- the newest call is a read that returned no byte
abbrev pub is_at_end : List DiskEvent → Bool
is_at_end (Given [] ∷ events) = true
is_at_end events = false

abbrev pub IsAtEnd : List DiskEvent → Type 0
IsAtEnd events = (before : List DiskEvent) × (events ≡ Given [] ∷ before)

-- the bytes of the newest pass over it: those that were read before its newest rewind, if they were
-- read to its end
abbrev pub passed : List DiskEvent → Option (List ℕ)
passed [] = None
passed (Opened path (Ok done) ∷ events) = None
passed (Sought to (Ok place) ∷ events) =
    if is_rewind to then (if is_at_end events then Some (given events) else None) else passed events
passed (event ∷ events) = passed events

-- calls on an open file that read these bytes: the file is the same, and what was said of it and
-- the pass over it too
pub record GaveBytes (before after : List DiskEvent) (bytes : List ℕ) : Type 0 where
  pub place : opened_at after ≡ opened_at before
  pub found : examined after ≡ examined before
  pub pass : passed after ≡ passed before
  pub more : given after ≡ given before ++ bytes
