-- The calls of the system on paths and on open files, the newest first: of a disk, of a view, or of
-- one open file (ours).
use Rattle.std.specs.Prelude.{ℕ, Bool, true, false, List, [], ◌∷◌, ◌++◌, Option, Some, None}
use Rattle.std.specs.Prelude.{Result, Ok, Err}
use Rattle.std.specs.declared.io.Error.{Error}
use Rattle.std.specs.declared.io.SeekFrom.{SeekFrom}
use Rattle.tftp_disk.specs.declared.found.Found.{Found}

-- what an open file is, by the calls on it: where it was made, if it was, and how many calls its
-- disk had seen by then; the bytes that were written to it; whether a sync succeeded after the last
-- write; whether a sync failed; and the modes that it was to have, whatever the answer, the newest
-- first
pub record FileState : Type 0 where
  pub made_at : Option (List ℕ)
  pub made_when : Option ℕ
  pub written : List ℕ
  pub is_synced : Bool
  pub sync_failed : Bool
  pub modes : List ℕ

-- the answer of a call that returns nothing
abbrev pub Done : Type 0
Done = Result (Unit {0}) Error

-- the same of a call that returns a value
abbrev pub done : {A : Type 0} → Result A Error → Done
done (Ok value) = Ok tt
done (Err error) = Err error

pub data DiskEvent : Type 0 where
  -- a path itself was looked at, and no link followed
  Looked : (path : List ℕ) (answer : Result Found Error) → DiskEvent
  -- what a path leads to was looked at
  Followed : (path : List ℕ) (answer : Result Found Error) → DiskEvent
  -- the path without links that a path leads to
  Resolved : (path : List ℕ) (answer : Result (List ℕ) Error) → DiskEvent
  -- a file was opened to be read
  Opened : (path : List ℕ) (answer : Done) → DiskEvent
  -- a file was opened to be written, and closed
  Tried : (path : List ℕ) (answer : Done) → DiskEvent
  -- the open file was made, to be written, when its disk had seen so many calls
  Created : (path : List ℕ) (calls : ℕ) → DiskEvent
  -- a file was made, to be written; none was there
  Made : (path : List ℕ) (answer : Done) → DiskEvent
  -- a file was opened to be written, and locked: no other open file had its lock
  Locked : (path : List ℕ) (answer : Done) → DiskEvent
  -- an open file's path got a second name, which no file had
  Linked : (file : FileState) (from to : List ℕ) (answer : Done) → DiskEvent
  -- an open file's path was exchanged for another, over any file that had that
  Renamed : (file : FileState) (from to : List ℕ) (answer : Done) → DiskEvent
  -- a name was removed
  Removed : (path : List ℕ) (answer : Done) → DiskEvent
  -- a folder was opened, to be synced
  Folder_opened : (path : List ℕ) (answer : Done) → DiskEvent
  -- the open folder, of this path, was synced
  Folder_synced : (path : Option (List ℕ)) (answer : Done) → DiskEvent
  -- the open file was looked at
  Examined : (answer : Result Found Error) → DiskEvent
  -- the next bytes of the open file, or none at its end
  Given : (bytes : List ℕ) → DiskEvent
  -- a read of the open file failed
  Not_given : (error : Error) → DiskEvent
  -- the place of the next read was set
  Sought : (to : SeekFrom) (answer : Result ℕ Error) → DiskEvent
  -- bytes were written to the open file
  Written : (bytes : List ℕ) → DiskEvent
  -- a write to the open file failed
  Not_written : (error : Error) → DiskEvent
  -- the open file was synced
  Synced : (answer : Done) → DiskEvent
  -- the permissions of the open file were set
  Mode_set : (mode : ℕ) (answer : Done) → DiskEvent

-- where the open file of these calls was made
abbrev pub made_at : List DiskEvent → Option (List ℕ)
made_at [] = None
made_at (Created path calls ∷ events) = Some path
made_at (event ∷ events) = made_at events

-- how many calls its disk had seen when it was made
abbrev pub made_when : List DiskEvent → Option ℕ
made_when [] = None
made_when (Created path calls ∷ events) = Some calls
made_when (event ∷ events) = made_when events

-- the path of the open folder of these calls
abbrev pub folder_at : List DiskEvent → Option (List ℕ)
folder_at [] = None
folder_at (Folder_opened path (Ok done) ∷ events) = Some path
folder_at (event ∷ events) = folder_at events

-- the bytes that these calls wrote, in order
abbrev pub written : List DiskEvent → List ℕ
written [] = []
written (Written bytes ∷ events) = written events ++ bytes
written (event ∷ events) = written events

-- a sync succeeded after the last write
abbrev pub is_synced : List DiskEvent → Bool
is_synced [] = false
is_synced (Synced (Ok done) ∷ events) = true
is_synced (Synced (Err error) ∷ events) = false
is_synced (Written bytes ∷ events) = false
is_synced (Not_written error ∷ events) = false
is_synced (event ∷ events) = is_synced events

-- a sync failed: bytes that were written before it may be lost, whatever a later sync says
abbrev pub sync_failed : List DiskEvent → Bool
sync_failed [] = false
sync_failed (Synced (Err error) ∷ events) = true
sync_failed (event ∷ events) = sync_failed events

-- the modes that it was to have, whatever the answer, the newest first
abbrev pub modes_asked : List DiskEvent → List ℕ
modes_asked [] = []
modes_asked (Mode_set mode answer ∷ events) = mode ∷ modes_asked events
modes_asked (event ∷ events) = modes_asked events

-- what the open file of these calls is
abbrev pub state_of : List DiskEvent → FileState
state_of events =
    record {
      made_at = made_at events;
      made_when = made_when events;
      written = written events;
      is_synced = is_synced events;
      sync_failed = sync_failed events;
      modes = modes_asked events;
    }
