-- The file of a fetch that is being written, by the calls on it (own).
use Rattle.std.specs.Prelude.{ℕ, ◌≡◌, ◌⊎◌, ⊤, Bool, false, List, [], ◌∷◌, ◌++◌, codes, Option, Some}
use Rattle.std.specs.Prelude.{None}
use Rattle.std.specs.String.{string_bytes}
use Rattle.tftp_file.specs.Sink.{Holding}
use Rattle.tftp_disk.specs.declared.existing.Existing.{Existing}
use Rattle.tftp_disk.specs.DiskFault.{is_replaced}
use Rattle.std.specs.Int.Bits.{bit_and}
use Rattle.tftp_disk.specs.declared.found.Found.{Found}
use Rattle.tftp_disk.specs.DiskTrace.{DiskEvent, FileState, folder_at, made_at, made_when, state_of}
use Rattle.tftp_disk.specs.DiskWriter.{calls_of, handed, IsRefused}
use Rattle.tftp_disk.specs.Folder.{IsFolderOf}
use Rattle.tftp_disk.specs.Still.{IsStillAt}
use Rattle.tftp_disk.specs.declared.disk_file.DiskFolder.{DiskFolder}
use Rattle.tftp_client.specs.Fetched.{IsBarred, IsWholeAt, MovesUnsynced, Paths}
use Rattle.tftp_client.specs.declared.local_names.LocalNames.{LocalNames}
use Rattle.tftp_client.specs.declared.written.Written.{Written}

-- the names of a file that is to get this path
abbrev pub paths_for : List ℕ → Existing → Paths
paths_for local existing =
    record { local = local; part = local ++ codes ".part"; replaces = is_replaced existing }

-- the names of a file that is fetched
abbrev pub paths_of : LocalNames → Existing → Paths
paths_of names existing =
    record {
      local = string_bytes names.local;
      part = string_bytes names.part;
      replaces = is_replaced existing;
    }

-- the calls between these left all of the file but its permissions
pub record LeavesContent (before after : FileState) : Type 0 where
  pub place : after.made_at ≡ before.made_at
  pub making : after.made_when ≡ before.made_when
  pub content : after.written ≡ before.written
  pub synced : after.is_synced ≡ before.is_synced
  pub sound : after.sync_failed ≡ before.sync_failed

-- the permissions of a file that was found
abbrev pub permissions_of : Found → ℕ
permissions_of found = bit_and found.mode 511

-- a file was to have no mode between these, or, where it replaces that file, the permissions of that
abbrev pub TakesMode : Option Found → List ℕ → List ℕ → Type 0
TakesMode None before after = after ≡ before
TakesMode (Some replaced) before after =
    (after ≡ before) ⊎ (after ≡ permissions_of replaced ∷ before)

module _ {F : Type 0} where
  -- the bytes that the file was handed, if it is made
  abbrev pub bytes_in : Option (Written F) → List ℕ
  bytes_in None = []
  bytes_in (Some written) = handed written.writer

  -- where it was made; before that, where it is to be made
  abbrev pub place_in : List ℕ → Option (Written F) → Option (List ℕ)
  place_in part None = Some part
  place_in part (Some written) = made_at (calls_of written.writer)

  -- what is appended to the file, by whether it has its name
  abbrev pub held_of : Option (Written F) → Bool → Holding
  held_of written committed =
      record { bytes = bytes_in written; committed = committed; refuses = false }

  -- once it is made, it is still what has its first name
  abbrev pub IsStillIn : List ℕ → Option (Written F) → List DiskEvent → Type 0
  IsStillIn part None log = ⊤
  IsStillIn part (Some written) log = IsStillAt part (made_when (calls_of written.writer)) log

  -- a file that was made is still what has its first name; or it has its own, which was given to it
  -- whole by a rename, after which the folder could not be synced
  abbrev pub IsLeftAs : Paths → Written F → List DiskEvent → Type 0
  IsLeftAs paths written log =
      IsStillAt paths.part (made_when (calls_of written.writer)) log
      ⊎ MovesUnsynced paths (handed written.writer) log

  -- the same, once it is made
  abbrev pub IsLeftIn : Paths → Option (Written F) → List DiskEvent → Type 0
  IsLeftIn paths None log = ⊤
  IsLeftIn paths (Some written) log = IsLeftAs paths written log

  -- it was handed what it was before, and is what was made where and when it was
  pub record SameFile (before after : Written F) : Type 0 where
    pub content : handed after.writer ≡ handed before.writer
    pub place : made_at (calls_of after.writer) ≡ made_at (calls_of before.writer)
    pub making : made_when (calls_of after.writer) ≡ made_when (calls_of before.writer)

  -- the same, if it is made
  abbrev pub SameIn : Option (Written F) → Option (Written F) → Type 0
  SameIn None after = after ≡ None
  SameIn (Some before) None = ⊥
  SameIn (Some before) (Some after) = SameFile before after

  -- nothing that it was handed is still in its buffer, unless the newest call on it is a write that
  -- was refused
  abbrev pub IsWrittenOut : Written F → Type 0
  IsWrittenOut file = (file.writer.buffer.items ≡ []) ⊎ IsRefused (calls_of file.writer)

  -- the same, if it is made
  abbrev pub HasNoRest : Option (Written F) → Type 0
  HasNoRest None = Unit {0}
  HasNoRest (Some file) = IsWrittenOut file

  -- these bytes were written to the file that was made at this path, in order and each once, up to
  -- a write that was refused; without bytes there may be no file
  abbrev pub IsWrittenAt : List ℕ → List ℕ → Option (Written F) → Type 0
  IsWrittenAt part bytes None = bytes ≡ []
  IsWrittenAt part bytes (Some file) =
      (made_at (calls_of file.writer) ≡ Some part) × (handed file.writer ≡ bytes)
      × IsWrittenOut file

  -- all that it was handed is in it and synced
  abbrev pub IsDone : List ℕ → List ℕ → Written F → Type 0
  IsDone part bytes written = IsWholeAt part bytes (state_of (calls_of written.writer))

  -- the folder is that of the path, or the user may not read that
  abbrev pub IsFolderIn : List ℕ → Option (DiskFolder F) → List DiskEvent → Type 0
  IsFolderIn path (Some folder) log =
      (at : List ℕ) × IsFolderOf path at × (folder_at folder.trace.events ≡ Some at)
  IsFolderIn path None log = IsBarred path log
