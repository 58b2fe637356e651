-- What a writer of a file was handed, and what its writes leave (ours).
use Rattle.std.specs.Prelude.{ℕ, ◌≡◌, ◌<◌, ⊤, max, List, [], ◌∷◌, ◌++◌, vec_capacity}
use Rattle.tftp_disk.specs.DiskTrace.{DiskEvent, made_at, made_when, modes_asked, written}
use Rattle.tftp_disk.specs.DiskTrace.{sync_failed}
use Rattle.tftp_disk.specs.DiskTrace.DiskEvent.{Written, Not_written}
use Rattle.tftp_disk.specs.declared.disk_writer.DiskWriter.{DiskWriter}
use Rattle.tftp_disk.specs.declared.disk_writer.TheConstants.{WRITE_BUFFER}

-- the calls that a file has seen
abbrev pub calls_of : {F : Type 0} → DiskWriter F → List DiskEvent
calls_of writer = writer.file.trace.events

-- the bytes that a writer was handed: those in the file, and then those in its buffer
abbrev pub handed : {F : Type 0} → DiskWriter F → List ℕ
handed writer = written (calls_of writer) ++ writer.buffer.items

-- the buffer of a writer has less space than one for it is made with, or than so many bytes
abbrev pub IsShort : {F : Type 0} → ℕ → DiskWriter F → Type 0
IsShort count writer = vec_capacity writer.buffer < max WRITE_BUFFER count

-- calls on a file that made it nowhere else and set no mode, and of which no sync failed
pub record NoSyncs (before after : List DiskEvent) : Type 0 where
  pub same_place : made_at after ≡ made_at before
  pub same_making : made_when after ≡ made_when before
  pub same_syncs : sync_failed after ≡ sync_failed before
  pub same_modes : modes_asked after ≡ modes_asked before

-- the newest of these calls is a write that failed, or that wrote no byte
abbrev pub IsRefused : List DiskEvent → Type 0
IsRefused (Not_written error ∷ events) = ⊤
IsRefused (Written [] ∷ events) = ⊤
IsRefused events = ⊥
