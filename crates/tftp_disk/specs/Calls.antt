-- What the calls on paths and open files note (ours).
use Rattle.std.specs.Prelude.{ℕ, List, Result, Ok, Err, take}
use Rattle.std.specs.Path.{path_buf_bytes}
use Rattle.std.specs.declared.io.Error.{Error}
use Rattle.std.specs.declared.path.PathBuf.{PathBuf}
use Rattle.tftp_disk.specs.DiskTrace.{DiskEvent}
use Rattle.tftp_disk.specs.DiskTrace.DiskEvent.{Given, Not_given, Written, Not_written}

-- the text of the path that a resolution returned
abbrev pub path_text : {A : Type 0} → Result (PathBuf A) Error → Result (List ℕ) Error
path_text (Ok path) = Ok (path_buf_bytes path)
path_text (Err error) = Err error

-- the event of a read into these bytes
abbrev pub read_event : Result ℕ Error → List ℕ → DiskEvent
read_event (Ok count) buffer = Given (take count buffer)
read_event (Err error) buffer = Not_given error

-- the event of a write of these bytes
abbrev pub write_event : Result ℕ Error → List ℕ → DiskEvent
write_event (Ok count) bytes = Written (take count bytes)
write_event (Err error) bytes = Not_written error
