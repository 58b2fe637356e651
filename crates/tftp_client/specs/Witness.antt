-- The files of a client over a disk that is the list of its calls: with them what is proved of a
-- complete get and of a complete put can be met (own).
use Rattle.std.specs.Prelude.{ℕ, ⊤, List, [], ◌∷◌, Some, None, IsSome, codes}
use Rattle.std.specs.declared.io.traits.Read as read
use Rattle.std.specs.declared.io.traits.Write as write
use Rattle.std.specs.declared.io.traits.Seek as seek
use Rattle.tftp_file.specs.Sink.{SinkMeaning}
use Rattle.tftp_file.specs.Source.{SourceMeaning}
use Rattle.tftp_disk.specs.DiskSource.{GivesPiece, source_error}
use Rattle.tftp_disk.specs.DiskTrace.{DiskEvent}
use Rattle.tftp_disk.specs.declared.disk.Looks as looks
use Rattle.tftp_disk.specs.declared.disk_source.DiskSource.{DiskSource}
use Rattle.tftp_sockets.specs.Trace.{SocketEvent}
use Rattle.tftp_client.specs.Fetched.{KeepsPlace}
use Rattle.tftp_client.specs.OnDisk.{StoresWords}
use Rattle.tftp_client.specs.Sent.{SendsWords}
use Rattle.tftp_client.specs.Written.{held_of, paths_of}
use Rattle.tftp_client.specs.declared.local.LocalFile.{LocalFile}

-- a disk, or a view of it, that is the list of its calls; of its files nothing is known
abbrev pub Calls : Type 0
Calls = List DiskEvent

abbrev pub its_calls : looks.Ghosts Calls
its_calls = record { log = λ calls. calls }

abbrev pub writes : write.Ghosts (Unit {0})
writes = record { contents = λ file. None }

abbrev pub reads : read.Ghosts (Unit {0})
reads = record { remaining = λ file. None }

abbrev pub seeks : seek.Ghosts (Unit {0})
seeks = record { stream_position = λ file. None; stream_bytes = λ file. None }

-- what a get stores
abbrev pub Local : Type 0
Local = LocalFile Calls (Unit {0}) Calls (Unit {0}) its_calls writes its_calls reads seeks

abbrev pub local_sink : SinkMeaning Local
local_sink = record {
  held = λ file. Some (held_of file.part.written file.committed);
  may_refuse_append = λ _ _ _. ⊤;
  may_refuse_commit = λ _ _. ⊤;
  becomes = λ old new _. KeepsPlace (paths_of old.part.names old.part.existing)
      (paths_of new.part.names new.part.existing) old.part.is_tried new.part.is_tried
      (its_calls.log old.part.disk) (its_calls.log new.part.disk);
  after_append = λ _ _ _ _. ⊤;
  after_commit = λ _ _ _. ⊤;
}

-- what a put sends
abbrev pub LocalSource : Type 0
LocalSource = DiskSource (Unit {0})

abbrev pub local_source : SourceMeaning LocalSource
local_source = record {
  left = λ _. None;
  may_fail = λ _ _. ⊤;
  fails = λ source _. IsSome (source_error source);
  gives = GivesPiece;
  opens = λ _ _ _ _ _. ⊤;
}

-- `tftp get 1.2.3.4:69 a L --no-dally`
abbrev pub get_words : List (List ℕ)
get_words =
    codes "tftp" ∷ codes "get" ∷ codes "1.2.3.4:69" ∷ codes "a" ∷ codes "L"
    ∷ codes "--no-dally" ∷ []

-- `tftp put 1.2.3.4:69 L b`
abbrev pub put_words : List (List ℕ)
put_words = codes "tftp" ∷ codes "put" ∷ codes "1.2.3.4:69" ∷ codes "L" ∷ codes "b" ∷ []

-- these arguments have run, with these traces of the network and the disk: a get is complete, and a
-- put
abbrev pub SomeAreStored : Type 0
SomeAreStored =
    (after : List SocketEvent) × (calls : Calls)
    × StoresWords local_source local_sink get_words 0 [] after [] calls

abbrev pub SomeAreSent : Type 0
SomeAreSent =
    (after : List SocketEvent) × SendsWords local_source local_sink put_words 0 [] after
