-- Two servers over a disk that is the list of its calls: one gives a file, and one stores one. With
-- them what is proved of a run of `tftpd` can be met (own).
use Rattle.std.specs.Prelude.{ℕ, ⊤, List, [], ◌∷◌, None, IsSome, codes}
use Rattle.tftp_file.specs.Source.{SourceMeaning}
use Rattle.tftp_disk.specs.DiskSource.{GivesPiece, source_error}
use Rattle.tftp_disk.specs.DiskTrace.{DiskEvent}
use Rattle.tftp_disk.specs.declared.disk_source.DiskSource.{DiskSource}
use Rattle.tftp_store.specs.Store.{StoreMeaning}
use Rattle.tftp_folder.specs.Effects.{folder_meaning}
use Rattle.tftp_folder.specs.Source.{folder_source}
use Rattle.tftp_folder.specs.declared.folder_draft.FolderDraft.{FolderDraft}
use Rattle.tftp_folder.specs.declared.folder_source.FolderSource.{FolderSource}
use Rattle.tftp_folder.specs.declared.folder_store.FolderStore.{FolderStore}
use Rattle.tftp_sockets.specs.Trace.{SocketEvent}
use Rattle.tftp_daemon.specs.Configured.{ServesWords}

-- a disk, or a view of it, that is the list of its calls; of its files nothing is known
abbrev pub Calls : Type 0
Calls = List DiskEvent

abbrev pub its_calls : Calls → List DiskEvent
its_calls calls = calls

abbrev pub Store : Type 0
Store = FolderStore Calls (Unit {0}) Calls (Unit {0})

abbrev pub Source : Type 0
Source = FolderSource Calls (Unit {0})

abbrev pub Draft : Type 0
Draft = FolderDraft (Unit {0})

abbrev pub stores : StoreMeaning Store Draft
stores = folder_meaning its_calls

abbrev pub texts : SourceMeaning (DiskSource (Unit {0}))
texts = record {
  left = λ _. None;
  may_fail = λ _ _. ⊤;
  fails = λ source _. IsSome (source_error source);
  gives = GivesPiece;
  opens = λ _ _ _ _ _. ⊤;
}

abbrev pub sources : SourceMeaning Source
sources = folder_source its_calls texts

abbrev pub root : List ℕ
root = codes "/srv"

abbrev pub read_name : List ℕ
read_name = codes "a"

abbrev pub write_name : List ℕ
write_name = codes "b"

-- `tftpd /srv --listen 1.2.3.4:69`, with its limits
abbrev pub words : List (List ℕ)
words =
    codes "tftpd" ∷ root ∷ codes "--listen" ∷ codes "1.2.3.4:69" ∷ codes "--max-block" ∷ codes "512"
    ∷ codes "--max-file" ∷ codes "1000" ∷ codes "--retries" ∷ codes "1" ∷ codes "--cap" ∷ codes "2"
    ∷ []

-- these arguments have run, and the server has given a file; and they have, and it has stored one,
-- until its output had no reader
abbrev pub SomeServe : Type 0
SomeServe =
    (gave : List SocketEvent) × (stored : List SocketEvent)
    × ServesWords its_calls [] stores sources words 0 [] gave
    × ServesWords its_calls [] stores sources words 2 [] stored
