-- From disk to disk: a complete get has named a file of just the bytes that reads of ROOT/NAME
-- returned at its server.
use Rattle.tftp_words.specs.Common.{wire_text, SinkMeaning, SourceMeaning, Files, Source, Sink}
use Rattle.tftp_words.specs.Common.{StoreMeaning, SocketEvent, LocalFile, DiskEvent, FolderSource}
use Rattle.tftp_words.specs.Common.{FolderStore, KeepAnyFiles, Programs}
use Rattle.std.specs.Prelude.{ℕ, List, [], length, map}
use Rattle.std.specs.List.{AllByRecursion}
use Rattle.tftp_client.specs.OnDisk.{IsStored, StoresWords}
use Rattle.tftp_disk.specs.DiskSourceLaws.{GivenInOrder}
use Rattle.tftp_folder.specs.Source.{OpensSource, text_of}
use Rattle.tftp_words.specs.EndToEnd.{GotFile, PutFile, RanComplete}
use Rattle.tftp_words.specs.Ran.{ClientRan, HoldsOfOne, Job, ServerRan, root_of}
use Rattle.std.specs.declared.io.traits.Read as read
use Rattle.std.specs.declared.io.traits.Write as write
use Rattle.std.specs.declared.io.traits.Seek as seek
use Rattle.tftp_disk.specs.declared.disk.Looks as looks

module _ {S D F U I : Type 0} {logs : looks.Ghosts D} {writes : write.Ghosts F}
    {views : looks.Ghosts U} {reads : read.Ghosts I} {seeks : seek.Ghosts I}
    (inputs : SourceMeaning S)
    (outputs : SinkMeaning (LocalFile D F U I logs writes views reads seeks)) where
  -- a run of `tftp`: the address of its host, its arguments, its status, its trace before and
  -- after, and its calls on a disk of which it had asked nothing before
  pub record ClientStored : Type 0 where
    pub ip : List ℕ
    pub words : List (List ℕ)
    pub status : ℕ
    pub before : List SocketEvent
    pub after : List SocketEvent
    pub calls : List DiskEvent
    pub stored : StoresWords inputs outputs words status before after [] calls

  abbrev pub ran_of : ClientStored → ClientRan inputs outputs
  ran_of client =
      record {
        ip = client.ip;
        words = client.words;
        status = client.status;
        before = client.before;
        after = client.after;
        ran = client.stored.0;
      }

  module _ {R G H W V E B : Type 0} (looked : V → List DiskEvent)
      {stores : StoreMeaning (FolderStore R G H W) B} {sources : SourceMeaning (FolderSource V E)}
      (programs : Programs stores sources inputs outputs) where
    -- a complete get: a file of just these bytes was made, written, synced and then named. The
    -- server's store found a file at the path of the name in its folder, opened it there, and
    -- stated the length of their wire text by what the system said of it. That text is a beginning
    -- of what reads of the file returned, in order from its first byte, and all but what the source
    -- still has, unless a read failed
    pub record IsGot (calls : List DiskEvent) (job : Job) (count : ℕ) (bytes : List ℕ)
        : Type 0 where
      pub stored : IsStored job bytes calls
      pub got : GotFile programs job count bytes
      pub opens : OpensSource looked (root_of programs) got.path job.mode
          (length (wire_text job.mode bytes)) got.opening.source
      pub read : GivenInOrder (text_of got.opening.source) (text_of got.source)
          (wire_text job.mode bytes)

    -- a complete job, in whose run these bytes moved
    abbrev pub FileReaches : List DiskEvent → Job
        → Files S (LocalFile D F U I logs writes views reads seeks) → ℕ → List ℕ → Type 0
    FileReaches calls job (Source source) count bytes = PutFile programs job count bytes
    FileReaches calls job (Sink local) count bytes = IsGot calls job count bytes

    abbrev pub ReachesDisk : ClientStored → Type 0
    ReachesDisk client = RanComplete inputs outputs (FileReaches client.calls) (ran_of client)

  -- the programs that `tftpd` and `tftp` ran keep the promises, and each file that a complete get
  -- named has just the bytes that reads of the file of its name in the server's folder returned
  abbrev pub FromDiskToDisk : {R G H W V E B : Type 0} (log : R → List DiskEvent)
      (looked : V → List DiskEvent) (stores : StoreMeaning (FolderStore R G H W) B)
      (sources : SourceMeaning (FolderSource V E)) → Type 0
  FromDiskToDisk log looked stores sources =
      (server : ServerRan log stores sources) (port : ℕ) (clients : List ClientStored)
      → HoldsOfOne server port (map ran_of clients)
      (λ programs. KeepAnyFiles programs × AllByRecursion (ReachesDisk looked programs) clients)
