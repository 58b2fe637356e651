-- From disk to disk, for a put: what reads of LOCAL returned to a complete put is what its server
-- wrote to a file that it made, synced, and then named as the client asked.
use Rattle.tftp_words.specs.Common.{SinkMeaning, SourceMeaning, Files, Source, Sink, StoreMeaning}
use Rattle.tftp_words.specs.Common.{DiskEvent, DiskSource, SocketEvent, IsStoredAt, FolderDraft}
use Rattle.tftp_words.specs.Common.{FolderStore, KeepAnyFiles, Programs}
use Rattle.std.specs.Prelude.{ℕ, List, map}
use Rattle.std.specs.List.{AllByRecursion}
use Rattle.tftp_client.specs.Sent.{IsSent, SendsWords}
use Rattle.tftp_folder.specs.Changing.{limits_of}
use Rattle.tftp_words.specs.EndToEnd.{GotFile, PutFile, RanComplete}
use Rattle.tftp_words.specs.Ran.{ClientRan, HoldsOfOne, Job, ServerRan}

module _ {L K : Type 0} (inputs : SourceMeaning (DiskSource L)) (outputs : SinkMeaning K) where
  -- a run of `tftp`, with the file that it sends on the disk
  pub record ClientSent : Type 0 where
    pub ip : List ℕ
    pub words : List (List ℕ)
    pub status : ℕ
    pub before : List SocketEvent
    pub after : List SocketEvent
    pub sent : SendsWords inputs outputs words status before after

  abbrev pub run_of : ClientSent → ClientRan inputs outputs
  run_of client =
      record {
        ip = client.ip;
        words = client.words;
        status = client.status;
        before = client.before;
        after = client.after;
        ran = client.sent.0;
      }

  module _ {R G H W E B : Type 0} (log : R → List DiskEvent)
      {stores : StoreMeaning (FolderStore R G H W) (FolderDraft B)} {sources : SourceMeaning E}
      (programs : Programs stores sources inputs outputs) where
    -- a complete put: these bytes are a beginning of the wire text of what reads of LOCAL returned,
    -- in order from its start. They are the wire text of just the bytes that the server wrote to a
    -- file that it made in the folder of its drafts, in order and each once; that was synced, and
    -- then got the name in the server's folder that the client asked for
    pub record IsPut (job : Job) (source : DiskSource L) (count : ℕ) (bytes : List ℕ)
        : Type 0 where
      pub sent : IsSent job source count bytes
      pub put : PutFile programs job count bytes
      pub stored : IsStoredAt (limits_of programs.server.start.server.store) put.path put.bytes
          programs.server.start.server.config.overwrite (log put.committed.before.disk)
          (log put.committed.after.disk)

    -- a complete job, in whose run these bytes moved
    abbrev pub FileLeaves : Job → Files (DiskSource L) K → ℕ → List ℕ → Type 0
    FileLeaves job (Source source) count bytes = IsPut job source count bytes
    FileLeaves job (Sink sink) count bytes = GotFile programs job count bytes

    abbrev pub LeavesDisk : ClientSent → Type 0
    LeavesDisk client = RanComplete inputs outputs FileLeaves (run_of client)

  -- the programs that `tftpd` and `tftp` ran keep the promises, and what reads of LOCAL returned to
  -- each complete put is what the server wrote to the file that it made and named
  abbrev pub PutsFromDiskToDisk : {R G H W E B : Type 0} (log : R → List DiskEvent)
      (stores : StoreMeaning (FolderStore R G H W) (FolderDraft B)) (sources : SourceMeaning E)
      → Type 0
  PutsFromDiskToDisk log stores sources =
      (server : ServerRan log stores sources) (port : ℕ) (clients : List ClientSent)
      → HoldsOfOne server port (map run_of clients)
      (λ programs. KeepAnyFiles programs × AllByRecursion (LeavesDisk log programs) clients)
