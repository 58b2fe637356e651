-- From end to end: what a complete get was handed is just what its server's source gave, and what a
-- complete put sent is just what its server's draft took, which was committed.
use Rattle.tftp_words.specs.Common.{wire_text, SinkMeaning, SourceMeaning, Files, Source, Sink}
use Rattle.tftp_words.specs.Common.{DiskEvent, StoreMeaning, SocketEvent, RunsWords, moved_by}
use Rattle.tftp_words.specs.Common.{FolderStore, KeepAnyFiles, moved_in, Programs}
use Rattle.std.specs.Prelude.{ℕ, ◌≡◌, List, length, slice_get, Some, Ok}
use Rattle.std.specs.List.{AllByRecursion}
use Rattle.std.proofs.Common.{inl, inr}
use Rattle.tftp_wire.specs.declared.mode.Mode.TheVariants.{Octet}
use Rattle.tftp_file.specs.Path.{path_of_name}
use Rattle.tftp_file.specs.Source.{GivesInTurn}
use Rattle.tftp_store.specs.declared.store.Opening.{Opening}
use Rattle.tftp_promises.specs.AnyFiles.{HasGot, HasPut}
use Rattle.tftp_promises.specs.Drafts.{HadStore, StoreBegan, WasCommitted}
use Rattle.tftp_promises.specs.Given.{StoreOpened}
use Rattle.tftp_promises.specs.Order.{ClientOf}
use Rattle.tftp_words.specs.Ran.{ClientRan, HoldsOfOne, Job, ServerRan}

module _ {G K : Type 0} (inputs : SourceMeaning G) (outputs : SinkMeaning K)
    (Holds : Job → Files G K → ℕ → List ℕ → Type 0) where
  -- of the job that words name, if it is complete: this holds of its file, of N of its line, and of
  -- what moved in its run
  abbrev pub WordsComplete : (words : List (List ℕ)) (status : ℕ) (before after : List SocketEvent)
      → RunsWords inputs outputs words status before after → Type 0
  WordsComplete words status before after (inl none) = Unit {0}
  WordsComplete words status before after (inr (job, named, inl done)) =
      Holds job done.1.files done.1.count (moved_by inputs outputs done.1.transfers).bytes
  WordsComplete words status before after (inr (job, named, inr failed)) = Unit {0}

  -- the same of the job of a run of `tftp`
  abbrev pub RanComplete : ClientRan inputs outputs → Type 0
  RanComplete ran = WordsComplete ran.words ran.status ran.before ran.after ran.ran

module _ {S F D G K : Type 0} {stores : StoreMeaning S D} {sources : SourceMeaning F}
    {inputs : SourceMeaning G} {outputs : SinkMeaning K}
    (programs : Programs stores sources inputs outputs) where
  -- the file of a complete get, of which N was printed, was handed these bytes
  pub record GotFile (job : Job) (count : ℕ) (bytes : List ℕ) : Type 0 where
    -- N counts them
    pub counted : count ≡ length bytes
    -- a program of the network got them
    pub k : ℕ
    pub program : ClientOf programs
    pub found : slice_get programs.clients k ≡ Some program
    pub moved : (moved_in program.runs).bytes ≡ bytes
    pub got : HasGot programs program
    -- the server's store opened the file of that name for it, and what the source of that gave
    -- then, call by call, are these bytes as wire text, and no others
    pub path : List ℕ
    pub named : path_of_name job.name.now ≡ Ok path
    pub opening : Opening F
    pub opened : StoreOpened programs.server.run path got.serves.transfer.request job.mode opening
    pub source : F
    pub held : got.serves.transfer.files ≡ Source source
    pub gave : GivesInTurn sources opening.source (wire_text job.mode bytes) source
    pub measured : length (wire_text job.mode bytes) ≡ opening.length

  -- the file of a complete put, of which N was printed, gave this wire text
  pub record PutFile (job : Job) (count : ℕ) (text : List ℕ) : Type 0 where
    -- N counts it in octet
    pub counted : job.mode ≡ Octet → count ≡ length text
    -- a program of the network put it
    pub k : ℕ
    pub program : ClientOf programs
    pub found : slice_get programs.clients k ≡ Some program
    pub moved : (moved_in program.runs).bytes ≡ text
    pub put : HasPut programs program
    -- the source with which it began gave just this text, call by call
    pub first : G
    pub is_first : program.file ≡ Source first
    pub source : G
    pub held : program.files ≡ Source source
    pub gave : GivesInTurn inputs first text source
    -- the server's store began a draft of that name for it, which took, call by call, the bytes of
    -- which this is the wire text, and no others; and a commit after them succeeded
    pub path : List ℕ
    pub named : path_of_name job.name.now ≡ Ok path
    pub began_with : D
    pub began : StoreBegan programs.server.run path put.serves.transfer.request job.mode
        programs.server.start.server.config.overwrite began_with
    pub bytes : List ℕ
    pub same : wire_text job.mode bytes ≡ text
    pub committed : WasCommitted stores (HadStore programs.server.run) path
        programs.server.start.server.config.overwrite began_with bytes

  -- the file of a complete job, in whose run these bytes moved
  abbrev pub FileDone : Job → Files G K → ℕ → List ℕ → Type 0
  FileDone job (Source source) count bytes = PutFile job count bytes
  FileDone job (Sink sink) count bytes = GotFile job count bytes

  abbrev pub HasDone : ClientRan inputs outputs → Type 0
  HasDone = RanComplete inputs outputs FileDone

module _ {R G H W F D I K : Type 0} (log : R → List DiskEvent)
    (stores : StoreMeaning (FolderStore R G H W) D) (sources : SourceMeaning F)
    (inputs : SourceMeaning I) (outputs : SinkMeaning K) where
  -- the programs that `tftpd` and `tftp` ran keep the promises; what the file of a complete get was
  -- handed is just what the server's source gave, and what that of a complete put gave is just what
  -- the server's draft took before a commit of it succeeded
  abbrev pub WordsMoveFiles : Type 0
  WordsMoveFiles =
      (server : ServerRan log stores sources) (port : ℕ) (clients : List (ClientRan inputs outputs))
      → HoldsOfOne server port clients
      (λ programs. KeepAnyFiles programs × AllByRecursion (HasDone programs) clients)
