-- Each file that a complete get named has just what reads of the file of its name returned.
use Rattle.tftp_words.proofs.Common.{◌≡◌, ℕ, List, [], ◌∙◌, inl, inr, subst, sym, length, map, string_bytes, Mode}
use Rattle.tftp_words.proofs.Common.{wire_text, SinkMeaning, SourceMeaning, Files, Source, Sink, DiskEvent}
use Rattle.tftp_words.proofs.Common.{StoreMeaning, SocketEvent, RunsWords, FolderStore, RunKeepsSettings, Programs}
use Rattle.tftp_words.proofs.Common.{FileDone, GotFile, RanComplete, WordsComplete, WordsMoveFiles, ClientStored}
use Rattle.tftp_words.proofs.Common.{ran_of, SeveralMoveFiles, Job}
use Rattle.tftp_client.specs.OnDisk.{IsOnDisk, WordsOnDisk}
use Rattle.tftp_client.specs.declared.local.LocalFile.{LocalFile}
use Rattle.tftp_folder.specs.Source.{GivesFile, OpensSource}
use Rattle.tftp_folder.specs.declared.folder_source.FolderSource.{FolderSource}
use Rattle.tftp_words.specs.FromDisk.{FileReaches, FromDiskToDisk}
use Rattle.tftp_words.specs.Ran.{root_of}
use Rattle.tftp_words.specs.SeveralFromDisk.{SeveralFromDiskToDisk}
use Rattle.tftp_words.proofs.Following.{all_then, also_there, one_then, several_then}
use Rattle.tftp_words.proofs.StoresOf.{opened_there}
use Rattle.std.specs.declared.io.traits.Read as read
use Rattle.std.specs.declared.io.traits.Write as write
use Rattle.std.specs.declared.io.traits.Seek as seek
use Rattle.tftp_disk.specs.declared.disk.Looks as looks

-- what the models of a store of a folder and of its sources say
pub record AreOfFolder {R G H W V E B : Type 0} (looked : V → List DiskEvent) (stores : StoreMeaning (FolderStore R G H W) B)
    (sources : SourceMeaning (FolderSource V E)) : Type 0 where
  pub keeps : RunKeepsSettings stores sources
  pub gives : GivesFile looked sources
  pub root : (store : FolderStore R G H W) → stores.root store ≡ string_bytes store.folder.root
  pub opens : (root path : List ℕ) (mode : Mode) (stated : ℕ) (source : FolderSource V E) →
      sources.opens root path mode stated source → OpensSource looked root path mode stated source

module _ {S D F U I : Type 0} {logs : looks.Ghosts D} {writes : write.Ghosts F}
    {views : looks.Ghosts U} {reads : read.Ghosts I} {seeks : seek.Ghosts I}
    {inputs : SourceMeaning S} {outputs : SinkMeaning (LocalFile D F U I logs writes views reads seeks)} where
  module _ {R G H W V E B : Type 0} {looked : V → List DiskEvent} {stores : StoreMeaning (FolderStore R G H W) B}
      {sources : SourceMeaning (FolderSource V E)} (of : AreOfFolder looked stores sources) (programs : Programs stores sources inputs outputs) where
    its_opening : (job : Job) (count : ℕ) (bytes : List ℕ) (got : GotFile programs job count bytes) →
        OpensSource looked (root_of programs) got.path job.mode (length (wire_text job.mode bytes)) got.opening.source
    its_opening job count bytes got =
        subst (λ (n : ℕ). OpensSource looked (root_of programs) got.path job.mode n got.opening.source)
        (sym got.measured)
        (of.opens (root_of programs) got.path job.mode got.opening.length got.opening.source
        (opened_there got.path got.got.serves.transfer.request job.mode (root_of programs) got.opening programs.server.run
        (λ state run. of.root state.server.store ∙ (of.keeps programs.server.start state run).root) got.opened))

    its_file : (calls : List DiskEvent) (job : Job) (files : Files S (LocalFile D F U I logs writes views reads seeks)) (count : ℕ) (bytes : List ℕ) →
        IsOnDisk job files bytes calls → FileDone programs job files count bytes →
        FileReaches inputs outputs looked programs calls job files count bytes
    its_file calls job (Source source) count bytes stored done = done
    its_file calls job (Sink local) count bytes stored done =
        let opens = its_opening job count bytes done in
        record {
          stored = stored;
          got = done;
          opens = opens;
          read =
              of.gives (root_of programs) done.path job.mode (length (wire_text job.mode bytes)) done.opening.source
              done.source (wire_text job.mode bytes) opens done.gave;
        }

  -- from what was done with the files to what reached the disk
  stored_complete : (calls : List DiskEvent) (words : List (List ℕ)) (status : ℕ) (before after : List SocketEvent)
      (h : RunsWords inputs outputs words status before after) →
      WordsOnDisk inputs outputs words status before after [] calls h →
      WordsComplete inputs outputs (λ job files count bytes. IsOnDisk job files bytes calls) words status before after h
  stored_complete calls words status before after (inl none) stored = tt
  stored_complete calls words status before after (inr (job, named, inl done)) stored = stored.0
  stored_complete calls words status before after (inr (job, named, inr failed)) stored = tt

  all_stored : (client : ClientStored inputs outputs) → RanComplete inputs outputs
      (λ job files count bytes. IsOnDisk job files bytes client.calls) (ran_of inputs outputs client)
  all_stored client =
      stored_complete client.calls client.words client.status client.before client.after client.stored.0 client.stored.1

  -- from the words
  module _ {R G H W V E B : Type 0} {log : R → List DiskEvent} {looked : V → List DiskEvent}
      {stores : StoreMeaning (FolderStore R G H W) B} {sources : SourceMeaning (FolderSource V E)}
      (of : AreOfFolder looked stores sources) where
    pub from_disk : WordsMoveFiles log stores sources inputs outputs →
        FromDiskToDisk inputs outputs log looked stores sources
    from_disk move server port clients =
        one_then (λ programs ran done. (
          done.0,
          all_then (ran_of inputs outputs)
              (λ client. its_file of programs client.calls) all_stored clients done.1,
        ))
        (move server port (map (ran_of inputs outputs) clients))

    -- and from those of several servers
    pub several_from_disk : SeveralMoveFiles log stores sources inputs outputs →
        SeveralFromDiskToDisk inputs outputs log looked stores sources
    several_from_disk move ip port servers clients =
        several_then ip (λ several order ran done. all_then (ran_of inputs outputs)
        (λ client job files count bytes stored done. also_there several order
        (λ programs. FileDone programs job files count bytes)
        (λ programs. FileReaches inputs outputs looked programs client.calls job files count bytes) job
        (λ programs moved. its_file of programs client.calls job files count bytes stored moved) done) all_stored clients done)
        (move ip port servers (map (ran_of inputs outputs) clients))
