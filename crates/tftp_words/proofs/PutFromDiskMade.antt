-- What reads of LOCAL returned to each complete put is what the server wrote to the file that it named.
use Rattle.tftp_words.proofs.Common.{◌≡◌, ℕ, List, subst, inl, inr, map, SinkMeaning, SourceMeaning, Files, Source}
use Rattle.tftp_words.proofs.Common.{Sink, StoreMeaning, DiskEvent, SocketEvent, RunsWords, RunKeepsSettings, Limits}
use Rattle.tftp_words.proofs.Common.{IsStoredAt, FolderStore, Programs, FileDone, PutFile, RanComplete, WordsComplete}
use Rattle.tftp_words.proofs.Common.{WordsMoveFiles, SeveralMoveFiles, ClientSent, run_of, Job}
use Rattle.tftp_disk.specs.declared.disk_source.DiskSource.{DiskSource}
use Rattle.tftp_client.specs.Sent.{IsSentFrom, WordsSent}
use Rattle.tftp_folder.specs.Changing.{limits_of}
use Rattle.tftp_folder.specs.Settings.{SameSettings}
use Rattle.tftp_folder.specs.Stored.{StoresWhatItTook}
use Rattle.tftp_folder.specs.declared.folder_draft.FolderDraft.{FolderDraft}
use Rattle.tftp_words.specs.PutFromDisk.{FileLeaves, PutsFromDiskToDisk}
use Rattle.tftp_words.specs.SeveralFromDisk.{SeveralPutsFromDiskToDisk}
use Rattle.tftp_words.proofs.Following.{all_then, also_there, one_then, several_then}
use Rattle.tftp_words.proofs.StoresOf.{BegunBy, began_there}

-- what the models of a store of a folder and of its drafts say
pub record KeepsFolder {R G H W E B : Type 0} (log : R → List DiskEvent)
    (stores : StoreMeaning (FolderStore R G H W) (FolderDraft B)) (sources : SourceMeaning E) : Type 0 where
  pub settings : RunKeepsSettings stores sources
  pub drafts : StoresWhatItTook log stores

-- the same settings are the same limits
same_limits : {R G H W : Type 0} (before after : FolderStore R G H W) → SameSettings before after →
    limits_of after ≡ limits_of before
same_limits before after same =
    let a = same.read_only in
    let b = same.uploads in
    let c = same.root in
    let d = same.drafts in
    cc

module _ {L K : Type 0} {inputs : SourceMeaning (DiskSource L)} {outputs : SinkMeaning K} where
  module _ {R G H W E B : Type 0} {log : R → List DiskEvent} {stores : StoreMeaning (FolderStore R G H W) (FolderDraft B)}
      {sources : SourceMeaning E}
      (keeps : KeepsFolder log stores sources) (programs : Programs stores sources inputs outputs) where
    -- the store that began a draft has the settings of the first
    abbrev Set : FolderStore R G H W → Type 0
    Set store = SameSettings programs.server.start.server.store store

    its_begin : (job : Job) (count : ℕ) (text : List ℕ) (put : PutFile programs job count text) →
        BegunBy stores Set put.path programs.server.start.server.config.overwrite put.began_with
    its_begin job count text put =
        began_there put.path put.put.serves.transfer.request job.mode Set
        programs.server.start.server.config.overwrite put.began_with programs.server.run
        (λ state run. keeps.settings programs.server.start state run) put.began

    its_file : (job : Job) (files : Files (DiskSource L) K) (count : ℕ) (bytes : List ℕ) →
        IsSentFrom job files count bytes → FileDone programs job files count bytes →
        FileLeaves inputs outputs log programs job files count bytes
    its_file job (Source source) count bytes sent done =
        let b = its_begin job count bytes done in
        let c = done.committed in
        record {
          sent = sent;
          put = done;
          stored =
              subst (λ (l : Limits). IsStoredAt l done.path done.bytes programs.server.start.server.config.overwrite
              (log c.before.disk) (log c.after.disk))
              (same_limits programs.server.start.server.store b.before b.is_so)
              (keeps.drafts done.path done.bytes programs.server.start.server.config.overwrite
              programs.server.start.server.config.overwrite b.before b.after c.before c.after done.began_with c.draft
              c.left b.begun c.took c.commits);
        }
    its_file job (Sink sink) count bytes sent done = done

  -- from what was done with the files to what left the disk
  sent_complete : (words : List (List ℕ)) (status : ℕ) (before after : List SocketEvent)
      (h : RunsWords inputs outputs words status before after) →
      WordsSent inputs outputs words status before after h →
      WordsComplete inputs outputs IsSentFrom words status before after h
  sent_complete words status before after (inl none) sent = tt
  sent_complete words status before after (inr (job, named, inl done)) sent = sent
  sent_complete words status before after (inr (job, named, inr failed)) sent = tt

  all_sent : (client : ClientSent inputs outputs) → RanComplete inputs outputs IsSentFrom (run_of inputs outputs client)
  all_sent client =
      sent_complete client.words client.status client.before client.after client.sent.0 client.sent.1

  -- from the words
  module _ {R G H W E B : Type 0} {log : R → List DiskEvent} {stores : StoreMeaning (FolderStore R G H W) (FolderDraft B)}
      {sources : SourceMeaning E} (keeps : KeepsFolder log stores sources) where
    pub puts_from_disk : WordsMoveFiles log stores sources inputs outputs →
        PutsFromDiskToDisk inputs outputs log stores sources
    puts_from_disk move server port clients =
        one_then (λ programs ran done.
        (done.0, all_then (run_of inputs outputs) (λ client. its_file keeps programs) all_sent clients done.1))
        (move server port (map (run_of inputs outputs) clients))

    -- and from those of several servers
    pub several_puts_from_disk : SeveralMoveFiles log stores sources inputs outputs →
        SeveralPutsFromDiskToDisk inputs outputs log stores sources
    several_puts_from_disk move ip port servers clients =
        several_then ip (λ several order ran done. all_then (run_of inputs outputs)
        (λ client job files count bytes sent done. also_there several order
        (λ programs. FileDone programs job files count bytes)
        (λ programs. FileLeaves inputs outputs log programs job files count bytes) job
        (λ programs moved. its_file keeps programs job files count bytes sent moved) done) all_sent clients done)
        (move ip port servers (map (run_of inputs outputs) clients))
