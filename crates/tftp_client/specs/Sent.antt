-- What was sent of a file on the disk, by the calls of the system on it.
use Rattle.std.specs.Prelude.{ℕ, ◌≡◌, ◌⊎◌, true, List, length, Some, Result, IfOk, IfErr}
use Rattle.std.proofs.Common.{inl, inr}
use Rattle.std.specs.declared.io.traits.Read as read
use Rattle.std.specs.declared.io.traits.Write as write
use Rattle.std.specs.declared.io.traits.Seek as seek
use Rattle.tftp_disk.specs.DiskTrace.{DiskEvent}
use Rattle.tftp_disk.specs.declared.disk.Looks as looks
use Rattle.tftp_wire.specs.declared.mode.Mode.{Mode}
use Rattle.tftp_wire.specs.declared.mode.Mode.TheVariants.{Netascii}
use Rattle.tftp_negotiate.specs.declared.known.Kind.{Kind}
use Rattle.tftp_file.specs.Block.{IsPrefixOf}
use Rattle.tftp_file.specs.Netascii.{wire_text}
use Rattle.tftp_file.specs.Sink.{SinkMeaning}
use Rattle.tftp_file.specs.Source.{SourceMeaning}
use Rattle.tftp_file.specs.declared.files.Files.{Files}
use Rattle.tftp_file.specs.declared.files.Files.TheVariants.{Source, Sink}
use Rattle.tftp_ends.specs.End.{is_complete}
use Rattle.tftp_disk.specs.DiskSource.{HasGiven, IsUnread, source_calls, source_mode}
use Rattle.tftp_disk.specs.Given.{given, is_at_start, opened_at, passed}
use Rattle.tftp_disk.specs.declared.disk_source.DiskSource.{DiskSource}
use Rattle.tftp_sockets.specs.Trace.{SocketEvent}
use Rattle.tftp_client.specs.declared.local.LocalFile.{LocalFile}
use Rattle.tftp_client.specs.declared.transfer.Job.{Job}
use Rattle.tftp_client.specs.declared.transfer.failure.Failure.{Failure}
use Rattle.tftp_client.specs.Converses.{State}
use Rattle.tftp_client.specs.Moved.{nothing_moved, run_moves}
use Rattle.tftp_client.specs.OnDisk.{IsOnDisk, KeepsAs, KeepsDisk, LeavesBy, OrderOnDisk, WordsOnDisk}
use Rattle.tftp_client.specs.Ordered.{RunsOrder, RunsWords}
use Rattle.tftp_client.specs.Outbound.{HasLength}
use Rattle.tftp_client.specs.Runs.{CountsWaits, Dallies, HasDallied, RunsAs, Transfers, line_by, moved_by, printed}

module _ {F : Type 0} where
  -- a file to send in this mode, as it was opened at the path: nothing was read of it since, or
  -- since it was set to its start
  pub record IsOpenedAt (path : List ℕ) (mode : Mode) (source : DiskSource F) : Type 0 where
    pub opened : opened_at (source_calls source) ≡ Some path
    pub start : is_at_start (source_calls source) ≡ true
    pub unread : IsUnread mode source

  -- the bytes that were sent of the file of a job are a beginning of the wire text of what reads of
  -- LOCAL returned, from its start, in order and each byte once: all of it but what is left of what
  -- was read. N is the length of the file: in octet as the system said, and just so many bytes were
  -- sent; in netascii as one pass over it counted before, and as many were sent as its text has
  pub record IsSent (job : Job) (source : DiskSource F) (count : ℕ) (bytes : List ℕ) : Type 0 where
    pub opened : opened_at (source_calls source) ≡ Some job.local.now
    pub mode : source_mode source ≡ job.mode
    pub gave : HasGiven source bytes
    pub long : HasLength job.mode count (length bytes) (source_calls source)

module _ {F K : Type 0} where
  -- a file to send is opened at the path of the job when its transfer begins: it has so many bytes,
  -- and so many on the wire
  abbrev pub BeginsAt : Job → ℕ → ℕ → Files (DiskSource F) K → Type 0
  BeginsAt job bytes wire (Source source) =
      IsOpenedAt job.local.now job.mode source
      × HasLength job.mode bytes wire (source_calls source)
  BeginsAt job bytes wire (Sink sink) = Unit {0}

  -- one pass over it read this text, and what was read of it after that begins with the same text
  abbrev pub StillHas : List ℕ → Files (DiskSource F) K → Type 0
  StillHas text (Source source) =
      (passed (source_calls source) ≡ Some text) × IsPrefixOf text (given (source_calls source))
  StillHas text (Sink sink) = ⊥

  -- these bytes were sent of it
  abbrev pub IsSentFrom : Job → Files (DiskSource F) K → ℕ → List ℕ → Type 0
  IsSentFrom job (Source source) count bytes = IsSent job source count bytes
  IsSentFrom job (Sink sink) count bytes = Unit {0}

module _ {F K : Type 0} (sources : SourceMeaning (DiskSource F)) (sinks : SinkMeaning K) where
  -- the run of an end of this kind, as a job opens it, from the file of the job on; N is its length
  abbrev pub RunsFor : ℕ → Kind → Job → List SocketEvent → State → Files (DiskSource F) K → ℕ
      → Type 0
  RunsFor port kind job before s files count =
      (run : RunsAs sources sinks port kind job before s files count)
      × BeginsAt job count run.length run.runs.file

  -- the run of a job began with its file
  abbrev pub BeginsFor : {most port : ℕ} {job : Job} {before : List SocketEvent} {s : State}
      {files : Files (DiskSource F) K} {count : ℕ}
      → Transfers sources sinks most port job before s files count → Type 0
  BeginsFor {job = job} {count = count} (inl run) = BeginsAt job count run.length run.runs.file
  BeginsFor {job = job} {count = count} (inr again) =
      BeginsAt job count again.2.length again.2.runs.file

  -- a job ran from its file on
  abbrev pub TransfersFor : ℕ → ℕ → Job → List SocketEvent → State → Files (DiskSource F) K → ℕ
      → Type 0
  TransfersFor most port job before s files count =
      (transfers : Transfers sources sinks most port job before s files count)
      × BeginsFor transfers

  -- the run of an end of this kind, as a job opens it, from the file of the job on, is complete,
  -- and what moved in it is on the disk, which has these calls; then its line was printed, with N
  -- of the file, or refused, as the status says, and the client went on
  pub record Concludes (status most : ℕ) (kind : Kind) (job : Job) (before after : List SocketEvent)
      (calls : List DiskEvent) : Type 0 where
    pub port : ℕ
    pub last : State
    pub files : Files (DiskSource F) K
    pub count : ℕ
    pub ends : (status ≡ 0) ⊎ (status ≡ 2)
    pub run : RunsFor port kind job before last files count
    pub complete : is_complete last.end.position.phase ≡ true
    pub stored : IsOnDisk job files (run_moves run.0.runs.converses nothing_moved).bytes calls
    pub stays : Dallies sources sinks port (printed (line_by status count) last) files after
    pub over : HasDallied sources sinks job.dallies most (printed (line_by status count) last)
        stays.last after

  -- the same of a job, which may have been run without its options, once these were refused
  pub record Finishes (status most : ℕ) (job : Job) (before after : List SocketEvent)
      (calls : List DiskEvent) : Type 0 where
    pub port : ℕ
    pub last : State
    pub files : Files (DiskSource F) K
    pub count : ℕ
    pub ends : (status ≡ 0) ⊎ (status ≡ 2)
    pub transfers : TransfersFor most port job before last files count
    pub complete : is_complete last.end.position.phase ≡ true
    pub stored : IsOnDisk job files (moved_by sources sinks transfers.0).bytes calls
    pub stays : Dallies sources sinks port (printed (line_by status count) last) files after
    pub over : HasDallied sources sinks job.dallies most (printed (line_by status count) last)
        stays.last after

  -- what moved in the run of a complete put was read of its file
  abbrev pub OrderSent : (job : Job) (status : ℕ) (before after : List SocketEvent)
      → RunsOrder sources sinks job status before after → Type 0
  OrderSent job status before after (inl done) =
      IsSentFrom job done.1.files done.1.count (moved_by sources sinks done.1.transfers).bytes
  OrderSent job status before after (inr failed) = Unit {0}

  -- the same of the job that words name
  abbrev pub WordsSent : (words : List (List ℕ)) (status : ℕ) (before after : List SocketEvent)
      → RunsWords sources sinks words status before after → Type 0
  WordsSent words status before after (inl none) = Unit {0}
  WordsSent words status before after (inr did) = OrderSent did.0 status before after did.2

  -- the job of words was run, and what moved was read of its file if it is a complete put
  abbrev pub SendsWords : List (List ℕ) → ℕ → List SocketEvent → List SocketEvent → Type 0
  SendsWords words status before after =
      (runs : RunsWords sources sinks words status before after)
      × WordsSent words status before after runs

  -- what moved in each run of a put that is complete was read of its file, if that was opened so
  abbrev pub SendsWhatReadsReturned : Type 0
  SendsWhatReadsReturned =
      (most port : ℕ) (job : Job) (before : List SocketEvent) (s : State)
      (files : Files (DiskSource F) K) (count : ℕ)
      (transfers : Transfers sources sinks most port job before s files count)
      → BeginsFor transfers → is_complete s.end.position.phase ≡ true
      → IsSentFrom job files count (moved_by sources sinks transfers).bytes

  -- of a text that was not changed since its pass, a put in netascii that is complete sent just the
  -- wire text, and N is the number of its bytes
  abbrev pub SendsTheTextWhole : Type 0
  SendsTheTextWhole =
      (most port : ℕ) (job : Job) (before : List SocketEvent) (s : State)
      (files : Files (DiskSource F) K) (count : ℕ) (text : List ℕ)
      (transfers : Transfers sources sinks most port job before s files count)
      → BeginsFor transfers → is_complete s.end.position.phase ≡ true → job.mode ≡ Netascii
      → StillHas text files
      → ((moved_by sources sinks transfers).bytes ≡ wire_text Netascii text)
      × (count ≡ length text)

module _ {D F V G : Type 0} {logs : looks.Ghosts D} {writes : write.Ghosts F}
    {views : looks.Ghosts V} {reads : read.Ghosts G} {seeks : seek.Ghosts G}
    (sources : SourceMeaning (DiskSource G))
    (sinks : SinkMeaning (LocalFile D F V G logs writes views reads seeks)) where
  -- one run of a job, by an end of this kind, between these calls of the disk: it is complete, or it
  -- stopped or was not opened, as the result says. Of so many waits so many are left to the program
  pub record RunsOnce (most left : ℕ) (kind : Kind) (job : Job) (ended : Result ℕ Failure)
      (before after : List SocketEvent) (calls calls' : List DiskEvent) : Type 0 where
    pub ok : IfOk ended
        (λ status. Concludes sources sinks status most kind job before after calls')
    pub err : IfErr ended
        (λ failure. LeavesBy sources sinks most kind job before after calls' failure.end)
    pub keeps : KeepsAs kind job calls calls'
    pub counts : CountsWaits most left ended after

  -- a job was run, between these calls of the disk: what moved in a complete run is on the disk, or
  -- came from it, and no other file was changed
  abbrev pub DoesOrder : Job → ℕ → List SocketEvent → List SocketEvent → List DiskEvent
      → List DiskEvent → Type 0
  DoesOrder job status before after calls calls' =
      (runs : RunsOrder sources sinks job status before after)
      × OrderOnDisk sources sinks job status before after calls' runs
      × KeepsDisk job calls calls'
      × OrderSent sources sinks job status before after runs

  -- the same of words
  abbrev pub DoesWords : List (List ℕ) → ℕ → List SocketEvent → List SocketEvent → List DiskEvent
      → List DiskEvent → Type 0
  DoesWords words status before after calls calls' =
      (runs : RunsWords sources sinks words status before after)
      × WordsOnDisk sources sinks words status before after calls calls' runs
      × WordsSent sources sinks words status before after runs
