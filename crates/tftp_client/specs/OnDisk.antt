-- The file of a job, by the calls of the system on it: of a complete one, and what one that failed
-- leaves.
use Rattle.std.specs.Prelude.{ℕ, ◌≡◌, ◌⊎◌, Bool, true, List, [], ◌++◌, Some, Result, IfOk, IfErr}
use Rattle.std.proofs.Common.{inl, inr}
use Rattle.std.specs.declared.io.traits.Read as read
use Rattle.std.specs.declared.io.traits.Write as write
use Rattle.std.specs.declared.io.traits.Seek as seek
use Rattle.tftp_negotiate.specs.declared.known.Kind.{Kind}
use Rattle.tftp_negotiate.specs.declared.known.Kind.TheVariants.{Read, Write}
use Rattle.tftp_file.specs.Sink.{SinkMeaning}
use Rattle.tftp_file.specs.Source.{SourceMeaning}
use Rattle.tftp_file.specs.declared.files.Files.{Files}
use Rattle.tftp_file.specs.declared.files.Files.TheVariants.{Source, Sink}
use Rattle.tftp_ends.specs.End.{is_complete, outcome_of}
use Rattle.tftp_ends.specs.declared.outcome.Outcome.{Outcome}
use Rattle.tftp_ends.specs.declared.outcome.Outcome.TheVariants.{StoreFault}
use Rattle.tftp_ends.specs.declared.phase.Phase.{Phase}
use Rattle.tftp_disk.specs.DiskTrace.{DiskEvent}
use Rattle.tftp_disk.specs.declared.disk.Looks as looks
use Rattle.tftp_lines.specs.declared.client_outcome.ClientOutcome.{ClientOutcome}
use Rattle.tftp_lines.specs.declared.client_outcome.ClientOutcome.TheVariants as ends
use Rattle.tftp_sockets.specs.Trace.{SocketEvent}
use Rattle.tftp_client.specs.declared.local.LocalFile.{LocalFile}
use Rattle.tftp_client.specs.declared.transfer.Job.{Job}
use Rattle.tftp_client.specs.declared.transfer.failure.Failure.{Failure}
use Rattle.tftp_client.specs.Converses.{Converses, State, WorksOnFile, most_waits}
use Rattle.tftp_client.specs.Fetched.{AreOwn, Keeps, KeepsPlace, Paths, WasNamed}
use Rattle.tftp_client.specs.Moved.{nothing_moved, run_moves}
use Rattle.tftp_client.specs.Ordered.{RunsOrder, RunsWords}
use Rattle.tftp_client.specs.Runs.{CountsWaits, DalliesTo, FailsEnd, FailsTransfer, StopsBy}
use Rattle.tftp_client.specs.Runs.{line_by, moved_by, plain, printed}
use Rattle.tftp_client.specs.Stored.{count_of}
use Rattle.tftp_client.specs.Written.{HasNoRest, IsLeftIn, IsWrittenAt, bytes_in, paths_for}
use Rattle.tftp_client.specs.Written.{paths_of}

-- the names of the file of a job
abbrev pub job_paths : Job → Paths
job_paths job = paths_for job.local.now job.existing

-- a file of just these bytes was made under the other name of the job, written, synced and then
-- named, while it was still what had that other name; its folder was synced after that. These were
-- the last calls of the disk, so that LOCAL has these bytes when the command ends
abbrev pub IsStored : Job → List ℕ → List DiskEvent → Type 0
IsStored job bytes calls = ∥ WasNamed (job_paths job) bytes calls ∥₁

-- between these calls of the disk no other name was changed than those of the job's file, and
-- nothing was asked if the file is sent
pub record KeepsDisk (job : Job) (before after : List DiskEvent) : Type 0 where
  pub own : AreOwn (job_paths job) before → AreOwn (job_paths job) after
  pub put : job.kind ≡ Write → after ≡ before

-- the same, as an end of this kind does it for a job
abbrev pub KeepsAs : Kind → Job → List DiskEvent → List DiskEvent → Type 0
KeepsAs Read job before after = Keeps (job_paths job) before after
KeepsAs Write job before after = after ≡ before

-- these bytes moved between the socket of a job and the disk, which has these calls: those of a
-- received file are stored
abbrev pub IsOnDisk : {S K : Type 0} → Job → Files S K → List ℕ → List DiskEvent → Type 0
IsOnDisk job (Source source) bytes calls = Unit {0}
IsOnDisk job (Sink sink) bytes calls = IsStored job bytes calls

module _ {D F V G : Type 0} {logs : looks.Ghosts D} {writes : write.Ghosts F}
    {views : looks.Ghosts V} {reads : read.Ghosts G} {seeks : seek.Ghosts G} where
  -- a received file was handed these bytes, its end came to that phase, and its disk has these calls.
  -- Those that its appends took are in the file that was made under the other name of the job, in
  -- order and each once, except those behind a write that was refused. An append took each of them,
  -- unless the end closed since the file refused its newest block. The file is still what has that
  -- other name, or else LOCAL, if it was whole and its folder could not be synced
  pub record IsLeftOf (job : Job) (phase : Phase)
      (local : LocalFile D F V G logs writes views reads seeks) (bytes : List ℕ)
      (calls : List DiskEvent) : Type 0 where
    pub rest : List ℕ
    pub taken : bytes ≡ bytes_in local.part.written ++ rest
    pub all : (rest ≡ []) ⊎ (outcome_of phase ≡ Some StoreFault)
    pub written : IsWrittenAt (job_paths job).part (bytes_in local.part.written) local.part.written
    pub place : ∥ IsLeftIn (job_paths job) local.part.written calls ∥₁

module _ {S : Type 0} {D F V G : Type 0} {logs : looks.Ghosts D} {writes : write.Ghosts F}
    {views : looks.Ghosts V} {reads : read.Ghosts G} {seeks : seek.Ghosts G} where
  -- a received file is to get the name of the job, and is written under its other one
  abbrev pub IsFor : Job → Files S (LocalFile D F V G logs writes views reads seeks) → Type 0
  IsFor job (Source source) = Unit {0}
  IsFor job (Sink local) = paths_of local.part.names local.part.existing ≡ job_paths job

  -- these bytes moved in a run of a job that is not complete: those of a received file are left
  abbrev pub IsLeft : Job → Phase → Files S (LocalFile D F V G logs writes views reads seeks)
      → List ℕ → List DiskEvent → Type 0
  IsLeft job phase (Source source) bytes calls = Unit {0}
  IsLeft job phase (Sink local) bytes calls = IsLeftOf job phase local bytes calls

  -- nothing of a received file is still in its buffer, unless a write was refused
  abbrev pub IsOut : Files S (LocalFile D F V G logs writes views reads seeks) → Type 0
  IsOut (Source source) = Unit {0}
  IsOut (Sink local) = HasNoRest local.part.written

  -- a received file has the names that it had, and its disk was asked for no other's
  abbrev pub KeepsFile : Files S (LocalFile D F V G logs writes views reads seeks)
      → Files S (LocalFile D F V G logs writes views reads seeks) → Type 0
  KeepsFile (Source old) (Source new) = Unit {0}
  KeepsFile (Sink old) (Sink new) =
      KeepsPlace (paths_of old.part.names old.part.existing)
      (paths_of new.part.names new.part.existing) old.part.is_tried new.part.is_tried
      (logs.log old.part.disk) (logs.log new.part.disk)
  KeepsFile (Source old) (Sink new) = ⊥
  KeepsFile (Sink old) (Source new) = ⊥

module _ {S : Type 0} {D F V G : Type 0} {logs : looks.Ghosts D} {writes : write.Ghosts F}
    {views : looks.Ghosts V} {reads : read.Ghosts G} {seeks : seek.Ghosts G}
    (sources : SourceMeaning S)
    (sinks : SinkMeaning (LocalFile D F V G logs writes views reads seeks)) where
  -- a received file was written once more, and a source was not used
  abbrev pub WritesOut : Files S (LocalFile D F V G logs writes views reads seeks)
      → Files S (LocalFile D F V G logs writes views reads seeks) → Type 0
  WritesOut (Source old) new = new ≡ Source old
  WritesOut (Sink old) new = WorksOnFile sources sinks (Sink old) new

  -- the run of an end from that state stopped, went to that file, and is not complete; nothing of a
  -- received file is still in its buffer
  abbrev pub StopsOut : ℕ → ℕ → State → Files S (LocalFile D F V G logs writes views reads seeks)
      → List SocketEvent → Files S (LocalFile D F V G logs writes views reads seeks)
      → ClientOutcome → Type 0
  StopsOut most port first file after files' end =
      (outcome : Outcome) × (end ≡ ends.Failed outcome)
      × (stops : StopsBy sources sinks most port first file after outcome)
      × (stops.files ≡ files') × IsOut stops.files

  -- the run of an end from that state on is complete; then its line was printed, with N of the
  -- file, or refused, as the status says, and it went on to that file
  pub record Reaches (status : ℕ) (dallies : Bool) (most port : ℕ) (first : State)
      (file : Files S (LocalFile D F V G logs writes views reads seeks)) (sent : ℕ)
      (after : List SocketEvent)
      (files' : Files S (LocalFile D F V G logs writes views reads seeks)) : Type 0 where
    pub ends : (status ≡ 0) ⊎ (status ≡ 2)
    pub last : State
    pub files : Files S (LocalFile D F V G logs writes views reads seeks)
    pub converses : Converses sources sinks port first file last files
    pub complete : is_complete last.end.position.phase ≡ true
    pub stays : DalliesTo sources sinks dallies most port
        (printed (line_by status (count_of sent files)) last) files after files'
    pub kept : KeepsFile files files'

  -- the run of an end from that state on went to that file, and reached its end or stopped, as the
  -- result says; so many waits are left to the program
  pub record RunsTo (dallies : Bool) (most left port : ℕ) (first : State)
      (file : Files S (LocalFile D F V G logs writes views reads seeks)) (sent : ℕ)
      (after : List SocketEvent)
      (files' : Files S (LocalFile D F V G logs writes views reads seeks))
      (ended : Result ℕ Failure) : Type 0 where
    pub ok : IfOk ended (λ status. Reaches status dallies most port first file sent after files')
    pub err : IfErr ended (λ failure. StopsOut most port first file after files' failure.end)
    pub keeps : KeepsFile file files'
    pub counts : CountsWaits most left ended after

  -- what moved in the run of a failed end is left, and the disk has these calls
  abbrev pub EndLeaves : (most : ℕ) (kind : Kind) (job : Job) (length : ℕ)
      (before after : List SocketEvent) (calls : List DiskEvent) (end : ClientOutcome)
      → FailsEnd sources sinks most kind job length before after end → Type 0
  EndLeaves most kind job length before after calls (ends.Failed outcome) failed =
      let stops = failed.fails.stops in
      IsLeft job stops.last.end.position.phase stops.files
      (run_moves stops.converses nothing_moved).bytes calls
  EndLeaves most kind job length before after calls _ failed = Unit {0}

  -- the run of an end of this kind stopped, or was not opened, and what moved is left
  abbrev pub LeavesBy : ℕ → Kind → Job → List SocketEvent → List SocketEvent → List DiskEvent
      → ClientOutcome → Type 0
  LeavesBy most kind job before after calls end =
      (failed : (length : ℕ) × FailsEnd sources sinks most kind job length before after end)
      × EndLeaves most kind job failed.0 before after calls end failed.1

  -- what moved in the last run of a failed job is left
  abbrev pub TransferLeaves : (most : ℕ) (job : Job) (before after : List SocketEvent)
      (calls : List DiskEvent) (end : ClientOutcome)
      → FailsTransfer sources sinks most job before after end → Type 0
  TransferLeaves most job before after calls end (inl failed) =
      EndLeaves most job.kind job failed.0.0 before after calls end failed.0.1
  TransferLeaves most job before after calls end (inr again) =
      EndLeaves most job.kind (plain job) again.2.0 again.0 after calls end again.2.1

  -- a job failed, and what moved in its last run is left
  abbrev pub LeavesTransfer : ℕ → Job → List SocketEvent → List SocketEvent → List DiskEvent
      → ClientOutcome → Type 0
  LeavesTransfer most job before after calls end =
      (failed : FailsTransfer sources sinks most job before after end)
      × TransferLeaves most job before after calls end failed

  -- what moved in the run of a complete job is on the disk, and what moved in one that failed is
  -- left
  abbrev pub OrderOnDisk : (job : Job) (status : ℕ) (before after : List SocketEvent)
      (calls : List DiskEvent) → RunsOrder sources sinks job status before after → Type 0
  OrderOnDisk job status before after calls (inl done) =
      IsOnDisk job done.1.files (moved_by sources sinks done.1.transfers).bytes calls
  OrderOnDisk job status before after calls (inr failed) =
      TransferLeaves (most_waits before) job before after calls failed.1 failed.3

  -- the same of the job that words name, between these calls of the disk; without a job nothing was
  -- asked
  abbrev pub WordsOnDisk : (words : List (List ℕ)) (status : ℕ) (before after : List SocketEvent)
      (calls calls' : List DiskEvent) → RunsWords sources sinks words status before after → Type 0
  WordsOnDisk words status before after calls calls' (inl none) = calls' ≡ calls
  WordsOnDisk words status before after calls calls' (inr did) =
      OrderOnDisk did.0 status before after calls' did.2 × KeepsDisk did.0 calls calls'

  -- a job was run for these arguments, between these calls of the disk: what moved is on the disk
  -- if the job is complete, and left if it failed
  abbrev pub StoresWords : List (List ℕ) → ℕ → List SocketEvent → List SocketEvent → List DiskEvent
      → List DiskEvent → Type 0
  StoresWords words status before after calls calls' =
      (runs : RunsWords sources sinks words status before after)
      × WordsOnDisk words status before after calls calls' runs
