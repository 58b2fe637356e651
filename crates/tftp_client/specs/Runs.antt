-- What the program did for a job: the run of one end from its request on, or of a second one, where
-- options were refused.
use Rattle.std.specs.Prelude.{ℕ, ◌≡◌, ◌==◌, ◌≤◌, ◌+◌, ◌⊎◌, Bool, true, false, if◌then◌else◌, Result, IfErr}
use Rattle.std.specs.Prelude.{List, [], ◌∷◌, length as list_length}
use Rattle.std.specs.Prelude.{Some, None, IsSome, option_map}
use Rattle.std.proofs.Common.{inl, inr}
use Rattle.tftp_wire.specs.declared.mode.Mode.{Mode}
use Rattle.tftp_wire.specs.declared.mode.Mode.TheVariants.{Octet, Netascii}
use Rattle.tftp_negotiate.specs.declared.asked.Asked.{Asked}
use Rattle.tftp_negotiate.specs.declared.known.Kind.{Kind}
use Rattle.tftp_negotiate.specs.declared.known.Kind.TheVariants.{Read, Write}
use Rattle.tftp_file.specs.Sink.{Holding, SinkMeaning}
use Rattle.tftp_file.specs.Source.{SourceMeaning}
use Rattle.tftp_file.specs.declared.files.Files.{Files}
use Rattle.tftp_file.specs.declared.files.Files.TheVariants.{Source, Sink}
use Rattle.tftp_file.specs.declared.length.TheConstants.{MAX_WIRE}
use Rattle.tftp_ends.specs.declared.backoff.Backoff.{Backoff}
use Rattle.tftp_ends.specs.End.{EndState, is_complete, outcome_of}
use Rattle.tftp_ends.specs.Opening.{MayGet, MayPut, getting, putting}
use Rattle.tftp_ends.specs.declared.endpoint.Endpoint.{Endpoint}
use Rattle.tftp_ends.specs.declared.outcome.Outcome.{Outcome}
use Rattle.tftp_lines.specs.ClientOutcome.{end_text}
use Rattle.tftp_client.specs.Fallback.{FallsBack}
use Rattle.tftp_lines.specs.declared.client_outcome.ClientOutcome.{ClientOutcome}
use Rattle.tftp_lines.specs.declared.client_outcome.ClientOutcome.TheVariants as ends
use Rattle.tftp_sockets.specs.Trace.{SocketEvent}
use Rattle.tftp_sockets.specs.Trace.SocketEvent.{Printed, Sent}
use Rattle.tftp_sockets.specs.Quiet.{waits}
use Rattle.tftp_client.specs.declared.transfer.Job.{Job}
use Rattle.tftp_client.specs.Converses.{Converses, EndsBy, State, deadline_at, most_waits}
use Rattle.tftp_client.specs.Moved.{Moved, nothing_moved, run_moves}
use Rattle.tftp_client.specs.Taken.{nothing}

-- a client whose end opened, once its request was sent from the port (RFC 1350, section 4). Its watch
-- starts at this reading of the clock
abbrev pub sent_from : Backoff → (port reading : ℕ) → EndState → Endpoint → List ℕ
    → List SocketEvent → State
sent_from backoff port reading end to bytes before =
    record {
      end = end;
      now = 0;
      reading = reading;
      deadline = deadline_at backoff 0 end;
      backoff = backoff;
      events = Sent port to bytes ∷ before;
    }

abbrev pub begun : Backoff → (port reading : ℕ) → EndState → List SocketEvent → State
begun backoff port reading end before =
    sent_from backoff port reading end end.position.last_sent_to end.position.last_sent before

-- the options that a job asks, where the file has that length
-- (RFC 2349, "Transfer Size Option Specification")
abbrev pub measured : Asked → ℕ → Asked
measured asked length =
    record {
      blksize = asked.blksize;
      timeout = asked.timeout;
      tsize = option_map (λ _. length) asked.tsize;
    }

-- the end of a job as it opens: one that reads, or one that writes a file of that length
abbrev pub opens : Kind → Job → ℕ → EndState
opens Read job length = getting job.server job.name.now job.mode job.asked MAX_WIRE job.retries
opens Write job length =
    putting job.server job.name.now job.mode (measured job.asked length) length MAX_WIRE job.retries

-- the request of a job's end may be sent: of one that writes, for a file of that length
abbrev pub MayOpen : Kind → Job → ℕ → Type 0
MayOpen Read job length = MayGet job.name.now job.mode job.asked
MayOpen Write job length = MayPut job.name.now job.mode (measured job.asked length) length

-- a line was printed
abbrev pub printed : List ℕ → State → State
printed line s = record s { events = Printed line ∷ s.events }

-- what standard output took of the line of a complete transfer, which ends with this status: all of
-- it if that is 0, and else nothing, since the system refused it
abbrev pub line_by : ℕ → ℕ → List ℕ
line_by status count = if status == 0 then end_text (ends.Complete count) else []

-- a job without options
abbrev pub plain : Job → Job
plain job = record job { asked = record { blksize = None; timeout = None; tsize = None } }

-- a job that ended so may be tried without options: ERROR 8 refused them, and the job allows it
-- (RFC 2347)
abbrev pub MayFallBack : Job → ClientOutcome → Type 0
MayFallBack job (ends.Failed outcome) = (job.falls_back ≡ true) × FallsBack outcome job.asked
MayFallBack job _ = ⊥

-- a run ended so, behind so many waits of the program, and so many were left to it: as many as it did
-- not make, if it failed, and it never made more than all of them
pub record CountsWaits {A E : Type 0} (most left : ℕ) (result : Result A E) (after : List SocketEvent)
    : Type 0 where
  pub counted : IfErr result (λ _. left + waits after ≡ most)
  pub within : waits after ≤ most

module _ {S K : Type 0} (sources : SourceMeaning S) (sinks : SinkMeaning K) where
  -- a received file has taken nothing
  abbrev pub IsNew : Files S K → Type 0
  IsNew (Source source) = Unit {0}
  IsNew (Sink sink) = sinks.held sink ≡ Some nothing

  -- a job that reads has a file to be stored, and one that writes a file to be sent
  abbrev pub IsFileOf : Kind → Files S K → Type 0
  IsFileOf Read (Source source) = ⊥
  IsFileOf Read (Sink sink) = Unit {0}
  IsFileOf Write (Source source) = Unit {0}
  IsFileOf Write (Sink sink) = ⊥

  -- the program did this for an end at the port, from its request on; a received file is new then
  pub record Runs (backoff : Backoff) (port : ℕ) (end : EndState) (before : List SocketEvent) (s : State)
      (files : Files S K) : Type 0 where
    -- the reading of the clock at which its watch starts
    pub reading : ℕ
    pub file : Files S K
    pub new : IsNew file
    pub converses : Converses sources sinks port (begun backoff port reading end before) file s files

  -- the run of an end from that state stopped, and is not complete; there may be so many waits
  pub record StopsBy (most port : ℕ) (first : State) (file : Files S K) (after : List SocketEvent)
      (outcome : Outcome) : Type 0 where
    pub last : State
    pub files : Files S K
    pub converses : Converses sources sinks port first file last files
    pub events : last.events ≡ after
    pub incomplete : is_complete last.end.position.phase ≡ false
    pub ends : EndsBy most last outcome

  -- the run of an end from its request on stopped, and is not complete
  pub record Fails (most : ℕ) (backoff : Backoff) (end : EndState) (before after : List SocketEvent)
      (outcome : Outcome) : Type 0 where
    pub port : ℕ
    pub reading : ℕ
    pub file : Files S K
    pub stops : StopsBy most port (begun backoff port reading end before) file after outcome

  -- the run of an end of this kind, as a job opens it, stopped
  pub record FailsAs (most : ℕ) (kind : Kind) (job : Job) (length : ℕ)
      (before after : List SocketEvent) (outcome : Outcome) : Type 0 where
    pub may : MayOpen kind job length
    pub fails : Fails most job.backoff (opens kind job length) before after outcome
    pub side : IsFileOf kind fails.file

  -- the same, of how the program ends; where no transfer was opened nothing was sent
  abbrev pub FailsEnd : ℕ → Kind → Job → ℕ → List SocketEvent → List SocketEvent → ClientOutcome
      → Type 0
  FailsEnd most kind job length before after (ends.Failed outcome) =
      FailsAs most kind job length before after outcome
  FailsEnd most kind job length before after _ = after ≡ before

  -- a job failed so
  abbrev pub FailsBy : ℕ → Job → List SocketEvent → List SocketEvent → ClientOutcome → Type 0
  FailsBy most job before after end =
      (length : ℕ) × FailsEnd most job.kind job length before after end

  -- N of a file: how many bytes a received one holds; of one that is sent in octet, the length on
  -- the wire. In netascii that is another, and N is what the calls on the file say
  abbrev pub IsCountOf : Files S K → Mode → ℕ → ℕ → Type 0
  IsCountOf (Sink sink) mode length count =
      (holding : Holding) × (sinks.held sink ≡ Some holding) × (count ≡ list_length holding.bytes)
  IsCountOf (Source source) Octet length count = count ≡ length
  IsCountOf (Source source) Netascii length count = Unit {0}

  -- the run of an end of this kind, as a job opens it, and N of its file
  pub record RunsAs (port : ℕ) (kind : Kind) (job : Job) (before : List SocketEvent) (s : State)
      (files : Files S K) (count : ℕ) : Type 0 where
    -- the length on the wire with which the end opened
    pub length : ℕ
    pub may : MayOpen kind job length
    pub runs : Runs job.backoff port (opens kind job length) before s files
    pub side : IsFileOf kind runs.file
    pub counts : IsCountOf files job.mode length count

  -- the run of a job's end
  abbrev pub RunsJob : ℕ → Job → List SocketEvent → State → Files S K → ℕ → Type 0
  RunsJob port job before s files count = RunsAs port job.kind job before s files count

  -- a received file holds these bytes, all of them committed, and N counts them
  abbrev pub IsWhole : Files S K → ℕ → List ℕ → Type 0
  IsWhole (Source source) count bytes = Unit {0}
  IsWhole (Sink sink) count bytes =
      (holding : Holding) × (sinks.held sink ≡ Some holding) × (holding.committed ≡ true)
      × (holding.bytes ≡ bytes) × (count ≡ list_length bytes)

  -- a job failed by the run of its end, since its options were refused by ERROR 8, and may be tried
  -- without (RFC 2347)
  pub record Refused (most : ℕ) (job : Job) (before after : List SocketEvent) : Type 0 where
    pub end : ClientOutcome
    pub fails : FailsBy most job before after end
    pub allowed : MayFallBack job end

  -- a job ran to that state, at once or without its options, once these were refused
  abbrev pub Transfers : ℕ → ℕ → Job → List SocketEvent → State → Files S K → ℕ → Type 0
  Transfers most port job before s files count =
      RunsJob port job before s files count
      ⊎ ((middle : List SocketEvent) × Refused most job before middle
      × RunsJob port (plain job) middle s files count)

  -- what moved in the run that reached that state
  abbrev pub moved_by : {most port : ℕ} {job : Job} {before : List SocketEvent} {s : State}
      {files : Files S K} {count : ℕ} → Transfers most port job before s files count → Moved
  moved_by (inl run) = run_moves run.runs.converses nothing_moved
  moved_by (inr again) = run_moves again.2.runs.converses nothing_moved

  -- a job failed, at once, if it may not be tried without its options, or without them, once these
  -- were refused: both runs make so many waits at most
  abbrev pub FailsTransfer : ℕ → Job → List SocketEvent → List SocketEvent → ClientOutcome → Type 0
  FailsTransfer most job before after end =
      (FailsBy most job before after end × (MayFallBack job end → ⊥))
      ⊎ ((middle : List SocketEvent) × Refused most job before middle
      × FailsBy most (plain job) middle after end)

  -- the client went on from that state
  pub record Dallies (port : ℕ) (first : State) (file : Files S K)
      (after : List SocketEvent) : Type 0 where
    pub last : State
    pub files : Files S K
    pub converses : Converses sources sinks port first file last files
    pub events : last.events ≡ after

  -- from that state it dallied, if it was to, until its end was closed or it had made so many waits;
  -- and if it was not to, it did nothing more
  pub record HasDallied (dallies : Bool) (most : ℕ) (first last : State)
      (after : List SocketEvent) : Type 0 where
    pub stayed : dallies ≡ true
        → IsSome (outcome_of last.end.position.phase) ⊎ (most ≤ waits after)
    pub left : dallies ≡ false → after ≡ first.events

  -- the client went on from that state to that file, and dallied just if it was to
  pub record DalliesTo (dallies : Bool) (most port : ℕ) (first : State) (file : Files S K)
      (after : List SocketEvent) (files : Files S K) : Type 0 where
    pub last : State
    pub converses : Converses sources sinks port first file last files
    pub events : last.events ≡ after
    pub over : HasDallied dallies most first last after

  abbrev pub dallied : {dallies : Bool} {most port : ℕ} {first : State} {file : Files S K}
      {after : List SocketEvent} {files : Files S K}
      → DalliesTo dallies most port first file after files → Dallies port first file after
  dallied {files = files} stays =
      record {
        last = stays.last;
        files = files;
        converses = stays.converses;
        events = stays.events;
      }

  -- a job is complete: its end is, and a received file holds the bytes that moved in the run; then
  -- its line was printed, with N of the file, or the system refused it, as the status says; and from
  -- then on its end stayed (RFC 1350, section 6)
  pub record Completes (status : ℕ) (job : Job) (before after : List SocketEvent) : Type 0 where
    pub port : ℕ
    pub last : State
    pub files : Files S K
    pub count : ℕ
    pub transfers : Transfers (most_waits before) port job before last files count
    pub complete : is_complete last.end.position.phase ≡ true
    pub side : IsFileOf job.kind files
    pub whole : IsWhole files count (moved_by transfers).bytes
    pub stays : Dallies port (printed (line_by status count) last) files after
    -- it stays complete, and nothing moves
    pub stayed : is_complete stays.last.end.position.phase ≡ true
    pub still : (moved : Moved) → run_moves stays.converses moved ≡ moved
    -- it dallied just if it was to
    pub over : HasDallied job.dallies (most_waits before) (printed (line_by status count) last)
        stays.last after
    -- all its runs and what it did after them make so many waits at most
    pub within : waits after ≤ most_waits before
