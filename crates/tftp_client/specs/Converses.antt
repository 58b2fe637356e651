-- What a client does over its socket: the steps of one end, and nothing else.
use Rattle.std.specs.Prelude.{ℕ, ◌≡◌, ◌≤◌, ◌<◌, ◌-◌, ◌+◌, ◌⊎◌, min, max, Bool, false}
use Rattle.std.specs.Prelude.{if◌then◌else◌}
use Rattle.std.specs.Prelude.{List, ◌∷◌, Option, Some, IsSome}
use Rattle.tftp_wire.specs.declared.packet.Packet.{Packet}
use Rattle.tftp_file.specs.Sink.{SinkMeaning, WritesBehind}
use Rattle.tftp_file.specs.Source.{SourceMeaning, ReadsAhead}
use Rattle.tftp_file.specs.declared.files.Files.{Files}
use Rattle.tftp_file.specs.declared.files.Files.TheVariants.{Source, Sink}
use Rattle.tftp_ends.specs.Action.{Decodes, datagram_action}
use Rattle.tftp_ends.specs.Backoff.{timeouts_of, wait_of}
use Rattle.tftp_ends.specs.declared.backoff.Backoff.{Backoff}
use Rattle.tftp_ends.specs.End.{EndState, interval_of, outcome_of, terms_of}
use Rattle.tftp_ends.specs.Files.{KeepsFiles}
use Rattle.tftp_ends.specs.Step.{DatagramStep, Turn, UsesFile, after_turn, timeout_turn, reported}
use Rattle.tftp_ends.specs.declared.endpoint.Endpoint.{Endpoint}
use Rattle.tftp_ends.specs.declared.outcome.Outcome.{Outcome}
use Rattle.tftp_ends.specs.declared.outcome.Outcome.TheVariants.{TimedOut}
use Rattle.tftp_sockets.specs.Watch.{deadline_of, later_by}
use Rattle.tftp_sockets.specs.declared.watch.Watch.{Watch}
use Rattle.tftp_sockets.specs.declared.watch.TheConstants.{LONGEST_WAIT}
use Rattle.tftp_sockets.specs.Trace.{SocketEvent, QuietEvent, answered}
use Rattle.tftp_sockets.specs.Trace.SocketEvent.{Received, Watched, Elapsed, Quiet}
use Rattle.tftp_sockets.specs.Trace.QuietEvent.{Empty, Failed, Slept}
use Rattle.tftp_sockets.specs.Quiet.{waits}
use Rattle.tftp_client.specs.declared.transfer.conversation.TheConstants.{MAX_WAITS}

-- a client between two events: its end, its time, and all that the program did, the newest first
pub record State : Type 0 where
  pub end : EndState
  -- the time of the watch, in milliseconds
  pub now : ℕ
  -- the newest reading of the clock, in milliseconds
  pub reading : ℕ
  -- when the end is due for a timeout
  pub deadline : ℕ
  -- how its wait for one grows
  pub backoff : Backoff
  pub events : List SocketEvent

-- the watch of a client
abbrev pub watch_of : State → Watch
watch_of s = record { now = s.now; reading = s.reading }

-- the watch after a reading of the clock: its time is what the reading makes of the watch before. So
-- it never goes back
pub record IsReadBy (s : State) (watch : Watch) : Type 0 where
  pub time : watch.now ≡ later_by (watch_of s) watch.reading
  pub forward : s.now ≤ watch.now

-- the end is not closed
abbrev pub IsOpen : EndState → Type 0
IsOpen end = IsSome (outcome_of end.position.phase) → ⊥

-- how a run that is not complete ended: as the end closed, or after so many waits as its command
-- may make, with those before it
abbrev pub EndsBy : ℕ → State → Outcome → Type 0
EndsBy most last outcome =
    (outcome_of last.end.position.phase ≡ Some outcome)
    ⊎ ((outcome ≡ TimedOut) × (waits last.events ≡ most))

-- the waits that a command may make, with those before it
abbrev pub most_waits : List SocketEvent → ℕ
most_waits before = MAX_WAITS + waits before

-- how long an end waits for its peer, in seconds: the interval that it agreed on, or, if its waits
-- grow, twice as long after each timeout without progress, up to eight times the interval
-- (RFC 2349, "Timeout Interval Option Specification"; RFC 1123, section 4.2.3.2)
abbrev pub seconds_of : Backoff → EndState → ℕ
seconds_of backoff end = wait_of backoff (interval_of (terms_of end.position.phase)) (timeouts_of end)

-- the deadline of a wait that begins at this time
abbrev pub deadline_at : Backoff → ℕ → EndState → ℕ
deadline_at backoff now end = deadline_of now (seconds_of backoff end)

-- the deadline after a step: progress begins another wait
abbrev pub deadline_after : Bool → ℕ → ℕ → ℕ → ℕ
deadline_after progress now seconds current = if progress then deadline_of now seconds else current

-- how long a client waits for a datagram, in milliseconds: until it is due for a timeout, at most a
-- second
abbrev pub wait_at : State → ℕ
wait_at s = max (min (s.deadline - s.now) LONGEST_WAIT) 1

-- a client waits only while its end is open, and when it is not due for a timeout, unless its wait
-- for one began at this moment
pub record MayWait (s : State) : Type 0 where
  pub not_closed : IsOpen s.end
  pub due : s.deadline ≤ s.now → s.deadline ≡ deadline_at s.backoff s.now s.end

-- a wait without a datagram was over, by this event, and then the clock was read
abbrev pub waited : QuietEvent → Watch → State → State
waited event watch s =
    record s {
      now = watch.now;
      reading = watch.reading;
      events = Watched watch ∷ Quiet event ∷ Quiet (Slept (wait_at s)) ∷ s.events;
    }

-- a wait was over by a datagram, and then the clock was read
abbrev pub received : ℕ → Endpoint → List ℕ → Watch → State → State
received port from bytes watch s =
    record s {
      now = watch.now;
      reading = watch.reading;
      events = Watched watch ∷ Received port from bytes ∷ Quiet (Slept (wait_at s)) ∷ s.events;
    }

-- the end made this step at a datagram, and its answer was sent from the port to the endpoint of
-- the step
abbrev pub turned : ℕ → Turn → State → State
turned port turn s =
    record {
      end = after_turn s.end turn;
      now = s.now;
      reading = s.reading;
      deadline = s.deadline;
      backoff = s.backoff;
      events = answered port turn.reply s.events;
    }

-- once a datagram was handled, which may have used the file, the clock was read again: after
-- progress the deadline counts from then
abbrev pub renewed : Bool → Watch → State → State
renewed progress watch s =
    record {
      end = s.end;
      now = watch.now;
      reading = watch.reading;
      deadline =
          deadline_after progress watch.now (seconds_of s.backoff s.end) s.deadline;
      backoff = s.backoff;
      events = Watched watch ∷ s.events;
    }

-- the end handled a timeout, and its answer was sent
abbrev pub elapsed : ℕ → State → State
elapsed port s =
    record {
      end = after_turn s.end (timeout_turn s.end);
      now = s.now;
      reading = s.reading;
      deadline = deadline_at s.backoff s.now (after_turn s.end (timeout_turn s.end));
      backoff = s.backoff;
      events = answered port (timeout_turn s.end).reply (Elapsed port s.now ∷ s.events);
    }

-- what a client does when a timeout may be due: nothing, if it is not due or the end is closed; or
-- else the timeout's step
pub data MayElapse (port : ℕ) (s : State) : State → Type 0 where
  Stays : (s.now < s.deadline) ⊎ IsSome (outcome_of s.end.position.phase) → MayElapse port s s
  Elapses : s.deadline ≤ s.now → IsOpen s.end → MayElapse port s (elapsed port s)

-- a datagram has no step: the end is closed, or there is no memory to handle it
abbrev pub IsLost : Endpoint → List ℕ → EndState → Type 0
IsLost from bytes end =
    IsSome (outcome_of end.position.phase)
    ⊎ ((decoded : Option Packet) × Decodes bytes decoded
    × UsesFile (datagram_action end from bytes decoded))

module _ {S K : Type 0} (sources : SourceMeaning S) (sinks : SinkMeaning K) where
  -- a file did its work between two datagrams
  abbrev pub WorksOnFile : Files S K → Files S K → Type 0
  WorksOnFile (Source old) (Source new) = ReadsAhead sources old new
  WorksOnFile (Sink old) (Sink new) = WritesBehind sinks old new × sinks.becomes old new false
  WorksOnFile (Source old) (Sink new) = ⊥
  WorksOnFile (Sink old) (Source new) = ⊥

  -- what a client does at a datagram of these bytes from there, once the clock was read
  pub data HandlesReceived (port : ℕ) (from : Endpoint) (bytes : List ℕ)
      (s : State) (files : Files S K) : State → Files S K → Type 0 where
    -- the end's step, and at once its answer from the same port to the endpoint of the step
    Answers : {turn : Turn} {files' : Files S K} → IsOpen s.end
        → DatagramStep sources sinks from bytes s.end files turn files'
        → HandlesReceived port from bytes s files (turned port turn s) files'
    -- no answer, and the end is as it was
    Loses : {files' : Files S K} → IsLost from bytes s.end → KeepsFiles sources sinks files files'
        → HandlesReceived port from bytes s files s files'

  -- whether a datagram was progress
  abbrev pub progress_of : {port : ℕ} {from : Endpoint} {bytes : List ℕ} {s : State}
      {files : Files S K} {next : State} {files' : Files S K}
      → HandlesReceived port from bytes s files next files' → Bool
  progress_of {s = s} (Answers {turn} is_open step) = (reported s.end turn).progress
  progress_of (Loses lost keeps) = false

  -- the same handling, which was progress or not
  abbrev pub HandlesAs : ℕ → Endpoint → List ℕ → State → Files S K → State → Files S K → Bool
      → Type 0
  HandlesAs port from bytes s files next files' progress =
      (handles : HandlesReceived port from bytes s files next files')
      × (progress ≡ progress_of handles)

  -- a datagram was handled, and then the clock was read again
  pub record AnswersReceived (port : ℕ) (from : Endpoint) (bytes : List ℕ) (s : State)
      (files : Files S K) (after : State) (files' : Files S K) : Type 0 where
    pub next : State
    pub again : Watch
    pub handles : HandlesReceived port from bytes s files next files'
    pub later : IsReadBy next again
    pub is : after ≡ renewed (progress_of handles) again next

  -- what a client did from one state to another: nothing is sent but the answers of the steps of
  -- its end
  pub data Converses (port : ℕ) (first : State) (file : Files S K)
      : State → Files S K → Type 0 where
    Begins : Converses port first file first file
    -- a datagram was received and handled, and then the clock was read again
    Receives : {s after : State} {files files' : Files S K}
        {from : Endpoint} {bytes : List ℕ} {watch : Watch}
        → Converses port first file s files → MayWait s → IsReadBy s watch
        → AnswersReceived port from bytes (received port from bytes watch s) files after files'
        → Converses port first file after files'
    -- none was received until the clock was read: the port was empty, or the receive failed
    Waits : {s : State} {files : Files S K} {event : QuietEvent} {watch : Watch}
        → Converses port first file s files → MayWait s
        → (event ≡ Empty port) ⊎ (event ≡ Failed port) → IsReadBy s watch
        → Converses port first file (waited event watch s) files
    -- a timeout was due
    Times : {s next : State} {files : Files S K}
        → Converses port first file s files → MayElapse port s next
        → Converses port first file next files
    -- the file did its work
    Rests : {s : State} {files files' : Files S K}
        → Converses port first file s files → WorksOnFile files files'
        → Converses port first file s files'
