-- The time of a client and the clock that was read (own).
use Rattle.std.specs.Prelude.{ℕ, ◌≡◌, ◌≤◌, ◌<◌, ◌+◌, ◌-◌, ◌*◌, max, false, List, Some, IsSome}
use Rattle.tftp_negotiate.specs.declared.known.Kind.{Kind}
use Rattle.tftp_file.specs.Sink.{SinkMeaning}
use Rattle.tftp_file.specs.Source.{SourceMeaning}
use Rattle.tftp_file.specs.declared.files.Files.{Files}
use Rattle.tftp_ends.specs.Backoff.{wait_of}
use Rattle.tftp_ends.specs.End.{EndState, interval_of, outcome_of, terms_of}
use Rattle.tftp_ends.specs.declared.backoff.Backoff.{Backoff}
use Rattle.tftp_ends.specs.declared.outcome.Outcome.TheVariants.{TimedOut}
use Rattle.tftp_sockets.specs.Watch.{last_moment}
use Rattle.tftp_sockets.specs.Trace.{SocketEvent}
use Rattle.tftp_sockets.specs.declared.watch.TheConstants.{LONGEST_WAIT}
use Rattle.tftp_client.specs.declared.transfer.Job.{Job}
use Rattle.tftp_client.specs.Converses.{Converses, State, progress_of}
use Rattle.tftp_client.specs.Converses.Converses.{Begins, Receives, Waits, Times, Rests}
use Rattle.tftp_client.specs.Runs.{begun, opens}
use Rattle.tftp_client.specs.Silence.{seconds_in}

module _ {S K : Type 0} {sources : SourceMeaning S} {sinks : SinkMeaning K} where
  -- no reading of the clock is more than a second later than the one before
  abbrev pub IsSteady : {port : ℕ} {first : State} {file : Files S K} {s : State}
      {files : Files S K} → Converses sources sinks port first file s files → Type 0
  IsSteady Begins = Unit {0}
  IsSteady (Receives {s} {watch = watch} run may later answers) =
      IsSteady run × (watch.reading ≤ s.reading + LONGEST_WAIT)
      × (answers.again.reading ≤ watch.reading + LONGEST_WAIT)
  IsSteady (Waits {s} {watch = watch} run may event later) =
      IsSteady run × (watch.reading ≤ s.reading + LONGEST_WAIT)
  IsSteady (Times run elapses) = IsSteady run
  IsSteady (Rests run works) = IsSteady run

  -- nothing was received, however long each wait lasted
  abbrev pub ReceivesNone : {port : ℕ} {first : State} {file : Files S K} {s : State}
      {files : Files S K} → Converses sources sinks port first file s files → Type 0
  ReceivesNone Begins = Unit {0}
  ReceivesNone (Receives run may later answers) = ⊥
  ReceivesNone (Waits run may event later) = ReceivesNone run
  ReceivesNone (Times run elapses) = ReceivesNone run
  ReceivesNone (Rests run works) = ReceivesNone run

  -- no datagram was progress, whatever was received
  abbrev pub IsIdle : {port : ℕ} {first : State} {file : Files S K} {s : State}
      {files : Files S K} → Converses sources sinks port first file s files → Type 0
  IsIdle Begins = Unit {0}
  IsIdle (Receives run may later answers) =
      IsIdle run × (progress_of sources sinks answers.handles ≡ false)
  IsIdle (Waits run may event later) = IsIdle run
  IsIdle (Times run elapses) = IsIdle run
  IsIdle (Rests run works) = IsIdle run

-- how long a client to whom nothing comes has an open end at most, in milliseconds: for the request
-- and for each retry its wait, and a second, by which the reading that finds a timeout due may be
-- late. The waits are a second each, or of 1, 2, 4, 8 and then 8 seconds each if they grow
abbrev pub longest_alone : Backoff → (retries : ℕ) → ℕ
longest_alone backoff retries =
    seconds_in backoff 1 0 (retries + 1) * 1000 + (retries + 1) * 1000

-- how long each timeout of an end takes at most, in milliseconds: its longest wait, which is the
-- interval, or eight times as long if the waits grow, and two seconds, by which the two readings
-- behind a datagram may be late
abbrev pub longest_timeout : Backoff → EndState → ℕ
longest_timeout backoff end =
    wait_of backoff (interval_of (terms_of end.position.phase)) 3 * 1000 + 2000

-- how long an end that makes no progress from this state on is open at most: for the rest of its
-- wait, and then for a timeout for each retry that is left, or for the second one of a dally
abbrev pub longest_idle : State → ℕ
longest_idle s =
    (s.deadline - s.now) + 2000
    + longest_timeout s.backoff s.end * max 1 s.end.position.retries_left

module _ {S K : Type 0} (sources : SourceMeaning S) (sinks : SinkMeaning K) where
  -- between two states of a run the time advances at least as much as the readings of the clock
  abbrev pub PassesWithTheClock : Type 0
  PassesWithTheClock =
      (port : ℕ) (first : State) (file : Files S K) (s : State) (files : Files S K)
      (run : Converses sources sinks port first file s files)
      → IsSteady run → s.now < last_moment → s.reading + first.now ≤ first.reading + s.now

  -- once the readings of the clock have advanced so much, a client to whom nothing came has timed
  -- out
  abbrev pub TimesOutByTheClock : Type 0
  TimesOutByTheClock =
      (port reading : ℕ) (kind : Kind) (job : Job) (length : ℕ) (before : List SocketEvent)
      (file : Files S K) (s : State) (files : Files S K)
      (run : Converses sources sinks port (begun job.backoff port reading (opens kind job length)
      before)
      file s files)
      → ReceivesNone run → IsSteady run → s.now < last_moment
      → reading + longest_alone job.backoff job.retries ≤ s.reading
      → outcome_of s.end.position.phase ≡ Some TimedOut

  -- once the readings of the clock have advanced so much since any state, and nothing that came was
  -- progress, the end is closed
  abbrev pub ClosesWithoutProgress : Type 0
  ClosesWithoutProgress =
      (port : ℕ) (first : State) (file : Files S K) (s : State) (files : Files S K)
      (run : Converses sources sinks port first file s files)
      → IsIdle run → IsSteady run → s.now < last_moment
      → first.reading + longest_idle first < s.reading
      → IsSome (outcome_of s.end.position.phase)

  -- and a client whose request makes none: within a timeout for it and for each retry, of a second,
  -- or of eight at most if its waits grow, and two seconds for each, by which it may be late
  abbrev pub ClosesByTheClock : Type 0
  ClosesByTheClock =
      (port reading : ℕ) (kind : Kind) (job : Job) (length : ℕ) (before : List SocketEvent)
      (file : Files S K) (s : State) (files : Files S K)
      (run : Converses sources sinks port (begun job.backoff port reading (opens kind job length)
      before)
      file s files)
      → IsIdle run → IsSteady run → s.now < last_moment
      → reading + (wait_of job.backoff 1 3 * 1000 + 2000) * (job.retries + 1) < s.reading
      → IsSome (outcome_of s.end.position.phase)
