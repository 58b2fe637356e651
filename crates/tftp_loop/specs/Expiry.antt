-- How long a server holds a transfer that makes no progress (RFC 1350, section 2).
use Rattle.std.specs.Prelude.{ℕ, ◌≡◌, ◌≤◌, ◌<◌, ◌+◌, ◌*◌, ◌⊎◌, max, ⊤, true, false, if◌then◌else◌}
use Rattle.std.specs.Prelude.{List, [], ◌∷◌, ◌++◌, Some, zero, suc}
use Rattle.std.specs.List.{Contains}
use Rattle.tftp_file.specs.Source.{SourceMeaning}
use Rattle.tftp_ends.specs.Backoff.{wait_of}
use Rattle.tftp_ends.specs.End.{is_complete, outcome_of}
use Rattle.tftp_ends.specs.declared.backoff.Backoff.{Backoff}
use Rattle.tftp_ends.specs.declared.backoff.Backoff.TheVariants.{Constant, Doubling}
use Rattle.tftp_ends.specs.declared.outcome.Outcome.{Outcome}
use Rattle.tftp_ends.specs.declared.outcome.Outcome.TheVariants.{Complete, TimedOut}
use Rattle.tftp_ends.specs.declared.phase.Phase.{Phase}
use Rattle.tftp_store.specs.Store.{StoreMeaning}
use Rattle.tftp_server.specs.State.{TransferState, at}
use Rattle.tftp_sockets.specs.Watch.{last_moment}
use Rattle.tftp_sockets.specs.declared.watch.TheConstants.{LONGEST_WAIT}
use Rattle.tftp_lines.specs.Printed.{line_text}
use Rattle.tftp_lines.specs.declared.printed.Printed.TheVariants.{Closed}
use Rattle.tftp_sockets.specs.Trace.{SocketEvent}
use Rattle.tftp_sockets.specs.Trace.SocketEvent.{Printed}
use Rattle.tftp_loop.specs.Run.{Run}
use Rattle.tftp_loop.specs.Steps.{Timer, PortState, LoopState, PortStep, LoopStep, Waits}
use Rattle.tftp_loop.specs.Steps.PortStep.{A_datagram, A_lost_datagram}
use Rattle.tftp_loop.specs.Steps.LoopStep.{At_port}

-- seconds as milliseconds
abbrev pub in_millis : ℕ → ℕ
in_millis seconds = seconds * 1000

-- how long a transfer waits for so many timeouts in sequence, in milliseconds: each time the wait
-- after the timeouts before, and then a round, whose one reading of the clock advances the time by a
-- second at most
abbrev pub waits_of : (backoff : Backoff) (interval timeouts : ℕ) → ℕ
waits_of backoff interval zero = 0
waits_of backoff interval (suc timeouts) =
    waits_of backoff interval timeouts
    + (in_millis (wait_of backoff interval timeouts) + LONGEST_WAIT)

-- when a transfer that makes no progress from now on has closed, in milliseconds: after a wait, and
-- for each retry, or for the second timeout of a dally, after another wait and a round
abbrev pub closing_time : (now : ℕ) (backoff : Backoff) (interval retries : ℕ) → ℕ
closing_time now backoff interval retries =
    now + waits_of backoff interval (max 1 retries)
    + in_millis (wait_of backoff interval (max 1 retries))

-- if each wait is the interval
abbrev pub ClosesAfterIntervals : Type 0
ClosesAfterIntervals =
    (now interval retries : ℕ)
    → closing_time now Constant interval retries
    ≡ now + in_millis interval + (in_millis interval + LONGEST_WAIT) * max 1 retries

-- if each is twice the one before, up to eight intervals: the first three are of one, two and four
abbrev pub ClosesAfterDoubling : Type 0
ClosesAfterDoubling =
    (now interval more : ℕ)
    → closing_time now Doubling interval (more + 3)
    ≡ now + in_millis (interval * 15) + LONGEST_WAIT * 3
    + (in_millis (interval * 8) + LONGEST_WAIT) * more

-- from when on it counts: from now, or from a second later if its deadline is provisional, since
-- that is set within this round
abbrev pub counted_from : ℕ → Timer → ℕ
counted_from now timer = if timer.provisional then now + LONGEST_WAIT else now

-- the line of a transfer that closed was printed between two traces
abbrev pub PrintsClose : ℕ → ℕ → Outcome → List SocketEvent → List SocketEvent → Type 0
PrintsClose port peer outcome before after =
    (later : List SocketEvent) × (earlier : List SocketEvent)
    × (after ≡ later ++ Printed (line_text (Closed port peer outcome)) ∷ (earlier ++ before))

-- how a transfer closes that receives nothing: it times out, unless it was complete or had closed
abbrev pub ClosesInSilence : Phase → Outcome → Type 0
ClosesInSilence phase outcome =
    (outcome ≡ TimedOut) ⊎ (((outcome ≡ Complete) × (is_complete phase ≡ true))
    ⊎ (outcome_of phase ≡ Some outcome))

module _ {S F D : Type 0} (meaning : StoreMeaning S D) (sources : SourceMeaning F) where
  -- a step at a port without progress of its transfer
  abbrev pub IsIdleAt : {now : ℕ} {old new : PortState S F D} → PortStep meaning sources now old new
      → Type 0
  IsIdleAt (A_datagram d) = d.step.progress ≡ false
  IsIdleAt does = ⊤

  -- a step at a port that receives nothing, or only drops what it receives
  abbrev pub ReceivesNoneAt : {now : ℕ} {old new : PortState S F D}
      → PortStep meaning sources now old new → Type 0
  ReceivesNoneAt (A_datagram d) = ⊥
  ReceivesNoneAt (A_lost_datagram d) = ⊥
  ReceivesNoneAt does = ⊤

  -- the transfer at the port makes no progress in this step, or receives nothing
  abbrev pub IsIdle : ℕ → {old new : LoopState S F D} → LoopStep meaning sources old new → Type 0
  IsIdle port (At_port d) = d.timer.port ≡ port → IsIdleAt d.does
  IsIdle port does = ⊤

  abbrev pub ReceivesNone : ℕ → {old new : LoopState S F D}
      → LoopStep meaning sources old new → Type 0
  ReceivesNone port (At_port d) = d.timer.port ≡ port → ReceivesNoneAt d.does
  ReceivesNone port does = ⊤

  -- a run in which the transfer at the port makes no progress
  pub data Idles (port : ℕ) (first : LoopState S F D) : LoopState S F D → Type 0 where
    At_first : Idles port first first
    After : {middle last : LoopState S F D} → Idles port first middle
        → (does : LoopStep meaning sources middle last) → IsIdle port does → Idles port first last

  -- nothing is received at the port
  abbrev pub NoneReceived : {port : ℕ} {first last : LoopState S F D} → Idles port first last
      → Type 0
  NoneReceived At_first = Unit {0}
  NoneReceived {port} (After run does idle) = NoneReceived run × ReceivesNone port does

  -- in a run from a time without transfers: at each wait after that time the transfer is gone, and
  -- its line was printed
  abbrev pub ClosesWithoutProgress : Type 0
  ClosesWithoutProgress =
      (start first last new : LoopState S F D) (timer : Timer)
      → start.timers ≡ [] → Run (LoopStep meaning sources) start first
      → Contains first.timers timer
      → Idles timer.port first last → Waits meaning sources last new
      → closing_time (counted_from first.now timer) timer.backoff timer.interval
      first.server.config.retries < last.now
      → last.now ≤ last_moment
      → (outcome : Outcome)
      × PrintsClose timer.port timer.peer.port outcome first.events last.events

  -- and if it received nothing, it timed out, unless it was complete or had closed before
  abbrev pub TimesOutInSilence : Type 0
  TimesOutInSilence =
      (start first last new : LoopState S F D) (timer : Timer) (transfer : TransferState F D)
      → start.timers ≡ [] → Run (LoopStep meaning sources) start first
      → Contains first.timers timer → at timer.port first.server.held ≡ Some transfer
      → (idles : Idles timer.port first last) → NoneReceived idles
      → Waits meaning sources last new
      → closing_time (counted_from first.now timer) timer.backoff timer.interval
      first.server.config.retries < last.now
      → last.now ≤ last_moment
      → (outcome : Outcome)
      × PrintsClose timer.port timer.peer.port outcome first.events last.events
      × ClosesInSilence transfer.end.position.phase outcome

  -- a transfer that is over age closes in time, whatever is received at its port, and as if nothing
  -- was
  abbrev pub ClosesOverAge : Type 0
  ClosesOverAge =
      (start first last new : LoopState S F D) (timer : Timer) (transfer : TransferState F D)
      → start.timers ≡ [] → Run (LoopStep meaning sources) start first
      → Contains first.timers timer → at timer.port first.server.held ≡ Some transfer
      → timer.age_limit < first.now
      → Run (LoopStep meaning sources) first last → Waits meaning sources last new
      → closing_time (counted_from first.now timer) timer.backoff timer.interval
      first.server.config.retries < last.now
      → last.now ≤ last_moment
      → (outcome : Outcome)
      × PrintsClose timer.port timer.peer.port outcome first.events last.events
      × ClosesInSilence transfer.end.position.phase outcome
