-- How long a server holds a transfer that makes no progress, by the clock that it read (RFC 1350,
-- section 2).
use Rattle.std.specs.Prelude.{ℕ, ◌≡◌, ◌≤◌, ◌<◌, ◌+◌, ◌-◌, [], Some}
use Rattle.std.specs.List.{Contains}
use Rattle.tftp_file.specs.Source.{SourceMeaning}
use Rattle.tftp_ends.specs.declared.outcome.Outcome.{Outcome}
use Rattle.tftp_store.specs.Store.{StoreMeaning}
use Rattle.tftp_server.specs.State.{TransferState, at}
use Rattle.tftp_sockets.specs.Watch.{last_moment}
use Rattle.tftp_sockets.specs.declared.watch.Watch.{Watch}
use Rattle.tftp_loop.specs.Run.{Run}
use Rattle.tftp_loop.specs.Run.Run.{Start, Then}
use Rattle.tftp_loop.specs.Steps.{Timer, LoopState, LoopStep, Waits, round_end}
use Rattle.tftp_loop.specs.Steps.LoopStep.{Waited, Clock_read}
use Rattle.tftp_loop.specs.Expiry.{ClosesInSilence, Idles, NoneReceived, PrintsClose, closing_time}
use Rattle.tftp_loop.specs.Expiry.{counted_from}
use Rattle.tftp_loop.specs.Expiry.Idles.{At_first, After}

module _ {S F D : Type 0} where
  -- what a reading of the clock does not count of what the clock advanced, in milliseconds: what is
  -- later than the end of the round, since a round counts for a second at most
  abbrev pub cut_of : LoopState S F D → Watch → ℕ
  cut_of old watch = (old.now + (watch.reading - old.reading)) - round_end old.now old.limit

module _ {S F D : Type 0} (meaning : StoreMeaning S D) (sources : SourceMeaning F) where
  -- the same of a step, and of a run in which a transfer makes no progress
  abbrev pub cut_by : {old new : LoopState S F D} → LoopStep meaning sources old new → ℕ
  cut_by {old} (Waited d) = cut_of old d.watch
  cut_by {old} (Clock_read d) = cut_of old d.watch
  cut_by does = 0

  abbrev pub cut_in : {port : ℕ} {first last : LoopState S F D}
      → Idles meaning sources port first last → ℕ
  cut_in At_first = 0
  cut_in (After run does idle) = cut_in run + cut_by does

  -- and of any run
  abbrev pub cut_along : {first last : LoopState S F D}
      → Run (LoopStep meaning sources) first last → ℕ
  cut_along Start = 0
  cut_along (Then run does) = cut_along run + cut_by does

  -- between two states of a run the time advances at least as much as the readings of the clock,
  -- without what the rounds did not count
  abbrev pub PassesWithTheClock : Type 0
  PassesWithTheClock =
      (first last : LoopState S F D) (run : Run (LoopStep meaning sources) first last)
      → last.reading + first.now ≤ first.reading + last.now + cut_along run

  -- in a run from a time without transfers: at each wait before which the readings of the clock have
  -- advanced by more than the time until a transfer closes, and what the rounds did not count, it is
  -- gone, and its line was printed
  abbrev pub ClosesByTheClock : Type 0
  ClosesByTheClock =
      (start first last new : LoopState S F D) (timer : Timer)
      → start.timers ≡ [] → Run (LoopStep meaning sources) start first
      → Contains first.timers timer
      → (idles : Idles meaning sources timer.port first last) → Waits meaning sources last new
      → closing_time (counted_from first.reading timer) timer.backoff timer.interval
      first.server.config.retries + cut_in idles < last.reading
      → last.now ≤ last_moment
      → (outcome : Outcome)
      × PrintsClose timer.port timer.peer.port outcome first.events last.events

  -- and if it received nothing, it timed out, unless it was complete or had closed before
  abbrev pub TimesOutByTheClock : Type 0
  TimesOutByTheClock =
      (start first last new : LoopState S F D) (timer : Timer) (transfer : TransferState F D)
      → start.timers ≡ [] → Run (LoopStep meaning sources) start first
      → Contains first.timers timer → at timer.port first.server.held ≡ Some transfer
      → (idles : Idles meaning sources timer.port first last) → NoneReceived meaning sources idles
      → Waits meaning sources last new
      → closing_time (counted_from first.reading timer) timer.backoff timer.interval
      first.server.config.retries + cut_in idles < last.reading
      → last.now ≤ last_moment
      → (outcome : Outcome)
      × PrintsClose timer.port timer.peer.port outcome first.events last.events
      × ClosesInSilence transfer.end.position.phase outcome

  -- a transfer that is over age closes so, whatever is received at its port
  abbrev pub ClosesOverAgeByTheClock : Type 0
  ClosesOverAgeByTheClock =
      (start first last new : LoopState S F D) (timer : Timer) (transfer : TransferState F D)
      → start.timers ≡ [] → Run (LoopStep meaning sources) start first
      → Contains first.timers timer → at timer.port first.server.held ≡ Some transfer
      → timer.age_limit < first.now
      → (run : Run (LoopStep meaning sources) first last) → Waits meaning sources last new
      → closing_time (counted_from first.reading timer) timer.backoff timer.interval
      first.server.config.retries + cut_along run < last.reading
      → last.now ≤ last_moment
      → (outcome : Outcome)
      × PrintsClose timer.port timer.peer.port outcome first.events last.events
      × ClosesInSilence transfer.end.position.phase outcome
