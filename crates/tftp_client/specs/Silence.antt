-- A client to whom nothing comes: it waits a second at a time, as long in all as for each time that it
-- sends its request (own).
use Rattle.std.specs.Prelude.{ℕ, ◌≡◌, ◌≤◌, ◌<◌, ◌+◌, zero, suc, List, Some}
use Rattle.tftp_negotiate.specs.declared.known.Kind.{Kind}
use Rattle.tftp_file.specs.Sink.{SinkMeaning}
use Rattle.tftp_file.specs.Source.{SourceMeaning}
use Rattle.tftp_file.specs.declared.files.Files.{Files}
use Rattle.tftp_ends.specs.Backoff.{wait_of}
use Rattle.tftp_ends.specs.End.{outcome_of}
use Rattle.tftp_ends.specs.declared.backoff.Backoff.{Backoff}
use Rattle.tftp_ends.specs.declared.outcome.Outcome.{Outcome}
use Rattle.tftp_ends.specs.declared.outcome.Outcome.TheVariants.{TimedOut}
use Rattle.tftp_sockets.specs.Watch.{last_moment}
use Rattle.tftp_sockets.specs.Trace.{SocketEvent}
use Rattle.tftp_sockets.specs.Quiet.{waits}
use Rattle.tftp_client.specs.declared.transfer.Job.{Job}
use Rattle.tftp_client.specs.Converses.{Converses, IsOpen, State, wait_at}
use Rattle.tftp_client.specs.Converses.Converses.{Begins, Receives, Waits, Times, Rests}
use Rattle.tftp_client.specs.Runs.{begun, opens}

-- how long so many waits in sequence take, in seconds, the first of them after so many timeouts
abbrev pub seconds_in : Backoff → (interval timeouts count : ℕ) → ℕ
seconds_in backoff interval timeouts zero = 0
seconds_in backoff interval timeouts (suc count) =
    wait_of backoff interval timeouts + seconds_in backoff interval (timeouts + 1) count

module _ {S K : Type 0} {sources : SourceMeaning S} {sinks : SinkMeaning K} where
  -- nothing was received, and each wait lasted as long as it was to
  abbrev pub IsSilent : {port : ℕ} {first : State} {file : Files S K} {s : State}
      {files : Files S K} → Converses sources sinks port first file s files → Type 0
  IsSilent Begins = Unit {0}
  IsSilent (Receives run may time answers) = ⊥
  IsSilent (Waits {s} {watch = watch} run may event later) =
      IsSilent run × (s.now + wait_at s ≤ watch.now)
  IsSilent (Times run elapses) = IsSilent run
  IsSilent (Rests run works) = IsSilent run

module _ {S K : Type 0} (sources : SourceMeaning S) (sinks : SinkMeaning K) where
  -- in silence a client whose end is open has waited at most once for each second of the waits for its
  -- request and for each retransmission: a second each, or more if its waits grow
  abbrev pub WaitsForEachSending : Type 0
  WaitsForEachSending =
      (port reading : ℕ) (kind : Kind) (job : Job) (length : ℕ) (before : List SocketEvent)
      (file : Files S K) (s : State) (files : Files S K)
      (run : Converses sources sinks port (begun job.backoff port reading (opens kind job length)
      before)
      file s files)
      → IsSilent run → s.now < last_moment → IsOpen s.end
      → waits s.events ≤ seconds_in job.backoff 1 0 (job.retries + 1) + waits before

  -- and if it is closed, it timed out
  abbrev pub TimesOut : Type 0
  TimesOut =
      (port reading : ℕ) (kind : Kind) (job : Job) (length : ℕ) (before : List SocketEvent)
      (file : Files S K) (s : State) (files : Files S K) (outcome : Outcome)
      (run : Converses sources sinks port (begun job.backoff port reading (opens kind job length)
      before)
      file s files)
      → IsSilent run → s.now < last_moment → outcome_of s.end.position.phase ≡ Some outcome
      → outcome ≡ TimedOut
