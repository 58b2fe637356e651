-- The time of a client, by the readings of its clock.
use Rattle.std.proofs.Common.{rules}
use Rattle.tftp_client.proofs.Common.{arith, ◌≡◌, ◌<◌, ◌≤◌, ◌⊎◌, ℕ, List, Some, inl, inr, ap, ◌+◌, ◌-◌, ◌*◌, Asked}
use Rattle.tftp_client.proofs.Common.{Kind, SinkMeaning, SourceMeaning, Files, outcome_of, Backoff, Waiting}
use Rattle.tftp_client.proofs.Common.{last_moment, Watch, SocketEvent, QuietEvent, Job, Converses, HandlesReceived}
use Rattle.tftp_client.proofs.Common.{IsOpen, IsReadBy, MayElapse, MayWait, State, elapsed, waited, Begins, Receives}
use Rattle.tftp_client.proofs.Common.{Waits, Times, Rests, Stays, Elapses, begun, opens, seconds_in}
use Rattle.tftp_ends.specs.declared.outcome.Outcome.TheVariants.{TimedOut}
use Rattle.tftp_client.specs.Seconds.{IsSteady, PassesWithTheClock, ReceivesNone, TimesOutByTheClock}
use Rattle.tftp_client.proofs.Growing.{one_more, wait_least}
use Rattle.tftp_client.proofs.Silent.{begins_now, closed_not, first_wait, times_out}

-- ---- one reading
-- the time advances as much as the clock, if that advances by a second at most
reads_on : (s : State) (watch : Watch) → IsReadBy s watch → watch.reading ≤ s.reading + 1000 → watch.now < last_moment
    → watch.reading + s.now ≤ s.reading + watch.now
reads_on s watch by steady early = search rules

-- and never by more than a second
pub reads_soon : (s : State) (watch : Watch) → IsReadBy s watch → watch.now ≤ s.now + 1000
reads_soon s watch by = search rules

-- a timeout reads no clock
pub record SameWatch (s next : State) : Type 0 where
  pub now : next.now ≡ s.now
  pub reading : next.reading ≡ s.reading

pub same_elapses : {port : ℕ} {s next : State} → MayElapse port s next → SameWatch s next
same_elapses h0 = search rules

module _ {S K : Type 0} {sources : SourceMeaning S} {sinks : SinkMeaning K} where
  -- nor does a datagram
  pub same_handles : {port : ℕ} {from : _} {bytes : List ℕ} {s : State} {files : Files S K} {next : State}
      {files' : Files S K} → HandlesReceived sources sinks port from bytes s files next files' → SameWatch s next
  same_handles h0 = search rules

  -- ---- a run
  passes : {port : ℕ} {first : State} {file : Files S K} {s : State} {files : Files S K}
      (run : Converses sources sinks port first file s files)
      → IsSteady run → s.now < last_moment → s.reading + first.now ≤ first.reading + s.now
  passes Begins steady early = omega arith
  passes (Receives {s} {after} {watch = watch} run may later answers) steady early =
      let again = answers.again in
      let same = same_handles answers.handles in
      let now : after.now ≡ again.now = ap (λ (t : State). t.now) answers.is in
      let reading : after.reading ≡ again.reading = ap (λ (t : State). t.reading) answers.is in
      let next_now : answers.next.now ≡ watch.now = same.now in
      let next_reading : answers.next.reading ≡ watch.reading = same.reading in
      let forward = answers.later.forward in
      let first_forward = later.forward in
      let was = passes run steady.0 (omega (arith, early, now, next_now, forward, first_forward)) in
      let one = reads_on s watch later steady.1 (omega (arith, early, now, next_now, forward)) in
      let steady_again = steady.2 in
      let two = reads_on answers.next again answers.later (omega (arith, steady_again, next_reading))
      (omega (arith, early, now)) in
      omega (arith, was, one, two, now, reading, next_now, next_reading)
  passes (Waits {s} {watch = watch} run may event later) steady early =
      let forward = later.forward in
      let was = passes run steady.0 (omega (arith, early, forward)) in
      let one = reads_on s watch later steady.1 early in
      omega (arith, was, one)
  passes (Times {s} {next} run elapses) steady early =
      let same = same_elapses elapses in
      let now = same.now in
      let reading = same.reading in
      let was = passes run steady (omega (arith, early, now)) in
      omega (arith, was, now, reading)
  passes (Rests run works) steady early = passes run steady early

-- ---- a client to whom nothing comes
-- its request is not answered; each sending so far had its wait, and a second at most
record Unanswered (backoff : Backoff) (most : ℕ) (s : State) : Type 0 where
  asked : Asked
  limit : ℕ
  waiting : s.end.position.phase ≡ Waiting asked limit
  grows : s.backoff ≡ backoff
  used : ℕ
  counted : s.end.role.retries ≡ used + s.end.position.retries_left
  due : s.deadline + seconds_in backoff 1 (used + 1) s.end.position.retries_left * 1000
      + s.end.position.retries_left * 1000 ≤ most
  soon : s.now < s.deadline + 1000

abbrev Alone : Backoff → ℕ → State → Type 0
Alone backoff most s = (outcome_of s.end.position.phase ≡ Some TimedOut) ⊎ Unanswered backoff most s

after_wait : (backoff : Backoff) (most : ℕ) (s : State) (event : QuietEvent) (watch : Watch) → Unanswered backoff most s
    → MayWait s → IsReadBy s watch → s.now < last_moment → Unanswered backoff most (waited event watch s)
after_wait backoff most s event watch h may later early = search rules

after_elapsed : (backoff : Backoff) (most port : ℕ) (s : State) → Unanswered backoff most s → s.deadline ≤ s.now
    → IsOpen s.end → s.now < last_moment → Alone backoff most (elapsed port s)
after_elapsed backoff most port s h due is_open early =
    search (rules, times_out, elapsed, begins_now, one_more, seconds_in, wait_least)

elapses : (backoff : Backoff) (most port : ℕ) {s next : State} → MayElapse port s next → s.now < last_moment
    → Alone backoff most s → Alone backoff most next
elapses backoff most port (Stays why) early h = h
elapses backoff most port {s} (Elapses due is_open) early (inl closed) =
    absurd (closed_not s.end TimedOut closed is_open)
elapses backoff most port {s} (Elapses due is_open) early (inr h) = after_elapsed backoff most port s h due is_open early

module _ {S K : Type 0} {sources : SourceMeaning S} {sinks : SinkMeaning K} where
  alone : (backoff : Backoff) (most : ℕ) {port : ℕ} {first : State} {file : Files S K} {s : State} {files : Files S K}
      (run : Converses sources sinks port first file s files)
      → ReceivesNone run → Alone backoff most first → s.now < last_moment → Alone backoff most s
  alone backoff most Begins none h early = h
  alone backoff most (Receives run may later answers) none h early = absurd none
  alone backoff most (Waits {s} {event = event} {watch = watch} run may nothing later) none h early =
      let forward = later.forward in
      let before : s.now < last_moment = omega (arith, forward, early) in
      search (rules, closed_not, after_wait, alone backoff most run none h before)
  alone backoff most {port} (Times {s} {next} run timed) none h early =
      let now = (same_elapses timed).now in
      let before : s.now < last_moment = omega (arith, now, early) in
      elapses backoff most port timed before (alone backoff most run none h before)
  alone backoff most (Rests run works) none h early = alone backoff most run none h early

-- how long the waits are, and the seconds by which the timeouts may be late, but for the last
abbrev all_waits : Backoff → ℕ → ℕ
all_waits backoff retries = seconds_in backoff 1 0 (retries + 1) * 1000 + retries * 1000

begins : (port reading : ℕ) (kind : Kind) (job : Job) (length : ℕ) (before : List SocketEvent)
    → Alone job.backoff (all_waits job.backoff job.retries)
    (begun job.backoff port reading (opens kind job length) before)
begins port reading kind job length before =
    let first = first_wait kind job length in
    let near = first.near in
    let few = first.few in
    let all_left = first.all_left in
    search rules

module _ {S K : Type 0} (sources : SourceMeaning S) (sinks : SinkMeaning K) where
  pub passes_with_the_clock : PassesWithTheClock sources sinks
  passes_with_the_clock port first file s files run steady early = passes run steady early

  pub times_out_by_the_clock : TimesOutByTheClock sources sinks
  times_out_by_the_clock port reading kind job length before file s files run none steady early long =
      elim (alone job.backoff (all_waits job.backoff job.retries) run none
      (begins port reading kind job length before) early) [
        | inl closed ↦ closed
        | inr h ↦
            let passed : s.reading + 0 ≤ reading + s.now = passes run steady early in
            let due = h.due in
            let soon = h.soon in
            absurd (omega (arith, passed, due, soon, long))
      ]
