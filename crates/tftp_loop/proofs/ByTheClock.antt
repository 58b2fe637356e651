-- The time of a server, by the readings of its clock. For `a_server_closes_by_the_clock`.
use Rattle.std.proofs.Common.{rules}
use Rattle.tftp_loop.proofs.Common.{arith, ◌≤◌, ◌<◌, ◌+◌, ◌-◌, ℕ, SourceMeaning, StoreMeaning, Run, Start, Then}
use Rattle.tftp_loop.proofs.Common.{LoopState, LoopStep, Timer}
use Rattle.tftp_loop.specs.Expiry.{Idles, closing_time, counted_from}
use Rattle.tftp_loop.specs.Expiry.Idles.{At_first, After}
use Rattle.tftp_loop.specs.Seconds.{ClosesByTheClock, ClosesOverAgeByTheClock, PassesWithTheClock, TimesOutByTheClock}
use Rattle.tftp_loop.specs.Seconds.{cut_along, cut_by, cut_in}
use Rattle.tftp_loop.proofs.Expiring.{closes_over_age, closes_without_progress, times_out_in_silence}

-- the time advances as much as the clock, but for what a round does not count
abbrev Passes : {S F D : Type 0} → LoopState S F D → LoopState S F D → ℕ → Type 0
Passes old new cut = new.reading + old.now ≤ old.reading + new.now + cut

module _ {S F D : Type 0} (meaning : StoreMeaning S D) (sources : SourceMeaning F) where
  step_passes : (s t : LoopState S F D) (does : LoopStep meaning sources s t) → Passes s t (cut_by meaning sources does)
  step_passes s t does = search rules

  passes : {port : ℕ} {first last : LoopState S F D} (idles : Idles meaning sources port first last)
      → Passes first last (cut_in meaning sources idles)
  passes At_first = omega arith
  passes {last = last} (After {middle} run does idle) =
      omega (arith, passes run, step_passes middle last does)

  passes_along : {first last : LoopState S F D} (run : Run (LoopStep meaning sources) first last)
      → Passes first last (cut_along meaning sources run)
  passes_along Start = omega arith
  passes_along {last = last} (Then {middle} run does) =
      omega (arith, passes_along run, step_passes middle last does)

-- what is later by the clock is later by the watch
later_by_now : {S F D : Type 0} (first last : LoopState S F D) (timer : Timer) (cut : ℕ)
    → closing_time (counted_from first.reading timer) timer.backoff timer.interval first.server.config.retries + cut
    < last.reading
    → Passes first last cut
    → closing_time (counted_from first.now timer) timer.backoff timer.interval first.server.config.retries < last.now
later_by_now first last timer cut late passed = search rules

module _ {S F D : Type 0} (meaning : StoreMeaning S D) (sources : SourceMeaning F) where
  -- `closes_without_progress`, with times that the clock was read at
  pub closes_by_the_clock : ClosesByTheClock meaning sources
  closes_by_the_clock start first last new timer empty run has idles waits late soon =
      closes_without_progress meaning sources start first last new timer empty run has idles waits
      (later_by_now first last timer (cut_in meaning sources idles) late (passes meaning sources idles)) soon

  -- `times_out_in_silence`, with times that the clock was read at
  pub times_out_by_the_clock : TimesOutByTheClock meaning sources
  times_out_by_the_clock start first last new timer transfer empty run has found idles silent waits late soon =
      times_out_in_silence meaning sources start first last new timer transfer empty run has found idles silent waits
      (later_by_now first last timer (cut_in meaning sources idles) late (passes meaning sources idles)) soon

  -- `closes_over_age`, with times that the clock was read at
  pub closes_over_age_by_the_clock : ClosesOverAgeByTheClock meaning sources
  closes_over_age_by_the_clock start first last new timer transfer empty run has found aged goes waits late soon =
      closes_over_age meaning sources start first last new timer transfer empty run has found aged goes waits
      (later_by_now first last timer (cut_along meaning sources goes) late (passes_along meaning sources goes)) soon

  -- the time of the program passes with the clock's, a second at most for each reading
  pub passes_with_the_clock : PassesWithTheClock meaning sources
  passes_with_the_clock first last run = passes_along meaning sources run
