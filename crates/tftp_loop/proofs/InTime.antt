-- The time that is left to a transfer that makes no progress, and what a step at its port leaves of it. For Expiring.
use Rattle.std.proofs.Common.{rules}
use Rattle.tftp_loop.proofs.Common.{arith, ◌≡◌, ◌≤◌, ◌+◌, ◌*◌, max, ℕ, zero, suc, Bool, true, false, Some, refl, ap}
use Rattle.tftp_loop.proofs.Common.{inl, inr, cases_eq, wait_of, Backoff, Outcome, EndState, is_complete, outcome_of}
use Rattle.tftp_loop.proofs.Common.{after_turn, timeout_turn, deadline_of, LONGEST_WAIT, ClosesInSilence, in_millis}
use Rattle.tftp_loop.proofs.Common.{waits_of, Timer, deadline_by, timeouts_after, wait_in}
use Rattle.tftp_loop.proofs.BackoffLemmas.{wait_more}
use Rattle.tftp_loop.proofs.EndSteps.{timeout_spends, timeouts_left}
use Rattle.tftp_loop.proofs.PortEnds.{By_datagram, By_late_timeout, By_nothing, By_timeout, Changes, spent_after}

-- so many timeouts are over, and each took a wait and a round
pub record InTime (start : ℕ) (backoff : Backoff) (interval most since deadline timeouts left : ℕ) : Type 0 where
  pub spent : ℕ
  pub few : left + spent ≤ most + 1
  pub used : timeouts ≤ spent
  pub due : deadline ≤ start + waits_of backoff interval spent + in_millis (wait_of backoff interval spent)
  pub newest : since ≤ start + waits_of backoff interval spent + in_millis (wait_of backoff interval spent)

module _ (backoff : Backoff) (interval : ℕ) where
  -- the latest deadline after so many timeouts
  abbrev until : ℕ → ℕ
  until n = waits_of backoff interval n + in_millis (wait_of backoff interval n)

  until_next : (n : ℕ) → until n ≤ until (suc n)
  until_next n = search rules

  until_more : (n m : ℕ) → n ≤ m → until n ≤ until m
  until_more n zero h = search rules
  until_more n (suc m) h = elim (cases_eq n (suc m)) [
    | inl e ↦ let same : until n ≡ until (suc m) = ap until e in omega (arith, same)
    | inr other ↦ omega (arith, until_more n m (omega (arith, h, other)), until_next m)
  ]

module _ {start : ℕ} {backoff : Backoff} {interval most : ℕ} where
  -- an earlier deadline and fewer timeouts are in time, too
  pub no_later : {since deadline deadline' timeouts timeouts' left left' : ℕ} → deadline' ≤ deadline
      → timeouts' ≤ timeouts → left' ≤ left → InTime start backoff interval most since deadline timeouts left
      → InTime start backoff interval most since deadline' timeouts' left'
  no_later sooner less fewer t = search rules

  -- a timeout in the round in which it was due
  timed_out : {since deadline deadline' timeouts timeouts' left left' : ℕ}
      → deadline' ≤ since + LONGEST_WAIT + in_millis (wait_of backoff interval timeouts') → timeouts' ≤ timeouts + 1
      → left' + 1 ≤ left → InTime start backoff interval most since deadline timeouts left
      → InTime start backoff interval most since deadline' timeouts' left'
  timed_out {timeouts' = timeouts'} near more fewer t =
      let next : waits_of backoff interval (suc t.spent) ≡ waits_of backoff interval t.spent + (in_millis (wait_of
      backoff interval t.spent) + LONGEST_WAIT) = refl in
      let longer = wait_more backoff interval timeouts' (suc t.spent) (omega (arith, more, t.used)) in
      search rules

  -- at a wait the deadline is to come
  pub rested : {since deadline now timeouts left : ℕ} → now ≤ deadline
      → InTime start backoff interval most since deadline timeouts left
      → InTime start backoff interval most now deadline timeouts left
  rested before t = search rules

  -- a timer that is in time is due before the retries are spent
  pub at_last : {since deadline now timeouts left : ℕ} → 1 ≤ left → now ≤ deadline
      → InTime start backoff interval most since deadline timeouts left
      → now ≤ start + waits_of backoff interval most + in_millis (wait_of backoff interval most)
  at_last some before t =
      omega (arith, t.due, before, until_more backoff interval t.spent most (omega (arith, t.few, some)))

-- the latest that a deadline may be in this round, with a wait of so many seconds: a provisional one is yet to be set
abbrev pub latest : ℕ → Bool → ℕ → ℕ → ℕ
latest since true seconds deadline = max deadline (since + LONGEST_WAIT + in_millis seconds)
latest since false seconds deadline = deadline

-- the same of a timer
abbrev pub last_of : ℕ → Timer → ℕ
last_of since timer = latest since timer.provisional (wait_in timer) timer.deadline

-- a deadline is not after the latest that it may be
pub latest_later : (since : ℕ) (b : Bool) (seconds deadline : ℕ) → deadline ≤ latest since b seconds deadline
latest_later since true seconds deadline = omega arith
latest_later since false seconds deadline = omega arith

-- a deadline that is set from a reading of this round is not after the latest
pub set_early : (since time : ℕ) (b : Bool) (timer : Timer) → time ≤ since + LONGEST_WAIT
    → deadline_by time b timer ≤ latest since b (wait_in timer) timer.deadline
set_early since time b timer soon = search rules

-- ---- what a step at the port leaves
module _ (start since : ℕ) (backoff : Backoff) (interval most : ℕ) where
  abbrev KeepsTime : Timer → EndState → Type 0
  KeepsTime t f =
      InTime start backoff interval most since (last_of since t) t.timeouts (timeouts_left f)

  -- a step that makes no progress leaves the transfer in time
  pub changes_in_time : {Idle Silent : Type 0} {now : ℕ} {timer timer' : Timer} {e e' : EndState}
      → Changes Idle Silent now timer timer' e e' → Idle → timer.interval ≡ interval → timer.backoff ≡ backoff
      → now ≤ since + LONGEST_WAIT → (1 ≤ timeouts_left e → KeepsTime timer e) → 1 ≤ timeouts_left e'
      → KeepsTime timer' e'
  changes_in_time {now = now} {timer} {timer'} (By_datagram progress handled is_idle silent is) idle interval_is
      backoff_is
      soon before some = search rules
  changes_in_time {now = now} {timer} {timer'} {e} {e'} (By_timeout again live end is) idle interval_is backoff_is soon
      before some =
      let same : timeouts_left e' ≡ timeouts_left (after_turn e (timeout_turn e)) = ap timeouts_left end in
      let spends : timeouts_left (after_turn e (timeout_turn e)) + 1 ≤ timeouts_left e =
      (timeout_spends e).left (omega (arith, some, same)) in
      let later = timeouts_after again timer.timeouts in
      let timeouts : timer'.timeouts ≡ later = ap (λ (t : Timer). t.timeouts) is in
      let more = spent_after again timer.timeouts in
      let own = wait_of timer.backoff timer.interval later in
      let wait : own ≡ wait_of backoff interval timer'.timeouts = rw (interval_is, backoff_is, timeouts) refl in
      let deadline : last_of since timer' ≡ max (deadline_of now own) (since + LONGEST_WAIT + in_millis own) =
      ap (last_of since) is in
      let near : deadline_of now own ≤ now + own * 1000 = omega arith in
      timed_out (omega (arith, deadline, near, soon, wait)) (omega (arith, timeouts, more))
      (omega (arith, spends, same)) (before live)
  changes_in_time (By_late_timeout end none is) idle interval_is backoff_is soon before some =
      absurd (omega (arith, some, ap timeouts_left end, none))
  changes_in_time {timer = timer} {timer'} {e} {e'} (By_nothing end deadline wait timeouts provisional) idle interval_is
      backoff_is soon before some =
      let same : timeouts_left e' ≡ timeouts_left e = ap timeouts_left end in
      let here : last_of since timer' ≡ last_of since timer = rw (provisional, wait, deadline) refl in
      no_later (omega (arith, here)) (omega (arith, timeouts)) (omega (arith, same)) (before (omega (
        arith,
        some,
        same,
      )))

module _ {Idle Silent : Type 0} {now : ℕ} {timer timer' : Timer} {e e' : EndState} where
  -- a step without a datagram of the peer does not complete the transfer
  pub changes_complete : Changes Idle Silent now timer timer' e e' → Silent
      → is_complete e'.position.phase ≡ is_complete e.position.phase
  changes_complete changes quiet = search rules

  -- and closes it only as one closes in silence
  pub changes_closes : Changes Idle Silent now timer timer' e e' → Silent → (e0 : EndState)
      → is_complete e.position.phase ≡ is_complete e0.position.phase
      → ((o : Outcome) → outcome_of e.position.phase ≡ Some o → ClosesInSilence e0.position.phase o)
      → (o : Outcome) → outcome_of e'.position.phase ≡ Some o → ClosesInSilence e0.position.phase o
  changes_closes changes quiet e0 complete closes o closed = search rules
