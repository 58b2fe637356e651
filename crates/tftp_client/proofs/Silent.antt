-- What a client does to whom nothing comes, step by step.
use Rattle.std.proofs.Common.{rules}
use Rattle.tftp_client.proofs.Common.{◌≡◌, ◌<◌, ◌≤◌, ◌⊎◌, ℕ, List, Option, Some, IsSome, inl, inr, refl, sym, ap, subst}
use Rattle.tftp_client.proofs.Common.{◌∙◌, arith, ◌+◌, ◌-◌, ◌*◌, min, if◌then◌else◌, same_Some, Asked, Kind}
use Rattle.tftp_client.proofs.Common.{SinkMeaning, SourceMeaning, Files, wait_of, EndState, Position, outcome_of}
use Rattle.tftp_client.proofs.Common.{Backoff, after_turn, timeout_turn, Outcome, Waiting, last_moment, Watch}
use Rattle.tftp_client.proofs.Common.{SocketEvent, QuietEvent, waits, Job, Converses, IsOpen, MayElapse, MayWait, State}
use Rattle.tftp_client.proofs.Common.{deadline_at, elapsed, waited, Begins, Receives, Waits, Times, Rests, Stays}
use Rattle.tftp_client.proofs.Common.{Elapses, begun, opens, seconds_in}
use Rattle.std.specs.Prelude.{max}
use Rattle.std.proofs.lemmas.Option.{none-some}
use Rattle.tftp_ends.specs.declared.outcome.Outcome.TheVariants.{TimedOut}
use Rattle.tftp_sockets.specs.Trace.QuietEvent.{Empty, Failed}
use Rattle.tftp_sockets.specs.Quiet.{waits_in}
use Rattle.tftp_client.specs.Converses.{wait_at}
use Rattle.tftp_client.specs.Silence.{IsSilent, TimesOut, WaitsForEachSending}
use Rattle.tftp_client.proofs.Conversing.{waits_elapsed}
use Rattle.tftp_client.proofs.Growing.{one_more}

-- the request is not answered: some waits of a second at most are left until it is sent again, and then
-- as many as the waits behind that have seconds
record Unanswered (backoff : Backoff) (most : ℕ) (s : State) : Type 0 where
  asked : Asked
  limit : ℕ
  waiting : s.end.position.phase ≡ Waiting asked limit
  grows : s.backoff ≡ backoff
  used : ℕ
  counted : s.end.role.retries ≡ used + s.end.position.retries_left
  left : ℕ
  near : s.deadline ≤ s.now + 1000 * left
  few : waits s.events + left + seconds_in backoff 1 (used + 1) s.end.position.retries_left ≤ most

-- a silent client has timed out, or its request is not answered
abbrev Silent : Backoff → ℕ → State → Type 0
Silent backoff most s = (outcome_of s.end.position.phase ≡ Some TimedOut) ⊎ Unanswered backoff most s

-- a wait is no event of a receive
no_wait : {port : ℕ} (event : QuietEvent) → (event ≡ Empty port) ⊎ (event ≡ Failed port) → waits_in event ≡ 0
no_wait event (inl is) = ap waits_in is
no_wait event (inr is) = ap waits_in is

pub times_out : (e : EndState) (asked : Asked) (limit : ℕ) → e.position.phase ≡ Waiting asked limit
    → (outcome_of (after_turn e (timeout_turn e)).position.phase ≡ Some TimedOut)
    ⊎ ((0 < e.position.retries_left)
    × ((after_turn e (timeout_turn e)).position ≡ record e.position { retries_left = e.position.retries_left - 1 }))
times_out e asked limit is = search rules

-- an open end has no outcome
pub closed_not : (e : EndState) (outcome : Outcome) → outcome_of e.position.phase ≡ Some outcome → IsOpen e → ⊥
closed_not e outcome is is_open = let Not : Option Outcome → Type 0 = λ o. IsSome o → ⊥ in subst Not is is_open refl

-- the deadline of this state, if its wait began now
pub begins_now : (backoff : Backoff) (s : State) (used : ℕ) (asked : Asked) (limit : ℕ)
    → s.end.position.phase ≡ Waiting asked limit → s.backoff ≡ backoff
    → s.end.role.retries ≡ used + s.end.position.retries_left
    → deadline_at s.backoff s.now s.end ≡ min (s.now + wait_of backoff 1 used * 1000) last_moment
begins_now backoff s used asked limit waiting grows counted = search rules

-- a client that may wait is not due
pub before_due : (backoff : Backoff) (s : State) (used : ℕ) (asked : Asked) (limit : ℕ)
    → s.end.position.phase ≡ Waiting asked limit → s.backoff ≡ backoff
    → s.end.role.retries ≡ used + s.end.position.retries_left → MayWait s → s.now < last_moment → s.now < s.deadline
before_due backoff s used asked limit waiting grows counted may early = search rules

-- after a wait that lasted as long as it was to, one less is left
after_wait : (backoff : Backoff) (most : ℕ) {port : ℕ} (s : State) (event : QuietEvent) (watch : Watch)
    → Unanswered backoff most s → MayWait s → (event ≡ Empty port) ⊎ (event ≡ Failed port)
    → s.now + wait_at s ≤ watch.now → s.now < last_moment → Unanswered backoff most (waited event watch s)
after_wait backoff most s event watch h may quiet lasts early =
    let length : wait_at s ≡ max (min (s.deadline - s.now) 1000) 1 = refl in
    let before = before_due backoff s h.used h.asked h.limit h.waiting h.grows h.counted may early in
    let none = no_wait event quiet in
    let near = h.near in
    let few = h.few in
    record {
      asked = h.asked;
      limit = h.limit;
      waiting = h.waiting;
      grows = h.grows;
      used = h.used;
      counted = h.counted;
      left = h.left - 1;
      near = omega (arith, length, before, near, lasts);
      few = omega (arith, none, few, near, before);
    }

-- after a timeout the request was sent again, and another wait begins
after_elapsed : (backoff : Backoff) (most port : ℕ) (s : State) → Unanswered backoff most s → s.deadline ≤ s.now
    → IsOpen s.end → Silent backoff most (elapsed port s)
after_elapsed backoff most port s h due is_open = elim (times_out s.end h.asked h.limit h.waiting) [
  | inl closed ↦ inl closed
  | inr again ↦
      let next = elapsed port s in
      let same = waits_elapsed {port = port} {s = s} (Elapses due is_open) in
      let left = ap (λ (p : Position). p.retries_left) again.1 in
      let waiting = ap (λ (p : Position). p.phase) again.1 ∙ h.waiting in
      let was = h.counted in
      let some = again.0 in
      let counted : next.end.role.retries ≡ (h.used + 1) + next.end.position.retries_left =
      omega (arith, was, left, some) in
      let is = begins_now backoff (record next { now = s.now }) (h.used + 1) h.asked h.limit waiting h.grows counted in
      let first = one_more backoff 1 (h.used + 1) s.end.position.retries_left some in
      let rest = ap (λ (n : ℕ). seconds_in backoff 1 (h.used + 1 + 1) n) left in
      let few = h.few in
      inr (record {
        asked = h.asked;
        limit = h.limit;
        waiting = waiting;
        grows = h.grows;
        used = h.used + 1;
        counted = counted;
        left = wait_of backoff 1 (h.used + 1);
        near = omega (arith, is);
        few = omega (arith, same, first, rest, few);
      })
]

elapses : (backoff : Backoff) (most port : ℕ) {s next : State} → MayElapse port s next → Silent backoff most s
    → Silent backoff most next
elapses backoff most port (Stays why) h = h
elapses backoff most port {s} (Elapses due is_open) (inl closed) = absurd (closed_not s.end TimedOut closed is_open)
elapses backoff most port {s} (Elapses due is_open) (inr h) = after_elapsed backoff most port s h due is_open

-- a timeout takes no time
same_now : {port : ℕ} {s next : State} → MayElapse port s next → s.now ≡ next.now
same_now (Stays why) = refl
same_now (Elapses due is_open) = refl

module _ {S K : Type 0} {sources : SourceMeaning S} {sinks : SinkMeaning K} where
  -- each moment of a silent run
  silent : (backoff : Backoff) (most : ℕ) {port : ℕ} {first : State} {file : Files S K} {s : State} {files : Files S K}
      (run : Converses sources sinks port first file s files)
      → IsSilent run → Silent backoff most first → s.now < last_moment → Silent backoff most s
  silent backoff most Begins quiet h ends = h
  silent backoff most (Receives run may time answers) quiet h ends = absurd quiet
  silent backoff most (Waits {s} {event = event} {watch = watch} run may nothing later) quiet h ends =
      let forward = later.forward in
      let early : s.now < last_moment = omega (arith, forward, ends) in
      elim (silent backoff most run quiet.0 h early) [
        | inl closed ↦ absurd (closed_not s.end TimedOut closed may.not_closed)
        | inr unanswered ↦ inr (after_wait backoff most s event watch unanswered may nothing quiet.1 early)
      ]
  silent backoff most {port} (Times {s} {next} run timed) quiet h ends =
      let Before : ℕ → Type 0 = λ n. n < last_moment in
      let early = subst Before (sym (same_now timed)) ends in
      elapses backoff most port timed (silent backoff most run quiet h early)
  silent backoff most (Rests run works) quiet h ends = silent backoff most run quiet h ends

-- an end as a job opens it: no timeout was delivered, and its waits are the first one and those behind it
pub record FirstWait (backoff : Backoff) (retries : ℕ) (e : EndState) : Type 0 where
  pub asked : Asked
  pub limit : ℕ
  pub waiting : e.position.phase ≡ Waiting asked limit
  pub counted : e.role.retries ≡ 0 + e.position.retries_left
  pub all_left : e.position.retries_left ≡ retries
  pub near : deadline_at backoff 0 e ≤ wait_of backoff 1 0 * 1000
  pub few : seconds_in backoff 1 0 (retries + 1)
      ≡ wait_of backoff 1 0 + seconds_in backoff 1 1 e.position.retries_left

first_of : (backoff : Backoff) (retries : ℕ) (e : EndState) (asked : Asked) (limit : ℕ)
    → e.position.phase ≡ Waiting asked limit → e.role.retries ≡ 0 + e.position.retries_left
    → e.position.retries_left ≡ retries → FirstWait backoff retries e
first_of backoff retries e asked limit waiting counted all_left = search rules

pub first_wait : (kind : Kind) (job : Job) (length : ℕ) → FirstWait job.backoff job.retries (opens kind job length)
first_wait kind job length = search (rules, first_of, opens)

begins : (port reading : ℕ) (kind : Kind) (job : Job) (length : ℕ) (before : List SocketEvent)
    → Silent job.backoff (seconds_in job.backoff 1 0 (job.retries + 1) + waits before)
    (begun job.backoff port reading (opens kind job length) before)
begins port reading kind job length before =
    let first = first_wait kind job length in
    let near = first.near in
    let few = first.few in
    inr (record {
      asked = first.asked;
      limit = first.limit;
      waiting = first.waiting;
      grows = refl;
      used = 0;
      counted = first.counted;
      left = wait_of job.backoff 1 0;
      near = omega (arith, near);
      few = omega (arith, few);
    })

module _ {S K : Type 0} (sources : SourceMeaning S) (sinks : SinkMeaning K) where
  abbrev most_waits : Job → List SocketEvent → ℕ
  most_waits job before = seconds_in job.backoff 1 0 (job.retries + 1) + waits before

  pub waits_for_each_sending : WaitsForEachSending sources sinks
  waits_for_each_sending port reading kind job length before file s files run quiet ends is_open =
      elim (silent job.backoff (most_waits job before) run quiet (begins port reading kind job length before) ends) [
        | inl closed ↦ absurd (closed_not s.end TimedOut closed is_open)
        | inr h ↦ let few = h.few in omega (arith, few)
      ]

  pub times_out_alone : TimesOut sources sinks
  times_out_alone port reading kind job length before file s files outcome run quiet ends is =
      elim (silent job.backoff (most_waits job before) run quiet (begins port reading kind job length before) ends) [
        | inl closed ↦ same_Some outcome TimedOut (sym is ∙ closed)
        | inr h ↦ absurd (none-some outcome (sym (ap outcome_of h.waiting) ∙ is))
      ]
