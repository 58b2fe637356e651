-- A transfer that makes no progress is closed in time, and its line is printed. For
-- `a_server_closes_what_makes_no_progress` and ByTheClock.
use Rattle.std.proofs.Common.{rules}
use Rattle.tftp_loop.proofs.Common.{after_request, arith, ◌≡◌, ◌<◌, ◌≤◌, ◌+◌, ◌⊎◌, max, ℕ, List, [], ◌++◌, length, map}
use Rattle.tftp_loop.proofs.Common.{Option, Some, None, IsSome, refl, sym, ap, subst, ◌∙◌, inl, inr, slice_index_or}
use Rattle.tftp_loop.proofs.Common.{slice_set, cases_eq, append_assoc, length-map, none-some, SourceMeaning, Endpoint}
use Rattle.tftp_loop.proofs.Common.{Outcome, EndState, is_complete, outcome_of, record_of, StoreMeaning, TransferState}
use Rattle.tftp_loop.proofs.Common.{at, draft_of, is_closed, taken_of, with_new, Came, A_transfer, left_by, deadline_of}
use Rattle.tftp_loop.proofs.Common.{last_moment, LONGEST_WAIT, Run, Start, Then, Timer, PortState, LoopState, PortStep}
use Rattle.tftp_loop.proofs.Common.{LoopStep, Waits, interval_at, marked_by, port_state, set_by, started, wait_in}
use Rattle.tftp_loop.proofs.Common.{Waited, At_port, Request_answered, Transfer_closed, IsNoWait, ClosesInSilence}
use Rattle.tftp_loop.proofs.Common.{IsIdleAt, ReceivesNoneAt, AreKept}
use Rattle.std.specs.List.{Contains}
use Rattle.tftp_loop.specs.Expiry.{After, At_first, ClosesOverAge, ClosesWithoutProgress, Idles, IsIdle, NoneReceived}
use Rattle.tftp_loop.specs.Expiry.{PrintsClose, ReceivesNone, TimesOutInSilence, closing_time, counted_from}
use Rattle.tftp_loop.proofs.Adding.{Adds, adds_more, request_adds, step_adds, step_forward}
use Rattle.tftp_loop.proofs.Bounded.{some_at, sound_along}
use Rattle.tftp_loop.proofs.EndSteps.{open_left, timeouts_left}
use Rattle.tftp_loop.proofs.InTime.{InTime, at_last, changes_closes, changes_complete, changes_in_time, last_of}
use Rattle.tftp_loop.proofs.InTime.{latest_later, no_later, rested, set_early}
use Rattle.tftp_loop.proofs.ListLemmas.{set_long}
use Rattle.tftp_loop.proofs.PortEnds.{SameTimer, at_transfer, same_timer}
use Rattle.tftp_loop.proofs.PortStays.{stays_at}
use Rattle.tftp_loop.proofs.Rounds.{InRound, begins_round, next_round, step_round, wait_or_work}
use Rattle.tftp_loop.proofs.Sleeping.{step_kept}
use Rattle.tftp_loop.proofs.Tables.{any_default, appended_at, appended_long, inserted_apart, removed_apart, not_taken}
use Rattle.tftp_loop.proofs.Tables.{removed_index, set_other, set_own, taken_by}
use Rattle.tftp_loop.proofs.Waits.{deadline_later, waited_at}
use Rattle.tftp_loop.proofs.NewStates.{answer_is, state_is}

module _ {S F D : Type 0} (meaning : StoreMeaning S D) (sources : SourceMeaning F) (first : LoopState S F D)
    (timer : Timer) (e0 : EndState) where
  abbrev most : ℕ
  most = max 1 first.server.config.retries

  abbrev start : ℕ
  start = counted_from first.now timer

  abbrev CountsDown : ℕ → Timer → ℕ → Type 0
  CountsDown since here left =
      1 ≤ left → InTime start timer.backoff timer.interval most since (last_of since here) here.timeouts left

  -- the transfer is held still
  record Lasts (Quiet : Type 0) (since : ℕ) (s : LoopState S F D) : Type 0 where
    pub index : ℕ
    pub here : Timer
    pub within : index < length s.timers
    pub is : (d : Timer) → slice_index_or s.timers index d ≡ here
    pub same : SameTimer timer here
    pub transfer : TransferState F D
    pub found : at timer.port s.server.held ≡ Some transfer
    pub counts : CountsDown since here (timeouts_left transfer.end)
    pub complete : Quiet → is_complete transfer.end.position.phase ≡ is_complete e0.position.phase
    pub closes : Quiet → (o : Outcome) → outcome_of transfer.end.position.phase ≡ Some o
        → ClosesInSilence e0.position.phase o
    pub adds : Adds first.events s.events

  -- its line was printed
  record Gone (Quiet : Type 0) (s : LoopState S F D) : Type 0 where
    pub outcome : Outcome
    pub closed : PrintsClose timer.port timer.peer.port outcome first.events s.events
    pub why : Quiet → ClosesInSilence e0.position.phase outcome

  abbrev Lives : Type 0 → ℕ → LoopState S F D → Type 0
  Lives Quiet since s = Gone Quiet s ⊎ Lasts Quiet since s

  gone_on : (Quiet More : Type 0) (s t : LoopState S F D) → (More → Quiet) → Adds s.events t.events → Gone Quiet s
      → Gone More t
  gone_on Quiet More s t fewer adds gone = record {
    outcome = gone.outcome;
    closed = (
      adds.more ++ gone.closed.0,
      gone.closed.1,
      adds.is ∙ (ap (λ xs. adds.more ++ xs) gone.closed.2 ∙ sym (append_assoc adds.more gone.closed.0 _)),
    );
    why = λ quiet. gone.why (fewer quiet);
  }

  -- the transfer is as it was, and its timer is at this index
  still_lasts : (Quiet More : Type 0) (since : ℕ) (s t : LoopState S F D) (index : ℕ) → (More → Quiet)
      → Adds s.events t.events → (lasts : Lasts Quiet since s) → index < length t.timers
      → ((d : Timer) → slice_index_or t.timers index d ≡ lasts.here)
      → at timer.port t.server.held ≡ Some lasts.transfer → Lasts More since t
  still_lasts Quiet More since s t index fewer adds lasts within is found = record {
    index = index;
    here = lasts.here;
    within = within;
    is = is;
    same = lasts.same;
    transfer = lasts.transfer;
    found = found;
    counts = lasts.counts;
    complete = λ quiet. lasts.complete (fewer quiet);
    closes = λ quiet. lasts.closes (fewer quiet);
    adds = adds_more first.events s.events t.events lasts.adds adds;
  }

  -- nothing happened to the transfer
  same_lasts : (Quiet More : Type 0) (since : ℕ) (s t : LoopState S F D) → (More → Quiet) → Adds s.events t.events
      → t.timers ≡ s.timers → t.server.held ≡ s.server.held → Lasts Quiet since s → Lasts More since t
  same_lasts Quiet More since s t fewer adds timers held lasts =
      still_lasts Quiet More since s t lasts.index fewer adds lasts
      (subst (λ (ts : List Timer). lasts.index < length ts) (sym timers) lasts.within)
      (λ d. ap (λ (ts : List Timer). slice_index_or ts lasts.index d) timers ∙ lasts.is d)
      (ap (λ (h : List (ℕ × TransferState F D)). at timer.port h) held ∙ lasts.found)

  module _ {Quiet : Type 0} {since index : ℕ} {s : LoopState S F D} (lasts : Lasts Quiet since s) (own : Timer)
      (within : index < length s.timers) (is : own ≡ slice_index_or s.timers index own) where
    -- its own timer is at its index
    own_timer : lasts.index ≡ index → own ≡ lasts.here
    own_timer here = is ∙ (ap (λ (j : ℕ). slice_index_or s.timers j own) (sym here) ∙ lasts.is own)

    -- and no other has its port
    own_index : AreKept s.server.held s.timers → own.port ≡ timer.port → lasts.index ≡ index
    own_index kept e = search rules

  -- a step at a port
  step_at : (Quiet More : Type 0) (since : ℕ) (s : LoopState S F D) (index : ℕ) (own : Timer) (next : PortState S F D)
      → index < length s.timers → own ≡ slice_index_or s.timers index own
      → (does : PortStep meaning sources s.now (port_state s own) next) → AreKept s.server.held s.timers
      → (More → Quiet) → (own.port ≡ timer.port → IsIdleAt meaning sources does)
      → (More → own.port ≡ timer.port → ReceivesNoneAt meaning sources does) → s.now ≤ since + LONGEST_WAIT
      → Adds s.events next.events → Lasts Quiet since s
      → Lasts More since
      (record s { server = next.server; timers = slice_set s.timers index next.timer; events = next.events })
  step_at Quiet More since s index own next within is does kept fewer idle silent soon adds lasts =
      let stays = stays_at _ _ _ _ _ does in
      let long = set_long s.timers index next.timer in
      elim (cases_eq lasts.index index) [
        | inl here ↦
            let own_is = own_timer lasts own within is here in
            let was : SameTimer timer own = rw own_is lasts.same in
            let port_is = was.port in
            let same = same_timer does in
            let changed = at_transfer _ _ _ _ _ does _ (ap (λ p. at p s.server.held) port_is ∙ lasts.found) in
            let counts : CountsDown since own (timeouts_left lasts.transfer.end) = rw own_is lasts.counts in
            record {
              index = index;
              here = next.timer;
              within = omega (arith, long, within);
              is = λ d. set_own s.timers index next.timer d within;
              same = search rules;
              transfer = changed.next;
              found = ap (λ p. at p next.server.held) (sym port_is) ∙ changed.found;
              counts = changes_in_time start _ _ _ most changed.changes (idle port_is) was.interval was.backoff soon
                  counts;
              complete = λ quiet. changes_complete changed.changes (silent quiet port_is) ∙ lasts.complete (fewer
                  quiet);
              closes = λ quiet. changes_closes changed.changes (silent quiet port_is) e0 (lasts.complete (fewer quiet))
                  (lasts.closes (fewer quiet));
              adds = adds_more _ _ _ lasts.adds adds;
            }
        | inr other ↦
            let apart : timer.port ≡ own.port → ⊥ = λ e. other (own_index lasts _ within is kept (sym e)) in
            still_lasts Quiet More since s _ lasts.index fewer adds lasts (omega (arith, long, lasts.within)) (λ d.
            set_other s.timers _ next.timer _ d other ∙ lasts.is d) (stays.held.others timer.port apart ∙ lasts.found)
      ]

  -- another transfer opens
  opens_lasts : (Quiet More : Type 0) (since : ℕ) (from : Endpoint) (tid : ℕ) (s : LoopState S F D) (came : Came S F D)
      → at tid s.server.held ≡ None → (More → Quiet) → Lasts Quiet since s
      → Lasts More since (after_request s from (left_by came s.server from tid))
  opens_lasts Quiet More since from tid s (A_transfer transfer store) free fewer lasts =
      let adds = request_adds s from (left_by (A_transfer transfer store) s.server from tid) in
      let opened = started s.now s.longest s.backoff tid from (interval_at (at tid (with_new tid transfer s.server.held))) in
      let long = appended_long s.timers opened in
      let apart : timer.port ≡ tid → ⊥ = λ e. none-some lasts.transfer
      (sym free ∙ (ap (λ (p : ℕ). at p s.server.held) (sym e) ∙ lasts.found)) in
      still_lasts Quiet More since s _ lasts.index fewer adds lasts (omega (arith, long, lasts.within))
      (λ d. appended_at s.timers opened lasts.index d lasts.within ∙ lasts.is d)
      (inserted_apart tid timer.port apart transfer s.server.held ∙ lasts.found)
  opens_lasts Quiet More since from tid s came free fewer lasts =
      same_lasts Quiet More since s _ fewer (request_adds s from (left_by came s.server from tid)) refl refl lasts

  -- ---- one step
  -- that leaves each timer and each transfer
  passes : (Quiet More : Type 0) (since : ℕ) (s t u : LoopState S F D) (does : LoopStep meaning sources s t)
      → (More → Quiet) → t ≡ u → u.timers ≡ s.timers → u.server.held ≡ s.server.held → Lasts Quiet since s
      → Lives More since t
  passes Quiet More since s t u does fewer is timers held lasts =
      inr (same_lasts Quiet More since s t fewer (step_adds meaning sources s t does)
      (ap (λ (v : LoopState S F D). v.timers) is ∙ timers) (ap (λ (v : LoopState S F D). v.server.held) is ∙ held)
      lasts)

  step_lives : (Quiet More : Type 0) (since : ℕ) (s t : LoopState S F D) (does : LoopStep meaning sources s t)
      → IsNoWait meaning sources does → IsIdle meaning sources timer.port does → (More → Quiet)
      → (More → ReceivesNone meaning sources timer.port does) → t.now ≤ since + LONGEST_WAIT → AreKept s.server.held s.timers
      → Lasts Quiet since s → Lives More since t
  step_lives Quiet More since s t (Waited d) is idle fewer silent soon kept lasts = absurd is
  step_lives Quiet More since s t (At_port d) is idle fewer silent soon kept lasts =
      let adds = step_adds _ _ s t (At_port d) in
      inr (subst (Lasts More since) (sym d.is) (step_at _ _ _ s _ _ _ d.within d.is_timer _ kept fewer idle silent
      (subst (λ u. u.now ≤ since + LONGEST_WAIT) d.is soon) (subst (λ u. Adds s.events u.events) d.is adds) lasts))
  step_lives Quiet More since s t (Request_answered d) is idle fewer silent soon kept lasts =
      inr (subst (Lasts More since) (sym (answer_is d)) (opens_lasts _ _ _ d.from _ s d.steps.came d.free fewer lasts))
  step_lives Quiet More since s t (Transfer_closed d) is idle fewer silent soon kept lasts =
      elim (cases_eq lasts.index d.index) [
        | inl here ↦
            let was : SameTimer timer d.timer = rw (own_timer lasts d.timer d.within d.is_timer here) lasts.same in
            let port_is = was.port in
            let peer_is = ap (λ p. p.port) was.peer in
            let held =
            ap (λ o. taken_of o) (sym lasts.found) ∙ (ap (λ p. taken_of (at p s.server.held)) (sym port_is) ∙
            d.is_taken) in
            let record_is =
            ap (λ p. p.0) (taken_by (is_closed lasts.transfer) (
              record_of lasts.transfer.end,
              draft_of
                  lasts.transfer.files,
            ) d.taken held) in
            let outcome_is = ap (λ r. r.outcome) record_is ∙ d.has_outcome in
            inl (record {
              outcome = d.outcome;
              closed = (
                [],
                lasts.adds.more,
                ap (λ u. u.events) d.is ∙ rw (port_is, peer_is, lasts.adds.is) refl,
              );
              why = λ quiet. lasts.closes (fewer quiet) d.outcome outcome_is;
            })
        | inr other ↦
            let apart : timer.port ≡ d.timer.port → ⊥ =
            λ e. other (own_index lasts d.timer d.within d.is_timer kept (sym e)) in
            let index = removed_index s.timers d.index d.timer lasts.index d.within lasts.within other in
            let adds = subst (λ u. Adds s.events u.events) d.is (step_adds meaning sources s t (Transfer_closed d)) in
            inr (subst (Lasts More since) (sym d.is) (still_lasts Quiet More since s _ index.0 fewer adds lasts index.1
            (λ e. index.2 e ∙ lasts.is e) (removed_apart d.timer.port timer.port apart s.server.held ∙ lasts.found)))
      ]
  step_lives Quiet More since s t does is idle fewer silent soon kept lasts =
      passes _ _ _ s t _ does fewer (state_is does) refl refl lasts

  -- ---- at a wait
  due_later : (now : ℕ) (here : Timer) → (now < here.deadline) ⊎ (here.deadline ≡ deadline_of now (wait_in here))
      → now ≤ last_moment → now ≤ here.deadline
  due_later now here set soon = search rules

  rests_early : (Quiet : Type 0) (since : ℕ) (s t : LoopState S F D) → Waits meaning sources s t → s.now ≤ last_moment
      → (lasts : Lasts Quiet since s) → s.now ≤ lasts.here.deadline
  rests_early Quiet since s t waits soon lasts =
      due_later s.now lasts.here (rw (← lasts.is timer) (waits.may.transfers lasts.index timer lasts.within).due) soon

  rests_lives : (Quiet More : Type 0) (since : ℕ) (s t : LoopState S F D) → Waits meaning sources s t → (More → Quiet)
      → s.now ≤ last_moment → InRound meaning sources since s → Lasts Quiet since s → Lasts More s.now t
  rests_lives Quiet More since s t waits fewer soon in_round lasts =
      let more = length-map (map (set_by waits.watch.now) s.timers) (marked_by waits.ports) in
      let as_many = length-map s.timers (set_by waits.watch.now) in
      let here = lasts.here in
      let early = rests_early _ _ s t waits soon lasts in
      let later = deadline_later waits.watch.now here.provisional here in
      let set = set_early _ _ here.provisional here (omega (arith, waits.by.soon, in_round.soon, in_round.limit)) in
      let adds = subst (λ u. Adds s.events u.events) waits.is (step_adds _ _ s t (Waited waits)) in
      subst (Lasts More s.now) (sym waits.is) (record {
        index = lasts.index;
        here = marked_by waits.ports (set_by waits.watch.now lasts.here);
        within = omega (arith, more, as_many, lasts.within);
        is = λ d. waited_at waits.watch.now waits.ports _ _ d lasts.within ∙ ap (λ t. marked_by waits.ports (set_by
            waits.watch.now t)) (lasts.is d);
        same = search;
        transfer = lasts.transfer;
        found = lasts.found;
        counts = λ some. rested (omega (arith, early, later)) (no_later set (omega arith) (omega arith) (lasts.counts
            some));
        complete = λ quiet. lasts.complete (fewer quiet);
        closes = λ quiet. lasts.closes (fewer quiet);
        adds = adds_more _ _ _ lasts.adds adds;
      })

  -- ---- along a run
  record LivesOn (Quiet : Type 0) (s : LoopState S F D) : Type 0 where
    pub since : ℕ
    pub in_round : InRound meaning sources since s
    pub kept : AreKept s.server.held s.timers
    pub lives : Lives Quiet since s

  module _ (Quiet More : Type 0) (s t : LoopState S F D) (does : LoopStep meaning sources s t) (fewer : More → Quiet)
      (was : LivesOn Quiet s) (idle : Lasts Quiet was.since s → IsIdle meaning sources timer.port does)
      (silent : Lasts Quiet was.since s → More → ReceivesNone meaning sources timer.port does)
      (soon : s.now ≤ last_moment) where
    round_on : (since : ℕ) × InRound meaning sources since t × (Lasts Quiet was.since s → Lives More since t)
    round_on = elim (wait_or_work meaning sources s t does) [
      | inl waits ↦ (
        s.now,
        next_round meaning sources was.since s t waits was.in_round,
        λ lasts. inr (rests_lives Quiet More was.since s t waits fewer soon was.in_round lasts),
      )
      | inr is ↦
          let round = step_round meaning sources was.since s t does is was.in_round in (
            was.since,
            round,
            λ lasts. step_lives Quiet More was.since s t does is (idle lasts) fewer (silent lasts) round.soon was.kept lasts,
          )
    ]

    one_lives : LivesOn More t
    one_lives = record {
      since = round_on.0;
      in_round = round_on.1;
      kept = step_kept meaning sources s t does was.kept;
      lives = elim was.lives [
        | inl gone ↦ inl (gone_on Quiet More s t fewer (step_adds meaning sources s t does) gone)
        | inr lasts ↦ round_on.2 lasts
      ];
    }

  lives_along : {s : LoopState S F D} (idles : Idles meaning sources timer.port first s)
      → s.now ≤ last_moment → LivesOn (Unit {0}) first
      → LivesOn (NoneReceived meaning sources idles) s
  lives_along At_first soon start = start
  lives_along {s = last} (After {middle} run does idle) soon start =
      let before : middle.now ≤ last_moment = omega (arith, step_forward meaning sources middle last does, soon) in
      let Quiet = NoneReceived meaning sources run in
      let More = Quiet × ReceivesNone meaning sources timer.port does in
      one_lives Quiet More middle last does (λ m. m.0) (lives_along run before start) (λ lasts. idle) (λ lasts m. m.1)
      before

  late_idle : (Quiet : Type 0) (since : ℕ) (s t : LoopState S F D) (does : LoopStep meaning sources s t)
      → AreKept s.server.held s.timers → timer.age_limit < s.now → Lasts Quiet since s
      → IsIdle meaning sources timer.port does × ReceivesNone meaning sources timer.port does
  late_idle Quiet since s t (At_port d) kept late lasts =
      let own_is : d.timer.port ≡ timer.port → d.timer ≡ lasts.here =
      λ e. own_timer lasts d.timer d.within d.is_timer (own_index lasts d.timer d.within d.is_timer kept e) in
      let both : d.timer.port ≡ timer.port → IsIdleAt meaning sources d.does × ReceivesNoneAt meaning sources d.does
      = search rules in
      (λ e. (both e).0, λ e. (both e).1)
  late_idle Quiet since s t does kept late lasts = (tt, tt)

  -- in any run
  record LivesLate (s : LoopState S F D) : Type 0 where
    pub late : timer.age_limit < s.now
    pub on : LivesOn (Unit {0}) s

  late_along : {s : LoopState S F D} → Run (LoopStep meaning sources) first s → timer.age_limit < first.now
      → s.now ≤ last_moment → LivesOn (Unit {0}) first → LivesLate s
  late_along Start late soon start = record { late = late; on = start }
  late_along {s = last} (Then {middle} run does) late soon start =
      let forward = step_forward meaning sources middle last does in
      let before : middle.now ≤ last_moment = omega (arith, forward, soon) in
      let was = late_along run late before start in
      let both = late_idle (Unit {0}) was.on.since middle last does was.on.kept was.late in
      record {
        late = omega (arith, was.late, forward);
        on = search (rules, one_lives);
      }

  too_late : (Quiet : Type 0) (since : ℕ) (s t : LoopState S F D) → Waits meaning sources s t → s.now ≤ last_moment
      → closing_time start timer.backoff timer.interval first.server.config.retries < s.now → Lasts Quiet since s → ⊥
  too_late Quiet since s t waits soon late lasts =
      let early = rests_early Quiet since s t waits soon lasts in
      let port_is : (slice_index_or s.timers lasts.index timer).port ≡ timer.port =
      ap (λ (u : Timer). u.port) (lasts.is timer) ∙ lasts.same.port in
      let not_closed : taken_of (Some lasts.transfer) ≡ None =
      ap (λ (o : Option (TransferState F D)). taken_of o) (sym lasts.found) ∙ (ap (λ (p : ℕ). taken_of (at p
      s.server.held)) (sym port_is) ∙ (waits.may.transfers lasts.index timer lasts.within).not_closed) in
      let some = open_left lasts.transfer.end.position.phase lasts.transfer.end.position.retries_left (not_taken
      (is_closed lasts.transfer) (record_of lasts.transfer.end, draft_of lasts.transfer.files) not_closed) in
      let later = latest_later since lasts.here.provisional (wait_in lasts.here) lasts.here.deadline in
      search (rules, at_last, last_of)

module _ {S F D : Type 0} (meaning : StoreMeaning S D) (sources : SourceMeaning F) where
  -- a transfer lasts at first
  begins : (start first : LoopState S F D) (timer : Timer) (transfer : TransferState F D)
      → start.timers ≡ [] → Run (LoopStep meaning sources) start first
      → Contains first.timers timer → at timer.port first.server.held ≡ Some transfer
      → LivesOn meaning sources first timer transfer.end (Unit {0}) first
  begins start first timer transfer empty run has found =
      let sound = sound_along _ _ _ _ empty run in
      let bounded = sound.bounded has.0 timer has.1 in
      let is : (d : Timer) → slice_index_or first.timers has.0 d ≡ timer = search (rules, any_default) in
      let near = rw (has.2) at bounded.near in
      let few = rw (has.2) at (bounded.spent transfer (ap (λ (t : Timer). at t.port first.server.held) has.2 ∙ found))
      in
      record {
        since = first.now;
        in_round = begins_round meaning sources first;
        kept = sound.kept;
        lives = inr (record {
          index = has.0;
          here = timer;
          within = has.1;
          is = is;
          same = record { port = refl; peer = refl; interval = refl; backoff = refl; age = refl };
          transfer = transfer;
          found = found;
          counts = search rules;
          complete = λ quiet. refl;
          closes = λ quiet o closed. inr (inr closed);
          adds = record { more = []; is = refl };
        });
      }

  -- a transfer from whose peer nothing comes closes by its timeouts, and in time
  pub times_out_in_silence : TimesOutInSilence meaning sources
  times_out_in_silence start first last new timer transfer empty run has found idles silent waits late soon =
      let along = lives_along _ _ _ _ transfer.end idles soon (begins _ _ _ _ empty run has found) in
      elim along.lives [
        | inl gone ↦ (gone.outcome, gone.closed, gone.why silent)
        | inr lasts ↦ absurd (too_late _ _ _ _ transfer.end _ _ _ _ waits soon late lasts)
      ]

  -- one that makes no progress has closed by the time that its retries allow
  pub closes_without_progress : ClosesWithoutProgress meaning sources
  closes_without_progress start first last new timer empty run has idles waits late soon =
      let sound = sound_along _ _ _ _ empty run in
      let there : IsSome (at timer.port first.server.held) =
      subst (λ (t : Timer). IsSome (at t.port first.server.held)) has.2 (sound.kept.each has.0 timer has.1).there in
      let some = some_at _ there in
      let along = lives_along _ _ _ _ some.0.end idles soon (begins _ _ _ _ empty run has some.1) in
      elim along.lives [
        | inl gone ↦ (gone.outcome, gone.closed)
        | inr lasts ↦ absurd (too_late _ _ _ _ some.0.end _ _ _ _ waits soon late lasts)
      ]

  -- one older than its age limit closes though datagrams come
  pub closes_over_age : ClosesOverAge meaning sources
  closes_over_age start first last new timer transfer empty run has found late goes waits over soon =
      let along = late_along _ _ _ _ transfer.end goes late soon (begins _ _ _ _ empty run has found) in
      elim along.on.lives [
        | inl gone ↦ (gone.outcome, gone.closed, gone.why tt)
        | inr lasts ↦ absurd (too_late _ _ _ _ transfer.end _ _ _ _ waits soon over lasts)
      ]
