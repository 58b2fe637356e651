-- A server that may sleep has nothing to do. For `a_server_rests_before_it_sleeps`, Bounded, Expiring and Reporting.
use Rattle.std.proofs.Common.{rules, arith as std_arith}
use Rattle.std.proofs.lemmas.Grind.{common_steps}
use Rattle.tftp_loop.proofs.Common.{arith, ◌≡◌, ◌<◌, ◌≤◌, ◌-◌, ◌||◌, ◌&&◌, not, ℕ, zero, suc, Bool, true, false, List}
use Rattle.tftp_loop.proofs.Common.{[], ◌∷◌, length, map, cond, Option, Some, None, refl, slice_index_or, is_some, All}
use Rattle.tftp_loop.proofs.Common.{◌≢◌, list_any, SourceMeaning, StoreMeaning, LONGEST_WAIT, Watched, is_drained, Run}
use Rattle.tftp_loop.proofs.Common.{Start, Then, Timer, LoopState, LoopStep, at_start, set_by, until_look, Waited}
use Rattle.tftp_loop.proofs.Common.{Clock_read, is_draining, reads_requests, Work_by, AreKept, IsNoWait, KeepsTries}
use Rattle.tftp_loop.specs.Steps.{is_busy, read_at}
use Rattle.tftp_loop.specs.Sleeps.{RestsBeforeItSleeps}
use Rattle.tftp_loop.proofs.OwnPorts.{others_along}
use Rattle.tftp_loop.proofs.Looking.{AreLooked, looked_at_rest, read_looked, step_looked}
use Rattle.tftp_loop.proofs.LoopStays.{work_keeps}
use Rattle.tftp_loop.proofs.Waits.{set_kept, waited_kept}

module _ {S F D : Type 0} (meaning : StoreMeaning S D) (sources : SourceMeaning F) where
  -- ---- along a run
  -- the request port was drained unless it is marked
  abbrev IsDrained : LoopState S F D → Type 0
  IsDrained s = s.marked ≡ false → is_drained s.requests s.events ≡ true

  -- and each timer is of its transfer
  record IsQuiet (s : LoopState S F D) : Type 0 where
    pub drained : IsDrained s
    pub kept : AreKept s.server.held s.timers
    pub looked : AreLooked s

  step_drained : (s t : LoopState S F D) → LoopStep meaning sources s t
      → All (λ (timer : Timer). timer.port ≢ s.requests) s.timers → IsDrained s → IsDrained t
  step_drained s t does own h = search rules

  -- a step keeps a timer for each open transfer
  pub step_kept : (s t : LoopState S F D) → LoopStep meaning sources s t → AreKept s.server.held s.timers →
      AreKept t.server.held t.timers
  step_kept s t (Waited d) kept =
      rw (d.is) (waited_kept s.server.held d.watch.now d.ports s.timers kept)
  step_kept s t (Clock_read d) kept = rw (d.is) kept
  step_kept s t does kept = (work_keeps meaning sources s t (Then Start (Work_by does tt))).kept kept

  -- one that is no wait keeps what was read
  pub step_tries : (s t : LoopState S F D) (does : LoopStep meaning sources s t) → IsNoWait meaning sources does
      → KeepsTries s.events t.events
  step_tries s t does is = search rules

  -- each state of a run has them
  pub kept_along : (start old : LoopState S F D) → start.timers ≡ [] → Run (LoopStep meaning sources) start old
      → AreKept old.server.held old.timers
  kept_along start old empty Start = search rules
  kept_along start old empty (Then {middle} run does) = step_kept middle old does (kept_along start middle empty run)

  quiet_along : (start old : LoopState S F D) → start.timers ≡ [] → start.marked ≡ true
      → Run (LoopStep meaning sources) start old → IsQuiet old
  quiet_along start old empty marked Start = search rules
  quiet_along start old empty marked (Then {middle} run does) =
      let was = quiet_along start middle empty marked run in
      let others = others_along meaning sources start middle empty run in
      search (rules, step_drained, step_kept, step_looked)

-- ---- at a wait
idle_parts : (a p c : Bool) (n : ℕ) → 1 ≤ cond (a || (p || c)) 0 n → (a ≡ false) × (p ≡ false) × (c ≡ false)
idle_parts a p c n h = search rules

-- the request port is not marked if it is not read, and the server does not drain
unmarked_when : (drains marked : Bool) → (not drains && marked) ≡ false → drains ≡ false → marked ≡ false
unmarked_when true marked e on = absurd (let f : true ≡ false = on in cc)
unmarked_when false marked e on = e

idle_millis : (b : Bool) (n millis : ℕ) → 1 ≤ millis → millis ≤ cond b 0 n → millis ≤ n
idle_millis true n millis h k = absurd (omega (arith, h, k))
idle_millis false n millis h k = k

none_pending : {X : Type 0} (o : Option X) → is_some o ≡ false → o ≡ None
none_pending None h = refl
none_pending (Some x) h = absurd (let e : true ≡ false = h in cc)

none_marked : (timers : List Timer) → list_any (λ (timer : Timer). timer.marked) timers ≡ false → (k : ℕ) (d : Timer) →
    k < length timers → (slice_index_or timers k d).marked ≡ false
none_marked timers e k d h = grind (std_arith, common_steps)

look_first : (now : ℕ) (timers : List Timer) (k : ℕ) (d : Timer) → k < length timers →
    until_look now timers ≤ (slice_index_or timers k d).look_at - now
look_first now [] k d h = absurd (omega (arith, h))
look_first now (timer ∷ timers) zero d h = omega arith
look_first now (timer ∷ timers) (suc k) d h =
    let rest = look_first now timers k d (omega (arith, h)) in omega (arith, rest)

look_longest : (now : ℕ) (timers : List Timer) → until_look now timers ≤ LONGEST_WAIT
look_longest now [] = omega arith
look_longest now (timer ∷ timers) = let rest = look_longest now timers in omega (arith, rest)

module _ {S F D : Type 0} (meaning : StoreMeaning S D) (sources : SourceMeaning F) where
  -- a server that may sleep has no datagram to read, no timeout due and no file work
  pub rests_before_it_sleeps : RestsBeforeItSleeps meaning sources
  rests_before_it_sleeps config port reading server before old new run waits some =
      let was = quiet_along meaning sources (at_start config port server reading before) old refl refl run in
      let set = map (set_by waits.watch.now) old.timers in
      let until = until_look waits.watch.now set in
      let longest = waits.may.longest in
      let parts =
      idle_parts (reads_requests old) (is_some old.pending) (list_any (λ (timer : Timer). timer.marked) set) until
      (omega (arith, some, longest)) in
      let most : waits.millis ≤ until = idle_millis (is_busy (read_at waits.watch old)) until waits.millis some longest in
      let looked = read_looked old.events old.now waits.watch old.timers waits.by.forward was.looked in
      let kept = set_kept old.server.held waits.watch.now old.timers was.kept in
      record {
        requests = λ on. was.drained (unmarked_when (is_draining old.drain) old.marked parts.0 on);
        pending = none_pending old.pending parts.1;
        transfers = λ k d h.
            let first = look_first waits.watch.now set k d h in
            let unmarked = none_marked set parts.2 k d h in
            record {
              unmarked = unmarked;
              drained = looked_at_rest (slice_index_or set k d) (Watched waits.watch ∷ old.events) waits.watch.now unmarked
                  (looked k d h);
              ends = omega (arith, first, most, some);
              look = (kept.each k d h).look;
            };
        longest = let l = look_longest waits.watch.now set in omega (arith, l, most);
      }
