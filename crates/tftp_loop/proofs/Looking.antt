-- A port of a transfer that is not marked is drained, or is left for a while. For Sleeping.
use Rattle.std.proofs.Common.{rules}
use Rattle.tftp_loop.proofs.Common.{arith, ◌≡◌, ◌≤◌, ◌<◌, ◌==◌, ◌&&◌, ◌+◌, ◌⊎◌, not, ℕ, Bool, true, false, List, ◌∷◌}
use Rattle.tftp_loop.proofs.Common.{length, map, refl, sym, ap, subst, ◌∙◌, slice_index_or, All, ◌≢◌, is_some}
use Rattle.tftp_loop.proofs.Common.{swap_remove, length-map, SourceMeaning, wait_of, StoreMeaning, deadline_of}
use Rattle.tftp_loop.proofs.Common.{SocketEvent, Watch, Watched, Quiet, is_among, is_drained, Timer, PortState}
use Rattle.tftp_loop.proofs.Common.{LoopState, PortStep, LoopStep, deadline_by, marked_by, port_state, restarted}
use Rattle.tftp_loop.proofs.Common.{set_by, timeouts_after, timer_after, wait_in, A_datagram, Nothing_found, A_timeout}
use Rattle.tftp_loop.proofs.Common.{A_missed_timeout, Work, Waited, At_port, Request_received, No_request_found}
use Rattle.tftp_loop.proofs.Common.{Request_not_received, Request_noted, Request_answered, Clock_read, Transfer_closed}
use Rattle.tftp_loop.proofs.Common.{HavePortsApart}
use Rattle.std.specs.Prelude.{◌*◌}
use Rattle.tftp_sockets.specs.Trace.QuietEvent.{Slept, Woke}
use Rattle.tftp_loop.specs.Steps.{look_after, next_look}
use Rattle.tftp_loop.proofs.BackoffLemmas.{wait_most}
use Rattle.tftp_loop.proofs.Drained.{either_drained, port_drained, replied_drained}
use Rattle.tftp_loop.proofs.LoopStays.{all_opened, if_any, other_port, removed_all, replaced_all}
use Rattle.tftp_loop.proofs.NoteLemmas.{note_drained}
use Rattle.tftp_loop.proofs.PortStays.{own_receive}
use Rattle.tftp_loop.proofs.Waits.{mapped_at}
use Rattle.tftp_loop.proofs.NewStates.{same_noted, state_is, timer_is}

-- the port is left for a while after an opening or progress: it is read again soon, and if that is at its deadline,
-- the interval is as short
pub record IsLeft (now : ℕ) (timer : Timer) : Type 0 where
  pub soon : timer.look_at ≤ now + look_after
  pub short : timer.look_at ≡ timer.deadline → (n : ℕ) → now ≤ n → deadline_of n timer.interval ≤ n + look_after

-- a port is marked, drained, or may be left for a while
pub data IsLooked (events : List SocketEvent) (now : ℕ) (timer : Timer) : Type 0 where
  Marked : timer.marked ≡ true → IsLooked events now timer
  Drained : is_drained timer.port events ≡ true → IsLooked events now timer
  Left : IsLeft now timer → IsLooked events now timer

-- a port without a mark is drained, or looked at soon
pub looked_at_rest : (timer : Timer) (events : List SocketEvent) (now : ℕ) → timer.marked ≡ false → IsLooked events now timer
    → (is_drained timer.port events ≡ true) ⊎ (timer.look_at ≤ now + look_after)
looked_at_rest timer events now unmarked looked = search rules

-- if the interval is so short, each wait is
short_wait : (n interval wait : ℕ) → wait ≤ 8 * interval → deadline_of n interval ≤ n + look_after
    → deadline_of n wait ≤ n + look_after
short_wait n interval wait most short = omega (arith, most, short)

-- a timer that starts, or that progress restarts
left_now : (now : ℕ) (timer : Timer) → timer.deadline ≡ deadline_of now (wait_in timer)
    → timer.look_at ≡ next_look now (wait_in timer) → IsLeft now timer
left_now now timer due look = search rules

-- what an event leaves that drains no port of a transfer
still : (es fs : List SocketEvent) (now : ℕ) (timer : Timer)
    → (is_drained timer.port es ≡ true → is_drained timer.port fs ≡ true) → IsLooked es now timer
    → IsLooked fs now timer
still es fs now timer on looked = search rules

all_still : (es fs : List SocketEvent) (now : ℕ) (timers : List Timer)
    → All (λ (timer : Timer). is_drained timer.port es ≡ true → is_drained timer.port fs ≡ true) timers
    → All (IsLooked es now) timers → All (IsLooked fs now) timers
all_still es fs now timers on looked k d h = still es fs now (slice_index_or timers k d) (on k d h) (looked k d h)

later : (es : List SocketEvent) (now n : ℕ) (timer : Timer) → now ≤ n → IsLooked es now timer → IsLooked es n timer
later es now n timer h looked = search rules

after_datagram : (es : List SocketEvent) (now : ℕ) (progress : Bool) (timer : Timer)
    → IsLooked es now (timer_after now progress timer)
after_datagram es now progress timer = search rules

after_timeout : (es fs : List SocketEvent) (now : ℕ) (again : Bool) (timer : Timer) → timer.look_at ≡ timer.deadline
    → (is_drained timer.port es ≡ true → is_drained timer.port fs ≡ true)
    → IsLooked es now timer → IsLooked fs now (restarted now again timer)
after_timeout es fs now again timer looked on before =
    search (rules, timeouts_after, short_wait, wait_of, wait_most)

-- a reading of the clock sets a provisional deadline
set_left : (now time : ℕ) (b : Bool) (timer : Timer) → now ≤ time → IsLeft now timer
    → IsLeft time (record timer { deadline = deadline_by time b timer; provisional = false })
set_left now time b timer h l = search rules

set_looked : (es : List SocketEvent) (now : ℕ) (watch : Watch) (timer : Timer) → now ≤ watch.now → IsLooked es now timer
    → IsLooked (Watched watch ∷ es) watch.now (set_by watch.now timer)
set_looked es now watch timer h (Marked m) = Marked m
set_looked es now watch timer h (Drained d) = Drained d
set_looked es now watch timer h (Left l) = Left (set_left now watch.now timer.provisional timer h l)

-- to read the clock leaves each port so
pub read_looked : (es : List SocketEvent) (now : ℕ) (watch : Watch) (timers : List Timer) → now ≤ watch.now
    → All (IsLooked es now) timers → All (IsLooked (Watched watch ∷ es) watch.now) (map (set_by watch.now) timers)
read_looked es now watch timers h looked k d within =
    search (rules, length-map, set_by, length, mapped_at, set_looked, slice_index_or)

-- a wait marks the ports that it reports
woken : (es : List SocketEvent) (now millis : ℕ) (ports : List ℕ) (timer : Timer) (among : Bool)
    → is_among timer.port ports ≡ among → IsLooked es now timer
    → IsLooked (Quiet (Woke ports) ∷ Quiet (Slept millis) ∷ es) now (marked_by ports timer)
woken es now millis ports timer among e looked = search rules

-- each port of a transfer is marked, drained or left for a while
abbrev pub AreLooked : {S F D : Type 0} → LoopState S F D → Type 0
AreLooked s = All (IsLooked s.events s.now) s.timers

module _ {S F D : Type 0} (meaning : StoreMeaning S D) (sources : SourceMeaning F) where
  at_own : (now : ℕ) (old new : PortState S F D) → PortStep meaning sources now old new
      → IsLooked old.events now old.timer → IsLooked new.events now new.timer
  at_own now old new (A_datagram d) h = rw (d.timer) (after_datagram new.events now d.step.progress old.timer)
  at_own now old new (Nothing_found d) h =
      rw (d.timer) (Drained (ap (is_drained old.timer.port) d.events
      ∙ own_receive old.timer.port (is_drained old.timer.port old.events)))
  at_own now old new (A_timeout d) h =
      rw (d.timer) (after_timeout old.events new.events now (is_some d.step.to) old.timer d.looked
      (λ k. same_noted (is_drained old.timer.port) (λ p t bs es. refl) (A_timeout d) ∙ k) h)
  at_own now old new (A_missed_timeout d) h =
      rw (d.timer) (after_timeout old.events new.events now false old.timer d.looked
      (λ k. ap (is_drained old.timer.port) d.events ∙ k) h)
  at_own now old new (Work d) h = rw (d.timer, d.events) h
  at_own now old new does h = rw (timer_is does) (Marked refl)

  -- what comes at the request port drains no other and leaves each drained that was
  at_requests : (s : LoopState S F D) → All (λ (timer : Timer). timer.port ≢ s.requests) s.timers
      → All (λ (timer : Timer). is_drained timer.port s.events ≡ true
      → (not (s.requests == timer.port) && is_drained timer.port s.events) ≡ true) s.timers
  at_requests s own k d h = search rules

  -- a step of the loop leaves each port marked, drained or left for a while
  pub step_looked : (s t : LoopState S F D) → LoopStep meaning sources s t
      → All (λ (timer : Timer). timer.port ≢ s.requests) s.timers → HavePortsApart s.timers → AreLooked s → AreLooked t
  step_looked s t (Waited d) own apart looked =
      let read = Watched d.watch ∷ s.events in
      let after = Quiet (Woke d.ports) ∷ Quiet (Slept d.millis) ∷ read in
      let set = map (set_by d.watch.now) s.timers in
      let were = read_looked s.events s.now d.watch s.timers d.by.forward looked in
      subst AreLooked (sym d.is)
      (λ k e h.
      let long = length-map set (marked_by d.ports) in
      let within : k < length set = omega (arith, long, h) in
      let timer = slice_index_or set k e in
      subst (IsLooked after d.watch.now) (sym (mapped_at (marked_by d.ports) set k e within))
      (woken read d.watch.now d.millis d.ports timer (is_among timer.port d.ports) refl (were k e within)))
  step_looked s t (Clock_read d) own apart looked =
      subst AreLooked (sym d.is)
      (λ k e h.
      let timer = slice_index_or s.timers k e in
      still s.events (Watched d.watch ∷ s.events) d.watch.now timer (λ was. was)
      (later s.events s.now d.watch.now timer d.by.forward (looked k e h)))
  step_looked s t (At_port d) own apart looked =
      subst AreLooked (sym d.is)
      (replaced_all (IsLooked d.next.events s.now) s.timers d.index d.next.timer d.within
      (λ k e h other.
      let timer = slice_index_or s.timers k e in
      still s.events d.next.events s.now timer
      (port_drained meaning sources timer.port s.now (port_state s d.timer) d.next d.does
      (λ same. other_port s.timers d.index d.timer k e apart d.within d.is_timer h other (sym same)))
      (looked k e h))
      (at_own s.now (port_state s d.timer) d.next d.does
      (subst (IsLooked s.events s.now) (sym d.is_timer) (looked d.index d.timer d.within))))
  step_looked s t (Request_noted d) own apart looked =
      subst AreLooked (sym d.is)
      (all_still s.events _ s.now s.timers
      (λ k e h was. note_drained _ (is_drained _ s.events) d.note ∙ was) looked)
  step_looked s t (Request_answered d) own apart looked =
      subst AreLooked (sym d.is)
      (all_opened (IsLooked _ s.now) s d.from d.left.opened.tid d.left.new.held
      (all_still s.events _ s.now s.timers
      (λ k e h. replied_drained _ _ d.left.opened.to d.left.sent s.events) looked)
      (if_any d.left.opened.tid (λ port. Left (left_now s.now _ refl refl))))
  step_looked s t (Transfer_closed d) own apart looked =
      subst AreLooked (sym d.is)
      (all_still s.events _ s.now (swap_remove s.timers d.index d.timer) (λ k e h was. was)
      (removed_all (IsLooked s.events s.now) s.timers d.index d.timer d.within (λ k e h other. looked k e h)))
  step_looked s t (No_request_found d) own apart looked =
      subst AreLooked (sym d.is)
      (all_still s.events _ s.now s.timers
      (λ k e h. either_drained (s.requests == (slice_index_or s.timers k e).port) _) looked)
  step_looked s t (Request_received d) own apart looked =
      subst AreLooked (sym d.is) (all_still s.events _ s.now s.timers (at_requests s own) looked)
  step_looked s t (Request_not_received d) own apart looked =
      subst AreLooked (sym d.is) (all_still s.events _ s.now s.timers (at_requests s own) looked)
  step_looked s t does own apart looked =
      subst AreLooked (sym (state_is does)) (all_still s.events _ s.now s.timers (λ k e h was. was) looked)
