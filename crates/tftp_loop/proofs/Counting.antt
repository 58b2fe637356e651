-- How many datagrams are received at a port. For `a_server_receives_few_between_waits`, PortCounts and Visits.
use Rattle.std.proofs.Common.{rules}
use Rattle.tftp_loop.proofs.Common.{arith, ◌≡◌, ◌≤◌, ◌+◌, ℕ, [], refl, sym, subst, All, SourceMeaning, StoreMeaning}
use Rattle.tftp_loop.proofs.Common.{Run, Start, Then, Timer, PortState, LoopState, PortStep, LoopStep, most_in_round}
use Rattle.tftp_loop.proofs.Common.{port_state, Waited, At_port, Request_answered, Transfer_closed}
use Rattle.tftp_loop.specs.Fair.{received_in}
use Rattle.tftp_loop.proofs.LoopStays.{all_opened, if_any, removed_all, replaced_all}
use Rattle.tftp_loop.proofs.Waits.{all_waited}
use Rattle.tftp_loop.proofs.NewStates.{state_is}

module _ {S F D : Type 0} (meaning : StoreMeaning S D) (sources : SourceMeaning F) where
  -- each datagram is counted once
  abbrev Counts : PortState S F D → PortState S F D → Type 0
  Counts s t = t.timer.received + received_in s.events ≡ s.timer.received + received_in t.events

  counts : (now : ℕ) (s t : PortState S F D) → PortStep meaning sources now s t → Counts s t
  counts now s t does = search rules

  -- along a run at a port each datagram received there is counted once
  pub counted_along : (now : ℕ) (s t : PortState S F D) → Run (PortStep meaning sources now) s t → Counts s t
  counted_along now s t Start = refl
  counted_along now s t (Then {middle} run does) =
      omega (arith, counted_along now s middle run, counts now middle t does)

  -- ---- at all ports
  -- a port received few datagrams in this round
  abbrev pub IsFew : Timer → Type 0
  IsFew timer = timer.received ≤ most_in_round

  -- at each port few datagrams were received in this round
  abbrev pub AreFew : LoopState S F D → Type 0
  AreFew s = All IsFew s.timers

  -- a step at a port receives no more than a round allows
  pub port_few : (now : ℕ) (s t : PortState S F D) → PortStep meaning sources now s t → IsFew s.timer → IsFew t.timer
  port_few now s t does few = search rules

  step_few : (s t : LoopState S F D) → LoopStep meaning sources s t → AreFew s → AreFew t
  step_few s t (Waited d) few =
      subst AreFew (sym d.is) (all_waited IsFew d.watch.now d.ports s.timers (λ k e h. omega arith))
  step_few s t (At_port d) few =
      subst AreFew (sym d.is)
      (replaced_all IsFew s.timers d.index d.next.timer d.within (λ k e h apart. few k e h)
      (port_few s.now (port_state s d.timer) d.next d.does
      (subst IsFew (sym d.is_timer) (few d.index d.timer d.within))))
  step_few s t (Request_answered d) few =
      subst AreFew (sym d.is)
      (all_opened IsFew s d.from d.left.opened.tid d.left.new.held few (if_any d.left.opened.tid (λ port. omega arith)))
  step_few s t (Transfer_closed d) few =
      subst AreFew (sym d.is)
      (removed_all IsFew s.timers d.index d.timer d.within (λ k e h apart. few k e h))
  step_few s t does few = subst AreFew (sym (state_is does)) few

  -- nor does a run of the loop, at any port
  pub few_along : (start now : LoopState S F D) → start.timers ≡ [] → Run (LoopStep meaning sources) start now → AreFew now
  few_along start now none Start = subst (All IsFew) (sym none) (λ k d h. absurd (omega (arith, h)))
  few_along start now none (Then {middle} run does) = step_few _ _ does (few_along _ _ none run)
