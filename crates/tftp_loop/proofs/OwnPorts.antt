-- No transfer has the request port. For Handling and Sleeping.
use Rattle.tftp_loop.proofs.Common.{arith, ◌≡◌, ℕ, [], sym, subst, All, SourceMeaning, StoreMeaning, Run, Start, Then}
use Rattle.tftp_loop.proofs.Common.{Timer, LoopState, LoopStep, port_state, Waited, At_port, Request_answered}
use Rattle.tftp_loop.proofs.Common.{Transfer_closed}
use Rattle.std.proofs.Common.{◌≢◌}
use Rattle.tftp_loop.proofs.RunLemmas.{onward}
use Rattle.tftp_loop.proofs.LoopStays.{all_opened, removed_all, replaced_all}
use Rattle.tftp_loop.proofs.PortStays.{stays_at}
use Rattle.tftp_loop.proofs.Waits.{all_waited}
use Rattle.tftp_loop.proofs.NewStates.{state_is}

-- the timer is of another port
abbrev pub IsOther : ℕ → Timer → Type 0
IsOther requests timer = timer.port ≢ requests

module _ {S F D : Type 0} (meaning : StoreMeaning S D) (sources : SourceMeaning F) where
  -- at each time of a run no transfer has the request port
  abbrev pub HasItsOwnPort : LoopState S F D → LoopState S F D → Type 0
  HasItsOwnPort first last =
      (now : LoopState S F D) → Run (LoopStep meaning sources) first now
      → Run (LoopStep meaning sources) now last
      → All (λ (timer : Timer). timer.port ≢ now.requests) now.timers

  abbrev AreOthers : LoopState S F D → Type 0
  AreOthers s = All (IsOther s.requests) s.timers

  step_others : (s t : LoopState S F D) → LoopStep meaning sources s t → AreOthers s → AreOthers t
  step_others s t (Waited d) others =
      subst AreOthers (sym d.is) (all_waited (IsOther s.requests) d.watch.now d.ports s.timers (λ k e h. others k e h))
  step_others s t (At_port d) others =
      subst AreOthers (sym d.is)
      (replaced_all (IsOther s.requests) s.timers d.index d.next.timer d.within (λ k e h apart. others k e h)
      (subst (λ (port : ℕ). port ≢ s.requests)
      (sym (stays_at meaning sources s.now (port_state s d.timer) d.next d.does).port)
      (subst (IsOther s.requests) (sym d.is_timer) (others d.index d.timer d.within))))
  step_others s t (Request_answered d) others =
      subst AreOthers (sym d.is)
      (all_opened (IsOther s.requests) s d.from d.left.opened.tid d.left.new.held others d.own)
  step_others s t (Transfer_closed d) others =
      subst AreOthers (sym d.is)
      (removed_all (IsOther s.requests) s.timers d.index d.timer d.within (λ k e h apart. others k e h))
  step_others s t does others = subst AreOthers (sym (state_is does)) others

  pub others_along : (start now : LoopState S F D) → start.timers ≡ [] → Run (LoopStep meaning sources) start now
      → AreOthers now
  others_along start now none Start =
      subst (All (IsOther start.requests)) (sym none) (λ k d h. absurd (omega (arith, h)))
  others_along start now none (Then {middle} run does) =
      step_others middle now does (others_along start middle none run)

  -- so it is at each time of a run, and from any time on
  pub own_from : (start first last : LoopState S F D) → start.timers ≡ [] → Run (LoopStep meaning sources) start first
      → HasItsOwnPort first last
  own_from start first last none before now begins ends =
      others_along start now none (onward before begins)
