-- A server that drains receives nothing at its request port. For `a_server_that_drains_only_finishes`.
use Rattle.std.proofs.Common.{rules}
use Rattle.tftp_loop.proofs.Common.{◌≡◌, ap, SourceMeaning, StoreMeaning, Run, Start, Then, LoopState, LoopStep}
use Rattle.tftp_loop.specs.declared.drain.Drain.TheVariants.{Begun, Never}
use Rattle.tftp_loop.specs.Draining.{DrainsByASignal, FinishesWork, Finishes_by, IsFinishing, OnlyFinishes}
use Rattle.tftp_loop.specs.Steps.{drain_of}

module _ {S F D : Type 0} (meaning : StoreMeaning S D) (sources : SourceMeaning F) where
  -- ---- once it drains
  step_finishes : (s t : LoopState S F D) (does : LoopStep meaning sources s t) → s.drain ≡ Begun
      → IsFinishing meaning sources does × (t.drain ≡ Begun)
  step_finishes s t does begun = search rules

  finishes_along : (s t : LoopState S F D) → s.drain ≡ Begun → Run (LoopStep meaning sources) s t
      → Run (FinishesWork meaning sources) s t × (t.drain ≡ Begun)
  finishes_along s t begun Start = (Start, begun)
  finishes_along s t begun (Then {middle} run does) =
      let was = finishes_along s middle begun run in
      let now = step_finishes middle t does was.1 in
      (Then was.0 (Finishes_by does now.0), now.1)

  -- from the beginning of the drain on, each step only finishes work
  pub only_finishes : OnlyFinishes meaning sources
  only_finishes old drains last begins run = search (rules, finishes_along)

  -- ---- without a signal
  step_never : (s t : LoopState S F D) → LoopStep meaning sources s t → s.drain ≡ Never → t.drain ≡ Never
  step_never s t does never = search rules

  -- without the option to drain no run begins to
  pub drains_by_a_signal : DrainsByASignal meaning sources
  drains_by_a_signal config port reading server before last none Start = ap drain_of none
  drains_by_a_signal config port reading server before last none (Then {middle} run does) =
      step_never middle last does (drains_by_a_signal config port reading server before middle none run)
