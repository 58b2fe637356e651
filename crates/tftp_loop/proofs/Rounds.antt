-- A round lasts a second at most, by the clock of the program. For Expiring.
use Rattle.std.proofs.Common.{rules}
use Rattle.tftp_loop.proofs.Common.{arith, ◌≤◌, ◌+◌, ◌⊎◌, ℕ, inl, inr, SourceMeaning, StoreMeaning, LONGEST_WAIT}
use Rattle.tftp_loop.proofs.Common.{LoopState, LoopStep, Waits, round_end, Waited, IsNoWait}

module _ {S F D : Type 0} (meaning : StoreMeaning S D) (sources : SourceMeaning F) where
  -- a step is a wait or not
  pub wait_or_work : (s t : LoopState S F D) (does : LoopStep meaning sources s t)
      → Waits meaning sources s t ⊎ IsNoWait meaning sources does
  wait_or_work s t (Waited d) = inl d
  wait_or_work s t does = inr tt

  -- the time since the round before the newest wait began, or since the beginning: a second at most
  pub record InRound (since : ℕ) (s : LoopState S F D) : Type 0 where
    pub soon : s.now ≤ since + LONGEST_WAIT
    pub limit : round_end s.now s.limit ≤ since + LONGEST_WAIT
    pub from : since ≤ s.now

  -- a round begins now
  pub begins_round : (s : LoopState S F D) → InRound s.now s
  begins_round s = omega arith

  -- the round after a wait
  pub next_round : (since : ℕ) (s t : LoopState S F D) → Waits meaning sources s t → InRound since s → InRound s.now t
  next_round since s t d round = search rules

  -- a step without a wait stays within the round
  pub step_round : (since : ℕ) (s t : LoopState S F D) (does : LoopStep meaning sources s t)
      → IsNoWait meaning sources does → InRound since s → InRound since t
  step_round since s t does is round = search rules
