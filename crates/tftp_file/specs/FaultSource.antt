-- A source that ends early: the text that is left, and the fills that fail.
use Rattle.std.specs.Prelude.{ℕ, ◌≡◌, ◌<◌, Bool, true, List, length, take}

-- the wire text that is left, and whether a fill that requests more fails
pub record FaultSourceState : Type 0 where
  pub left : List ℕ
  pub fails : Bool

-- a source of the first bytes of a wire text
abbrev pub new_fault_source : List ℕ → ℕ → Bool → FaultSourceState
new_fault_source text give fails = record { left = take give text; fails = fails }

-- a fill returns Read: it requests more bytes than are left, and the source is set to fail
pub record FailsAt (source : FaultSourceState) (want : ℕ) : Type 0 where
  pub made : source.fails ≡ true
  pub short : length source.left < want
