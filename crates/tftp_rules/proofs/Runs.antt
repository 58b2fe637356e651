-- Every run of the machine preserves the invariant, and the invariant implies that it is safe. For
-- `every_run_is_safe`, four other files and the crate tftp_player.
use Rattle.tftp_rules.proofs.Common.{◌≡◌, List, refl, [], ◌∷◌, ◌++◌, std_rules, Holds, Network, Machine, start, Rule}
use Rattle.tftp_rules.proofs.Common.{after, run, IsLegal}
use Rattle.tftp_rules.specs.MachineSafety.{IsSafeMachine}
use Rattle.tftp_rules.proofs.Keeps.{keeps}

module _ (network : Network) where
  -- the invariant holds at the start
  pub Holds-start : Holds network start
  Holds-start = search std_rules

  -- a legal run keeps the invariant
  pub Holds-run : (rules : List Rule) (m : Machine) → Holds network m → IsLegal network rules m →
      Holds network (run network rules m)
  Holds-run [] m h g = h
  Holds-run (r ∷ rules) m h g = Holds-run rules (after network r m) (keeps network r m h g.0) g.2

  -- rules after rules
  pub run_then : (rs qs : List Rule) (m : Machine) → run network (rs ++ qs) m ≡ run network qs (run network rs m)
  run_then [] qs m = refl
  run_then (r ∷ rs) qs m = run_then rs qs (after network r m)

  -- one legal run after another is a legal run
  pub legal_then : (rs qs : List Rule) (m : Machine) → IsLegal network rs m → IsLegal network qs (run network rs m) →
      IsLegal network (rs ++ qs) m
  legal_then [] qs m g h = h
  legal_then (r ∷ rs) qs m g h = (g.0, g.1, legal_then rs qs (after network r m) g.2 h)

  -- a machine with the invariant is safe
  pub IsSafeMachine-holds : (m : Machine) → Holds network m → IsSafeMachine network m
  IsSafeMachine-holds m h = search std_rules
