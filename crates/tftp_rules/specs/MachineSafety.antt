-- When the guarded machine is safe.
use Rattle.std.specs.Prelude.{◌≡◌, ◌≢◌, true, [], Some}
use Rattle.tftp_rules.specs.Machine.{Endpoint, Elsewhere, Party, Machine, Network}
use Rattle.tftp_rules.specs.Safety.{SafetyView, AreSafe}
use Rattle.tftp_rules.specs.Shows.{view_of}
use Rattle.tftp_rules.specs.ViewSafety.{safety_view}

-- each of the two has the other as its peer
abbrev pub Established : (Endpoint → Party) → Endpoint → Endpoint → Type 0
Established ends x y =
    ((ends x).is_open ≡ true) × ((ends y).is_open ≡ true)
    × ((ends x).peer ≡ Some y) × ((ends y).peer ≡ Some x)

-- a transfer of some bytes from x to y is complete at both ends
pub record IsCompleted (m : Machine) (x y : Endpoint) : Type 0 where
  pub established : Established m.party x y
  pub sent : (m.party x).complete ≡ true
  pub received : (m.party y).complete ≡ true
  pub same : (m.party y).text ≡ (m.party x).text
  pub some : (m.party x).text ≢ []

-- what is claimed of the party x at this endpoint
abbrev pub party_view : Endpoint → Party → SafetyView
party_view a x = safety_view (view_of a [] x)

-- the transfers between the machine's open ends are safe; an endpoint elsewhere is a stranger's
abbrev pub IsSafeMachine : Network → Machine → Type 0
IsSafeMachine network m =
    AreSafe (λ a. party_view a (m.party a)) (λ a. (m.party a).is_open ≡ true)
    (λ p. network.host_of p ≢ Elsewhere)
