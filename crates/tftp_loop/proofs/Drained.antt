-- What a port that was drained says after a step at another. For Looking and Sleeping.
use Rattle.std.proofs.Common.{rules}
use Rattle.tftp_loop.proofs.Common.{◌≡◌, ◌||◌, ℕ, Bool, true, false, List, Option, refl, ◌∙◌, SourceMeaning, Endpoint}
use Rattle.tftp_loop.proofs.Common.{StoreMeaning, SocketEvent, replied, is_drained, PortState, PortStep}
use Rattle.tftp_loop.proofs.NewStates.{replied_same}

-- a port that was drained stays so when another datagram is sent
pub replied_drained : (r port : ℕ) (to : Option Endpoint) (bytes : List ℕ) (es : List SocketEvent) → is_drained r es ≡ true
    → is_drained r (replied port to bytes es) ≡ true
replied_drained r port to bytes es h = replied_same (is_drained r) (λ p t bs fs. refl) port to bytes es ∙ h

-- nothing at a port
pub either_drained : (own drained : Bool) → drained ≡ true → (own || drained) ≡ true
either_drained true drained h = refl
either_drained false drained h = h

module _ {S F D : Type 0} (meaning : StoreMeaning S D) (sources : SourceMeaning F) where
  -- a step at one port leaves another drained
  pub port_drained : (r now : ℕ) (old new : PortState S F D) → PortStep meaning sources now old new
      → (old.timer.port ≡ r → ⊥) → is_drained r old.events ≡ true → is_drained r new.events ≡ true
  port_drained r now old new does apart h = search rules
