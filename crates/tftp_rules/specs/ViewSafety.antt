-- When the ends of some views are safe.
use Rattle.std.specs.Prelude.{◌≡◌, ◌≢◌, ℕ, List, length, slice_get, Some}
use Rattle.std.specs.List.{Contains}
use Rattle.tftp_rules.specs.Machine.{Endpoint, Elsewhere, Message, Network}
use Rattle.tftp_rules.specs.Safety.{SafetyView, AreSafe}
use Rattle.tftp_rules.specs.Shows.{EndView}

-- the end is one of them
abbrev pub IsAmong : List EndView → EndView → Type 0
IsAmong views e = (k : ℕ) × (slice_get views k ≡ Some e)

-- what is claimed of a view: its text, which is committed once the end is complete
abbrev pub safety_view : EndView → SafetyView
safety_view e =
    record {
      address = e.address;
      client = e.client;
      sender = e.sender;
      mode = e.mode;
      peer = e.peer;
      size = e.size;
      complete = e.complete;
      sent = e.text;
      length = length e.text;
      has = e.text;
      committed = e.complete;
    }

module _ (network : Network) where
  -- the transfers between these ends are safe; an endpoint elsewhere is a stranger's
  abbrev pub IsSafeViews : List EndView → Type 0
  IsSafeViews views = AreSafe safety_view (IsAmong views) (λ p. network.host_of p ≢ Elsewhere)

  -- if only the server and its clients have sent datagrams, every peer is at one of them
  abbrev pub PeersAtHome : List EndView → List Message → Type 0
  PeersAtHome views messages =
      ((d : Message) → Contains messages d → network.host_of d.from ≢ Elsewhere) →
      (x : EndView) (p : Endpoint) → IsAmong views x → x.peer ≡ Some p →
      network.host_of p ≢ Elsewhere
