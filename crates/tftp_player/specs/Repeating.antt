-- A request that repeats that of an open transfer opens no end (RFC 1350, section 4).
use Rattle.std.specs.Prelude.{◌≡◌, ◌<◌, ℕ, Bool, false, List, length, slice_get, Some}
use Rattle.tftp_player.specs.Common.{Spells, Packet, request_port, Event, Report, Endpoint}
use Rattle.tftp_wire.specs.declared.packet.Packet.TheVariants.{Read, Write}
use Rattle.tftp_player.specs.Requests.{Repeats, AnyRepeats}
use Rattle.tftp_player.specs.World.{WorldState, WorldEnd, is_closed, no_report}
use Rattle.tftp_player.specs.WorldKept.{Refines}
use Rattle.tftp_player.specs.WorldSteps.{Delivery, WorldStep}

-- only these two packets ask for a transfer
abbrev pub AsksForTransfer : Packet → Type 0
AsksForTransfer (Read request) = Unit {0}
AsksForTransfer (Write request) = Unit {0}
AsksForTransfer packet = ⊥

-- the request port ignores a request that opened a transfer still open, from the same endpoint:
-- nothing is sent, and no end opens or changes
abbrev pub RepeatsOpenNothing : Type 0
RepeatsOpenNothing =
    (strangers : Bool) (old new : WorldState) (from : Endpoint) (packet : Packet) (bytes : List ℕ)
    (report : Report) →
    Refines strangers old → AsksForTransfer packet → Spells packet bytes →
    AnyRepeats from packet old.ends →
    Delivery old from request_port bytes report new → (report ≡ no_report) × (new ≡ old)

-- a request to the request port: it repeats that of no open end before, and that of one after
pub record IsNewRequest (from to : Endpoint) (bytes : List ℕ) (old new : WorldState) : Type 0 where
  pub packet : Packet
  pub asks : AsksForTransfer packet
  pub spells : Spells packet bytes
  pub at_port : to ≡ request_port
  pub before : AnyRepeats from packet old.ends → ⊥
  pub now : AnyRepeats from packet new.ends

-- a datagram that opens an end is such a request
abbrev pub OnlyNewRequestsOpen : Type 0
OnlyNewRequestsOpen =
    (old new : WorldState) (from to : Endpoint) (bytes : List ℕ) (report : Report) →
    Delivery old from to bytes report new → length old.ends < length new.ends →
    IsNewRequest from to bytes old new

-- a repeat of the request of an end remains one after each event, while the end is open
abbrev pub RequestsLast : Type 0
RequestsLast =
    (old new : WorldState) (event : Event) (report : Report) (from : Endpoint) (packet : Packet)
    (k : ℕ) (x y : WorldEnd) →
    WorldStep old event report new → slice_get old.ends k ≡ Some x → Repeats from packet x →
    slice_get new.ends k ≡ Some y → is_closed y ≡ false → Repeats from packet y
