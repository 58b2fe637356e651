-- How an end closes whose peer is at one of the two hosts: never because of what that peer sent.
use Rattle.std.specs.Prelude.{ℕ, ◌≡◌, ◌≢◌, ◌⊎◌, ⊤, List, slice_get, Some}
use Rattle.std.specs.List.{Contains}
use Rattle.tftp_player.specs.Common.{Spells, Outcome, host_of, Elsewhere, Datagram, Endpoint}
use Rattle.tftp_wire.specs.declared.packet.Packet.TheVariants.{Error}
use Rattle.tftp_ends.specs.declared.outcome.Outcome.TheVariants as outcomes
use Rattle.tftp_player.specs.Recovering.{IsReached}
use Rattle.tftp_player.specs.World.{WorldState, ClosedEnd, WorldEnd, Closed_end, end_address}
use Rattle.tftp_player.specs.World.{end_record}
use Rattle.tftp_player.specs.WorldSafety.{IsIn, HasPeer}

-- an outcome that blames the peer for what it sent, or the end's own source
abbrev pub Blames : Outcome → Type 0
Blames outcomes.Illegal = ⊤
Blames outcomes.NotNetascii = ⊤
Blames outcomes.TooLarge = ⊤
Blames (outcomes.Refused refusal) = ⊤
Blames outcomes.Complete = ⊥
Blames outcomes.TimedOut = ⊥
Blames (outcomes.PeerError code) = ⊥
Blames outcomes.StoreFault = ⊥
Blames outcomes.SourceFault = ⊤

-- in every world that events can lead to, no end has closed by blaming a peer at one of the two
-- hosts
abbrev pub NoneIsBlamed : Type 0
NoneIsBlamed =
    (w : WorldState) (k : ℕ) (x : ClosedEnd) (p : Endpoint) (outcome : Outcome) →
    IsReached w → slice_get w.ends k ≡ Some (Closed_end x) → x.recorded.peer ≡ Some p →
    host_of p ≢ Elsewhere → x.recorded.outcome ≡ Some outcome → Blames outcome → ⊥

-- an end of which an ERROR to its peer was sent has closed because its store refused, if the peer
-- is at one of the two hosts
abbrev pub OnlyRefusalsAreTold : Type 0
OnlyRefusalsAreTold =
    (w : WorldState) (d : Datagram) (code : ℕ) (text : List ℕ) (k : ℕ) (z : WorldEnd) →
    IsReached w → Contains w.sent d → Spells (Error code text) d.bytes →
    slice_get w.ends k ≡ Some z → end_address z ≡ d.from → HasPeer z d.to →
    host_of d.to ≢ Elsewhere →
    (end_record z).outcome ≡ Some outcomes.StoreFault

-- why an end may close whose peer is `y`: it is complete, no retry was left, its store refused, or
-- an ERROR 3 or 6 of its peer says that the peer's store refused (RFC 1350, appendix I)
abbrev pub MayCloseAs : WorldEnd → Outcome → Type 0
MayCloseAs y outcomes.Complete = ⊤
MayCloseAs y outcomes.TimedOut = ⊤
MayCloseAs y outcomes.StoreFault = ⊤
MayCloseAs y (outcomes.PeerError code) =
    ((code ≡ 3) ⊎ (code ≡ 6)) × ((end_record y).outcome ≡ Some outcomes.StoreFault)
MayCloseAs y outcomes.Illegal = ⊥
MayCloseAs y outcomes.NotNetascii = ⊥
MayCloseAs y outcomes.TooLarge = ⊥
MayCloseAs y (outcomes.Refused refusal) = ⊥
MayCloseAs y outcomes.SourceFault = ⊥

-- of two ends that are each other's peers one closes as complete, as timed out, because its store
-- refused or the other's did, and as nothing else
abbrev pub EstablishedEndsCloseSo : Type 0
EstablishedEndsCloseSo =
    (w : WorldState) (k : ℕ) (x : ClosedEnd) (y : WorldEnd) (outcome : Outcome) →
    IsReached w → slice_get w.ends k ≡ Some (Closed_end x) → IsIn w y →
    HasPeer (Closed_end x) (end_address y) → HasPeer y x.address →
    x.recorded.outcome ≡ Some outcome → MayCloseAs y outcome

-- some end has closed by an ERROR 3 of its peer
abbrev pub SomeEndIsRefused : Type 0
SomeEndIsRefused =
    (w : WorldState) × (k : ℕ) × (x : ClosedEnd) × (y : WorldEnd) × IsReached w
    × (slice_get w.ends k ≡ Some (Closed_end x)) × IsIn w y
    × HasPeer (Closed_end x) (end_address y) × HasPeer y x.address
    × (x.recorded.outcome ≡ Some (outcomes.PeerError 3))
