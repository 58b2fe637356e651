-- What a datagram of neither host leaves unchanged (RFC 1350, section 4).
use Rattle.std.specs.Prelude.{◌≡◌, ◌≢◌, ℕ, Bool, true, List, slice_get, Some}
use Rattle.tftp_player.specs.Common.{is_client, host_of, At_server, Elsewhere, Stray, Report}
use Rattle.tftp_player.specs.Common.{Endpoint}
use Rattle.tftp_player.specs.World.{WorldState, WorldEnd, end_record}
use Rattle.tftp_player.specs.WorldKept.{Refines}
use Rattle.tftp_player.specs.WorldSafety.{IsIn, HasPeer}
use Rattle.tftp_player.specs.WorldSteps.{WorldStep}

-- no stranger is the peer of the end
abbrev pub HasNoStranger : WorldEnd → Type 0
HasNoStranger x = (p : Endpoint) → HasPeer x p → host_of p ≢ Elsewhere

-- the record of the end at index k is unchanged
abbrev pub IsRecordedSo : WorldState → ℕ → WorldEnd → Type 0
IsRecordedSo w k x = (y : WorldEnd) × (slice_get w.ends k ≡ Some y) × (end_record y ≡ end_record x)

-- a stray changes no record, except of an end that a stranger's own request opened
abbrev pub StraysChangeNoRecord : Type 0
StraysChangeNoRecord =
    (strangers : Bool) (old new : WorldState) (from to : Endpoint) (bytes : List ℕ)
    (report : Report) (k : ℕ) (x : WorldEnd) →
    Refines strangers old → WorldStep old (Stray from to bytes) report new →
    slice_get old.ends k ≡ Some x → HasNoStranger x →
    IsRecordedSo new k x

-- a client's peer is at the server, so it is no stranger
abbrev pub ClientsHaveServers : Type 0
ClientsHaveServers =
    (strangers : Bool) (w : WorldState) (x : WorldEnd) (p : Endpoint) →
    Refines strangers w → IsIn w x → is_client (end_record x).side ≡ true → HasPeer x p →
    host_of p ≡ At_server
