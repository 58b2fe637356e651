-- The request port of a world's server: the server's tests, over the world's files.
use Rattle.std.specs.Prelude.{ℕ, Bool, false, not, List, count_by, Option, Some, None, Result, Ok}
use Rattle.std.specs.Prelude.{Err}
use Rattle.tftp_player.specs.Common.{Mode, Packet, is_client, Service, OpenEnd, peer_of, Endpoint}
use Rattle.tftp_file.specs.declared.fault.StoreFault.{StoreFault}
use Rattle.tftp_file.specs.declared.fault.StoreFault.TheVariants.{Missing, Exists}
use Rattle.tftp_server.specs.Port.{Ask, answered, service as service_by}
use Rattle.tftp_server.specs.State.{WasRequested, AnyByRecursion, RepeatsOne}
use Rattle.tftp_store.specs.Store.{measured}
use Rattle.tftp_player.specs.World.{WorldState, WorldEnd, Open_end, Closed_end, file_at, in_the_way}

-- an open end of the server
abbrev pub is_transfer : WorldEnd → Bool
is_transfer (Open_end x) = not (is_client x.state.role.side)
is_transfer (Closed_end x) = false

-- how many transfers the server holds
abbrev pub open_transfers : List WorldEnd → ℕ
open_transfers ends = count_by is_transfer ends

-- the measured length of the opened file; measuring stops at a length that no block size could
-- carry
abbrev pub opened_of : Mode → Option (List ℕ) → Result ℕ StoreFault
opened_of mode None = Err Missing
opened_of mode (Some file) = Ok (measured mode file)

-- a draft begins if no file is in its way
abbrev pub begun_of : Option (List ℕ) → Result (Unit {0}) StoreFault
begun_of None = Ok tt
begun_of (Some file) = Err Exists

-- the service for what the port asks of its store
abbrev pub served : WorldState → Ask → Service
served w ask =
    answered w.limits (λ path mode. opened_of mode (file_at w.files path))
    (λ path. begun_of (in_the_way w.overwrite (file_at w.files path))) ask

-- the service for a datagram, by whether it repeats the request of an open transfer: that of a
-- server with this store
abbrev pub service : WorldState → Bool → List ℕ → Option Packet → Service
service w repeated bytes decoded =
    service_by w.limits (λ path mode. opened_of mode (file_at w.files path))
    (λ path. begun_of (in_the_way w.overwrite (file_at w.files path))) w.cap
    (open_transfers w.ends) repeated bytes decoded

-- an end of the server was requested from there by a datagram that spells this packet; a client's
-- end is left out
abbrev pub WasAskedBy : Endpoint → Packet → OpenEnd → Type 0
WasAskedBy from packet x =
    WasRequested (is_client x.state.role.side) (peer_of x.state.position.phase) x.request from
    packet

-- the same of an end that is open
abbrev pub Repeats : Endpoint → Packet → WorldEnd → Type 0
Repeats from packet (Open_end x) = WasAskedBy from packet x
Repeats from packet (Closed_end x) = ⊥

-- the same of one of the ends
abbrev pub AnyRepeats : Endpoint → Packet → List WorldEnd → Type 0
AnyRepeats from packet ends = AnyByRecursion (Repeats from packet) ends

-- whether a datagram repeats the request of an open transfer
abbrev pub IsRepeated : Bool → Endpoint → Option Packet → List WorldEnd → Type 0
IsRepeated repeated from decoded ends = RepeatsOne (Repeats from) repeated decoded ends
