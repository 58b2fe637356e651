-- When a world is safe, in the bytes of its hosts.
use Rattle.std.specs.Prelude.{◌≡◌, ◌≢◌, ℕ, ◌+◌, Bool, true, false, List, length, slice_get, Some}
use Rattle.std.specs.Prelude.{Ok}
use Rattle.std.specs.List.{Contains}
use Rattle.tftp_player.specs.Common.{Spells, Request, path_of_name, is_sender, is_client, Side}
use Rattle.tftp_player.specs.Common.{host_of, request_port, At_server, Elsewhere, requested}
use Rattle.tftp_player.specs.Common.{Endpoint}
use Rattle.tftp_rules.specs.Safety.{SafetyView, AreSafe}
use Rattle.tftp_player.specs.World.{WorldState, WorldEnd, ip_of, end_record, end_address, end_mode}
use Rattle.tftp_player.specs.World.{end_path, end_file, end_stored, end_committed, end_request}
use Rattle.tftp_player.specs.World.{file_at, datagram, is_closed}

-- the end was opened in this world
abbrev pub IsIn : WorldState → WorldEnd → Type 0
IsIn w x = (k : ℕ) × (slice_get w.ends k ≡ Some x)

-- the end has this endpoint as its peer
abbrev pub HasPeer : WorldEnd → Endpoint → Type 0
HasPeer x p = (end_record x).peer ≡ Some p

-- the end sends
abbrev pub IsSender : WorldEnd → Type 0
IsSender x = is_sender (end_record x).side ≡ true

-- the end receives
abbrev pub IsReceiver : WorldEnd → Type 0
IsReceiver x = is_sender (end_record x).side ≡ false

-- the end reports that it is complete
abbrev pub IsComplete : WorldEnd → Type 0
IsComplete x = (end_record x).complete ≡ true

-- the endpoint of an end of this side that was opened at this index
abbrev pub endpoint_of_end : Side → ℕ → Endpoint
endpoint_of_end side k = record { ip = ip_of side; port = 1024 + k }

-- what is claimed of an end: its file, or what it has stored
abbrev pub safety_of : WorldEnd → SafetyView
safety_of x =
    record {
      address = end_address x;
      client = is_client (end_record x).side;
      sender = is_sender (end_record x).side;
      mode = end_mode x;
      peer = (end_record x).peer;
      size = (end_record x).size;
      complete = (end_record x).complete;
      sent = end_file x;
      length = length (end_file x);
      has = end_stored x;
      committed = end_committed x;
    }

-- a request, to write or to read, was sent from this endpoint to the request port
abbrev pub HasRequested : WorldState → Endpoint → Bool → Request → Type 0
HasRequested w a write request =
    (bytes : List ℕ) × Contains w.sent (datagram a request_port bytes)
    × Spells (requested write request) bytes

-- an end of the server serves the client at this endpoint: it has it as its peer, and was opened by
-- the one request that the client sent, for the path of the name in it
pub record AnswersClient (w : WorldState) (client : Endpoint) (y : WorldEnd) : Type 0 where
  pub is_in : IsIn w y
  pub server : is_client (end_record y).side ≡ false
  pub peer : HasPeer y client
  pub write : Bool
  pub request : Request
  pub asked : HasRequested w client write request
  pub only : (also : Bool) (other : Request) → HasRequested w client also other →
      (also ≡ write) × (other ≡ request)
  -- a closed end has no request
  pub opened : is_closed y ≡ false → Spells (requested write request) (end_request y)
  pub path : path_of_name request.name ≡ Ok (end_path y)

-- what holds of every world, whatever its network did
pub record IsSafe (w : WorldState) : Type 0 where
  -- the end at index k is at its host's address, at port 1024 + k
  pub at_address : (k : ℕ) (x : WorldEnd) → slice_get w.ends k ≡ Some x
      → end_address x ≡ endpoint_of_end (end_record x).side k
  -- no two ends share an endpoint
  pub unique : (x y : WorldEnd) → IsIn w x → IsIn w y → end_address x ≡ end_address y → x ≡ y
  -- the transfers are safe; an endpoint at neither host is a stranger's
  pub transfers : AreSafe safety_of (IsIn w) (λ p. host_of p ≢ Elsewhere)
  -- a client's peer is at the server
  pub at_server : (x : WorldEnd) (p : Endpoint) → IsIn w x → is_client (end_record x).side ≡ true
      → HasPeer x p → host_of p ≡ At_server
  -- where an end of the server serves it: the file that it asked for
  pub served : (x : WorldEnd) (p : Endpoint) → IsIn w x → is_client (end_record x).side ≡ true →
      HasPeer x p → (y : WorldEnd) × (end_address y ≡ p) × AnswersClient w (end_address x) y
  -- what the server sends is under its path, and so is what a complete receiver of the server has
  -- stored, unless writes may replace files
  pub is_from_path : w.overwrite ≡ false → (x : WorldEnd) → IsIn w x → IsSender x →
      is_client (end_record x).side ≡ false → file_at w.files (end_path x) ≡ Some (end_file x)
  pub is_at_path : w.overwrite ≡ false → (x : WorldEnd) → IsIn w x → IsReceiver x → IsComplete x →
      is_client (end_record x).side ≡ false → file_at w.files (end_path x) ≡ Some (end_stored x)

-- every peer is at one of the two hosts, so that every clause holds of every transfer
abbrev pub HasPeersAtHome : WorldState → Type 0
HasPeersAtHome w = (x : WorldEnd) (p : Endpoint) → IsIn w x → HasPeer x p → host_of p ≢ Elsewhere
