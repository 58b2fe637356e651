-- The guarded machine: the datagrams that were ever sent, and the ends of all transfers.
use Rattle.std.specs.Prelude.{ℕ, ◌==◌, nat_eq, if◌then◌else◌, Bool, false, List, [], Option}
use Rattle.std.specs.Prelude.{None}
use Rattle.std.specs.Cmp.Lexicographic.{pointwise}
use Rattle.tftp_negotiate.specs.declared.limits.TheConstants.{DEFAULT_BLOCK}
use Rattle.tftp_wire.specs.declared.mode.Mode.{Mode}
use Rattle.tftp_wire.specs.declared.mode.Mode.TheVariants.{Octet}
use Rattle.tftp_wire.specs.declared.packet.Request.{Request as WireRequest}
pub use Rattle.tftp_ends.specs.declared.endpoint.Endpoint.{Endpoint}

-- whether the two addresses are the same
abbrev pub is_same_ip : List ℕ → List ℕ → Bool
is_same_ip a b = pointwise nat_eq a b

-- whether the two endpoints are the same
abbrev pub is_same : Endpoint → Endpoint → Bool
is_same a b = if is_same_ip a.ip b.ip then a.port == b.port else false

-- where an endpoint is: at the server, at a client, or elsewhere
pub data Host : Type 0 where
  At_server : Host
  At_client : Host
  Elsewhere : Host

-- a network: where each endpoint is, and the server's request port (RFC 1350, section 4)
pub record Network : Type 0 where
  pub host_of : Endpoint → Host
  pub request_port : Endpoint

-- the packet of a datagram, as the machine models it: the whole request, and the block size of an
-- OACK
pub data Packet : Type 0 where
  Request : (write : Bool) → WireRequest → Packet
  Data : (block : ℕ) → (bytes : List ℕ) → Packet
  Ack : (block : ℕ) → Packet
  Oack : (size : ℕ) → Packet
  Error : Packet

-- a datagram with its sender and its destination
pub record Message : Type 0 where
  pub from : Endpoint
  pub to : Endpoint
  pub packet : Packet

-- one end of a transfer
pub record Party : Type 0 where
  -- it was opened, and may have ended since
  pub is_open : Bool
  -- it sent the request
  pub client : Bool
  -- it sends the file
  pub sender : Bool
  -- a server's end that was opened without options
  pub plain : Bool
  pub mode : Mode
  -- the request that a client sent, or that opened a server's end
  pub request : WireRequest
  pub peer : Option Endpoint
  -- the block size, in bytes
  pub size : ℕ
  -- the number of the newest block that it sent or stored
  pub number : ℕ
  -- it completed
  pub complete : Bool
  -- it ended and did not complete
  pub failed : Bool
  -- a sender's wire text, or the part that a receiver has stored
  pub text : List ℕ

-- no request
abbrev pub no_request : WireRequest
no_request = record { name = []; mode = Octet; options = [] }

-- the party at an endpoint where no end was opened
abbrev pub nobody : Party
nobody =
    record {
      is_open = false;
      client = false;
      sender = false;
      plain = false;
      mode = Octet;
      request = no_request;
      peer = None;
      size = DEFAULT_BLOCK;
      number = 0;
      complete = false;
      failed = false;
      text = [];
    }

-- all that was ever sent, and the ends by their endpoints
pub record Machine : Type 0 where
  pub sent : List Message
  pub party : Endpoint → Party

-- nothing was sent, and no end is open
abbrev pub start : Machine
start = record { sent = []; party = λ _. nobody }

-- the ends, after the one at this endpoint became x
abbrev pub with_end : (Endpoint → Party) → Endpoint → Party → Endpoint → Party
with_end ends a x q = if is_same q a then x else ends q
