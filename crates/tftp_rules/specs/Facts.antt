-- The inductive invariant of the guarded machine, which implies that it is safe.
use Rattle.std.specs.Prelude.{◌≡◌, ◌≢◌, ◌*◌, ◌<◌, ◌≤◌, Bool, true, false, not, [], length, take}
use Rattle.std.specs.Prelude.{None, Some}
use Rattle.std.specs.List.{Contains}
use Rattle.tftp_negotiate.specs.declared.limits.TheConstants.{DEFAULT_BLOCK}
use Rattle.tftp_file.specs.Block.{block, IsPrefixOf}
use Rattle.tftp_rules.specs.Machine.{Endpoint, Host, At_server, At_client, Elsewhere}
use Rattle.tftp_rules.specs.Machine.{Packet, Request, Data, Ack, Oack, Error, Message, Party}
use Rattle.tftp_rules.specs.Machine.{Machine, Network}

-- where a client's end is, and a server's
abbrev pub home : Bool → Host
home true = At_client
home false = At_server

-- what a datagram to `to` implies for the end x that sent it
abbrev pub Attests : Party → Endpoint → Packet → Type 0
Attests x to (Request write request) =
    record {
      is_open : x.is_open ≡ true;
      client : x.client ≡ true;
      sender : x.sender ≡ write;
      mode : x.mode ≡ request.mode;
      request : x.request ≡ request;
    }
Attests x to (Data n bytes) =
    record {
      is_open : x.is_open ≡ true;
      sender : x.sender ≡ true;
      peer : x.peer ≡ Some to;
      first : 1 ≤ n;
      number : n ≤ x.number;
      bytes : bytes ≡ block x.text x.size n;
    }
Attests x to (Ack n) =
    record {
      is_open : x.is_open ≡ true;
      sender : x.sender ≡ false;
      peer : x.peer ≡ Some to;
      number : n ≤ x.number;
      plain : n ≡ 0 → x.client ≡ false → x.plain ≡ true;
    }
Attests x to (Oack size) =
    record {
      is_open : x.is_open ≡ true;
      client : x.client ≡ false;
      plain : x.plain ≡ false;
      peer : x.peer ≡ Some to;
      size : x.size ≡ size;
    }
Attests x to Error = Unit {0}

-- y is the peer of x, the client at this endpoint
pub record IsServing (a : Endpoint) (x y : Party) : Type 0 where
  pub is_open : y.is_open ≡ true
  pub client : y.client ≡ false
  pub peer : y.peer ≡ Some a
  pub size : y.size ≡ x.size
  pub mode : y.mode ≡ x.mode
  pub sender : y.sender ≡ not x.sender
  pub request : y.request ≡ x.request

-- y is the peer of x, a server's end
pub record HasAsked (x y : Party) : Type 0 where
  pub is_open : y.is_open ≡ true
  pub client : y.client ≡ true
  pub mode : y.mode ≡ x.mode
  pub sender : y.sender ≡ not x.sender
  pub request : y.request ≡ x.request

-- the text of a receiver x, by its peer's text
pub record HasReceived (x y : Party) : Type 0 where
  pub prefix : IsPrefixOf x.text y.text
  pub whole : x.complete ≡ true → x.text ≡ y.text
  pub so_far : x.complete ≡ false → x.failed ≡ false → x.text ≡ take (x.number * x.size) y.text
  pub room : x.complete ≡ false → x.number * x.size ≤ length y.text

module _ (network : Network) where
  -- what holds of the open end x at this endpoint; of a peer elsewhere nothing is known
  pub record IsSoundParty (ends : Endpoint → Party) (a : Endpoint) (x : Party) : Type 0 where
    -- its address is that of its kind
    pub at_home : network.host_of a ≡ home x.client
    pub positive : 0 < x.size
    -- without a peer the transfer has not begun
    pub no_peer : x.peer ≡ None →
        (x.number ≡ 0) × (x.complete ≡ false) × (x.sender ≡ false → x.text ≡ [])
    -- a client's peer is an end of the server that serves it
    pub serving : x.client ≡ true → (p : Endpoint) → x.peer ≡ Some p →
        (network.host_of p ≡ At_server) × IsServing a x (ends p)
    -- an end of the server has a peer
    pub has_peer : x.client ≡ false → (p : Endpoint) × (x.peer ≡ Some p)
    -- and the peer is a client that sent the request
    pub asked : x.client ≡ false → (p : Endpoint) → x.peer ≡ Some p →
        network.host_of p ≢ Elsewhere → HasAsked x (ends p)
    -- an end that was opened without options has blocks of 512 bytes
    pub plain : x.client ≡ false → x.plain ≡ true → x.size ≡ DEFAULT_BLOCK
    -- a server's sender that was opened with options begins after its peer has it as its own peer
    pub begun : x.client ≡ false → x.sender ≡ true → x.plain ≡ false → 1 ≤ x.number →
        (p : Endpoint) → x.peer ≡ Some p → network.host_of p ≢ Elsewhere → (ends p).peer ≡ Some a
    -- a receiver has blocks of its peer's text
    pub received : x.sender ≡ false → (p : Endpoint) → x.peer ≡ Some p →
        network.host_of p ≢ Elsewhere → HasReceived x (ends p)
    -- the peer of an end that is complete has it as its own peer
    pub returned : x.complete ≡ true → (p : Endpoint) → x.peer ≡ Some p →
        network.host_of p ≢ Elsewhere → (ends p).peer ≡ Some a
    -- and that of a sender is complete
    pub ended : x.sender ≡ true → x.complete ≡ true → (p : Endpoint) → x.peer ≡ Some p →
        network.host_of p ≢ Elsewhere → (ends p).complete ≡ true

  -- every open end is sound, and every datagram of the server and its clients is true of its
  -- sender
  pub record Holds (m : Machine) : Type 0 where
    pub ends : (a : Endpoint) → (m.party a).is_open ≡ true → IsSoundParty m.party a (m.party a)
    pub attested : (d : Message) → Contains m.sent d → network.host_of d.from ≢ Elsewhere →
        Attests (m.party d.from) d.to d.packet
