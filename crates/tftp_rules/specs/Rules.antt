-- The rules of the guarded machine: a rule may act whenever its guard holds.
use Rattle.std.specs.Prelude.{◌≡◌, ℕ, ◌+◌, ◌<◌, ◌≤◌, Bool, true, false, not, nat_lt, if◌then◌else◌}
use Rattle.std.specs.Prelude.{List, [], ◌∷◌, ◌++◌, length, None, Some, ◌⊎◌}
use Rattle.std.specs.List.{Contains}
use Rattle.tftp_negotiate.specs.declared.limits.TheConstants.{DEFAULT_BLOCK}
use Rattle.tftp_wire.specs.declared.packet.Request.{Request as WireRequest}
use Rattle.tftp_file.specs.Block.{block, block_count, Fits}
use Rattle.tftp_rules.specs.Machine.{Endpoint, At_server, At_client, Elsewhere}
use Rattle.tftp_rules.specs.Machine.{Packet, Request, Data, Ack, Oack, Error}
use Rattle.tftp_rules.specs.Machine.{Message, Party, nobody, Machine, with_end, Network}
pub use Rattle.tftp_rules.specs.Machine.{start}

-- the rules: `at` is the endpoint of the acting end, and `peer` that of the other end
pub data Rule : Type 0 where
  -- a client opens and sends its request (RFC 1350, section 4)
  Asks : (at : Endpoint) (write : Bool) → WireRequest → (text : List ℕ) → Rule
  -- a request opens an end at the server, which answers by DATA 1 or ACK 0 (RFC 1350, section 4)
  Opens_plainly : (at peer : Endpoint) (write : Bool) → WireRequest → (text : List ℕ) → Rule
  -- a request opens an end at the server, which answers by an OACK (RFC 2347, "Negotiation
  -- Protocol")
  Opens_with : (at peer : Endpoint) (write : Bool) → WireRequest → (text : List ℕ) → (size : ℕ)
      → Rule
  -- a waiting client accepts an OACK, and answers by DATA 1 or ACK 0 (RFC 2347, "Negotiation
  -- Protocol")
  Takes_oack : (at peer : Endpoint) (size : ℕ) → Rule
  -- a waiting writer accepts ACK 0, and answers by DATA 1
  Takes_ack : (at peer : Endpoint) → Rule
  -- a waiting reader accepts the sender of DATA 1 as its peer, and stores nothing yet
  Takes_data : (at peer : Endpoint) → (bytes : List ℕ) → Rule
  -- a receiver stores the next block and acknowledges it (RFC 1350, section 2)
  Appends : (at peer : Endpoint) → (bytes : List ℕ) → Rule
  -- a sender whose newest block is acknowledged sends the next one (RFC 1350, section 2)
  Sends_next : (at peer : Endpoint) → Rule
  -- a sender whose last block is acknowledged is complete (RFC 1350, section 6)
  Completes : (at peer : Endpoint) → Rule
  -- an end fails
  Fails : (at : Endpoint) → Rule
  -- a receiver fails after it has stored some of the next block
  Fails_with : (at peer : Endpoint) → (bytes : List ℕ) → Rule
  -- a waiting writer accepts its peer, and fails before it sends DATA 1
  Fails_to_begin : (at peer : Endpoint) (size : ℕ) → Rule
  -- an ERROR is sent from any endpoint to any endpoint (RFC 1350, section 7)
  Says_error : (at to : Endpoint) → Rule
  -- a datagram is repeated
  Repeats : Message → Rule
  -- any datagram is sent from elsewhere
  Strays : Message → Rule

-- a datagram
abbrev pub message : Endpoint → Endpoint → Packet → Message
message from to packet = record { from = from; to = to; packet = packet }

-- open, and neither complete nor failed
abbrev pub IsLive : Party → Type 0
IsLive x = (x.is_open ≡ true) × (x.complete ≡ false) × (x.failed ≡ false)

-- the next block of the receiver x was sent to it
abbrev pub IsNext : List Message → Party → Endpoint → Endpoint → List ℕ → Type 0
IsNext sent x at peer bytes =
    IsLive x × (x.sender ≡ false) × (x.peer ≡ Some peer)
    × Contains sent (message peer at (Data (x.number + 1) bytes)) × (length bytes ≤ x.size)

-- the newest block of the sender x is acknowledged
abbrev pub IsAcked : List Message → Party → Endpoint → Endpoint → Type 0
IsAcked sent x at peer =
    IsLive x × (x.sender ≡ true) × (x.peer ≡ Some peer)
    × Contains sent (message peer at (Ack x.number))

-- the peer answered a write by an OACK with this block size, or by ACK 0
abbrev pub HasAccepted : List Message → Endpoint → Endpoint → ℕ → Type 0
HasAccepted sent at peer size =
    Contains sent (message peer at (Oack size))
    ⊎ ((size ≡ DEFAULT_BLOCK) × Contains sent (message peer at (Ack 0)))

-- a new end at the server has a text only if it sends; the blocks of the text can be numbered
abbrev pub HasText : Bool → List ℕ → ℕ → Type 0
HasText true text size = text ≡ []
HasText false text size = Fits text size

-- a client after its request
abbrev pub asking : Bool → WireRequest → List ℕ → Party
asking write request text =
    record nobody {
      is_open = true;
      client = true;
      sender = write;
      mode = request.mode;
      request = request;
      text = text;
    }

-- a server's end at its opening
abbrev pub opened : Bool → Endpoint → Bool → WireRequest → List ℕ → ℕ → ℕ → Party
opened plain peer write request text size number =
    record nobody {
      is_open = true;
      sender = not write;
      plain = plain;
      mode = request.mode;
      request = request;
      peer = Some peer;
      size = size;
      number = number;
      text = text;
    }

-- a client after it has accepted a peer and a block size
abbrev pub taken : Party → Endpoint → ℕ → Party
taken x peer size = record x { peer = Some peer; size = size; number = if x.sender then 1 else 0 }

-- a receiver after it has stored the next block
abbrev pub appended : Party → List ℕ → Party
appended x bytes =
    record x {
      number = x.number + 1;
      complete = nat_lt (length bytes) x.size;
      text = x.text ++ bytes;
    }

-- the endpoint of the acting end
abbrev pub actor : Rule → Endpoint
actor (Asks at write request text) = at
actor (Opens_plainly at peer write request text) = at
actor (Opens_with at peer write request text size) = at
actor (Takes_oack at peer size) = at
actor (Takes_ack at peer) = at
actor (Takes_data at peer bytes) = at
actor (Appends at peer bytes) = at
actor (Sends_next at peer) = at
actor (Completes at peer) = at
actor (Fails at) = at
actor (Fails_with at peer bytes) = at
actor (Fails_to_begin at peer size) = at
actor (Says_error at to) = at
actor (Repeats old) = old.from
actor (Strays stray) = stray.from

-- the acting end, after the rule
abbrev pub party_after : Rule → Party → Party
party_after (Asks at write request text) x = asking write request text
party_after (Opens_plainly at peer write request text) x =
    opened true peer write request text DEFAULT_BLOCK (if write then 0 else 1)
party_after (Opens_with at peer write request text size) x =
    opened false peer write request text size 0
party_after (Takes_oack at peer size) x = taken x peer size
party_after (Takes_ack at peer) x = taken x peer DEFAULT_BLOCK
party_after (Takes_data at peer bytes) x = taken x peer DEFAULT_BLOCK
party_after (Appends at peer bytes) x = appended x bytes
party_after (Sends_next at peer) x = record x { number = x.number + 1 }
party_after (Completes at peer) x = record x { complete = true }
party_after (Fails at) x = record x { failed = true }
party_after (Fails_with at peer bytes) x = record x { failed = true; text = x.text ++ bytes }
party_after (Fails_to_begin at peer size) x =
    record x { peer = Some peer; size = size; failed = true }
party_after r x = x

-- this request of this client opened the end
pub record IsOpenedBy (x : Party) (peer : Endpoint) (write : Bool)
    (request : WireRequest) : Type 0 where
  pub is_open : x.is_open ≡ true
  pub server : x.client ≡ false
  pub sender : x.sender ≡ not write
  pub peer_is : x.peer ≡ Some peer
  pub request_is : x.request ≡ request

-- every end that this request of this client opened is complete or failed
abbrev pub AreOver : Machine → Endpoint → Bool → WireRequest → Type 0
AreOver m peer write request =
    (a : Endpoint) → IsOpenedBy (m.party a) peer write request
    → ((m.party a).complete ≡ true) ⊎ ((m.party a).failed ≡ true)

-- a request opens an end only if every end that it opened before is complete or failed
abbrev pub OpensNoDuplicate : Rule → Machine → Type 0
OpensNoDuplicate (Opens_plainly at peer write request text) m = AreOver m peer write request
OpensNoDuplicate (Opens_with at peer write request text size) m = AreOver m peer write request
OpensNoDuplicate r m = Unit {0}

module _ (network : Network) where
  -- a client that waits for its first answer, from any port of the server
  abbrev pub Waits : Party → Endpoint → Type 0
  Waits x peer = IsLive x × (x.client ≡ true) × (x.peer ≡ None) × (network.host_of peer ≡ At_server)

  -- when the rule may act, by the datagrams sent and the acting end x
  abbrev pub MayAct : Rule → List Message → Party → Type 0
  MayAct (Asks at write request text) sent x =
      (x.is_open ≡ false) × (network.host_of at ≡ At_client) × (write ≡ false → text ≡ [])
  MayAct (Opens_plainly at peer write request text) sent x =
      (x.is_open ≡ false) × (network.host_of at ≡ At_server)
      × Contains sent (message peer network.request_port (Request write request))
      × HasText write text DEFAULT_BLOCK
  MayAct (Opens_with at peer write request text size) sent x =
      (x.is_open ≡ false) × (network.host_of at ≡ At_server)
      × Contains sent (message peer network.request_port (Request write request))
      × HasText write text size × (0 < size)
  MayAct (Takes_oack at peer size) sent x =
      Waits x peer × Contains sent (message peer at (Oack size))
      × (x.sender ≡ true → Fits x.text size)
  MayAct (Takes_ack at peer) sent x =
      Waits x peer × (x.sender ≡ true) × Contains sent (message peer at (Ack 0))
      × Fits x.text DEFAULT_BLOCK
  MayAct (Takes_data at peer bytes) sent x =
      Waits x peer × (x.sender ≡ false) × Contains sent (message peer at (Data 1 bytes))
  MayAct (Appends at peer bytes) sent x = IsNext sent x at peer bytes
  MayAct (Sends_next at peer) sent x =
      IsAcked sent x at peer × (x.number < block_count x.text x.size)
  MayAct (Completes at peer) sent x =
      IsAcked sent x at peer × (x.number ≡ block_count x.text x.size)
  MayAct (Fails at) sent x = IsLive x
  MayAct (Fails_with at peer bytes) sent x = IsNext sent x at peer bytes
  MayAct (Fails_to_begin at peer size) sent x =
      Waits x peer × (x.sender ≡ true) × HasAccepted sent at peer size
  MayAct (Says_error at to) sent x = Unit {0}
  MayAct (Repeats old) sent x = Contains sent old
  MayAct (Strays stray) sent x = network.host_of stray.from ≡ Elsewhere

  -- the datagrams that the rule sends, if the acting end was x
  abbrev pub packets : Rule → Party → List Message
  packets (Asks at write request text) x =
      message at network.request_port (Request write request) ∷ []
  packets (Opens_plainly at peer write request text) x =
      message at peer (if write then Ack 0 else Data 1 (block text DEFAULT_BLOCK 1)) ∷ []
  packets (Opens_with at peer write request text size) x = message at peer (Oack size) ∷ []
  packets (Takes_oack at peer size) x =
      message at peer (if x.sender then Data 1 (block x.text size 1) else Ack 0) ∷ []
  packets (Takes_ack at peer) x = message at peer (Data 1 (block x.text DEFAULT_BLOCK 1)) ∷ []
  packets (Appends at peer bytes) x = message at peer (Ack (x.number + 1)) ∷ []
  packets (Sends_next at peer) x =
      message at peer (Data (x.number + 1) (block x.text x.size (x.number + 1))) ∷ []
  packets (Says_error at to) x = message at to Error ∷ []
  packets (Repeats old) x = old ∷ []
  packets (Strays stray) x = stray ∷ []
  packets r x = []

  -- when the rule may act in the machine
  abbrev pub Guard : Rule → Machine → Type 0
  Guard r m = MayAct r m.sent (m.party (actor r))

  -- the machine, after the rule
  abbrev pub after : Rule → Machine → Machine
  after r m =
      record {
        sent = m.sent ++ packets r (m.party (actor r));
        party = with_end m.party (actor r) (party_after r (m.party (actor r)));
      }

  -- each rule may act after those before it
  abbrev pub IsLegal : List Rule → Machine → Type 0
  IsLegal [] m = Unit {0}
  IsLegal (r ∷ rs) m = Guard r m × OpensNoDuplicate r m × IsLegal rs (after r m)

  -- the machine, after the rules
  abbrev pub run : List Rule → Machine → Machine
  run [] m = m
  run (r ∷ rs) m = run rs (after r m)
