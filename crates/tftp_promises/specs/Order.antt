-- One order of all events of the programs, and a network that delivers only what was sent.
use Rattle.std.specs.List.{Contains}
use Rattle.std.specs.Prelude.{ℕ, ◌≡◌, List, Some, [], slice_get, ◌⊎◌, ◌∷◌, if◌then◌else◌, ◌==◌, map}
use Rattle.std.specs.Prelude.{◌≢◌, suc}
use Rattle.tftp_promises.specs.Common.{SourceMeaning, StoreMeaning, Endpoint, SinkMeaning}
use Rattle.tftp_promises.specs.Common.{SocketEvent, Sent, Received, Spells}
use Rattle.tftp_wire.specs.declared.packet.Packet.TheVariants.{Error}
use Rattle.tftp_promises.specs.Programs.{endpoint, ServerProgram, ClientProgram, client_at}

-- an event and its program, by a number: first the servers, by their indices, then the clients.
-- With one server, 0 is the server, and k + 1 the client at index k
abbrev pub Noted : Type 0
Noted = ℕ × SocketEvent

-- what one program noted of them
abbrev pub events_of : ℕ → List Noted → List SocketEvent
events_of program [] = []
events_of program (e ∷ order) =
    if e.0 == program then e.1 ∷ events_of program order else events_of program order

-- the bytes are an ERROR (RFC 1350, section 5)
abbrev pub IsError : List ℕ → Type 0
IsError bytes = (code : ℕ) × (text : List ℕ) × Spells (Error code text) bytes

module _ {G K : Type 0} {inputs : SourceMeaning G} {outputs : SinkMeaning K} {to : Endpoint} where
  -- a stranger: an endpoint of another program than these clients, at another address than the
  -- server's, or at a port there that another server has
  pub record IsStrangerTo (ip others : List ℕ) (all : List (ClientProgram inputs outputs to))
      (a : Endpoint) : Type 0 where
    pub server : a.ip ≡ ip → Contains others a.port
    pub clients : (k : ℕ) (client : ClientProgram inputs outputs to) →
        slice_get all k ≡ Some client → client_at client ≢ a

-- programs at these addresses, and which endpoints are strangers'
module _ (ips : List (List ℕ)) where
  -- the port is one of a program at this endpoint
  abbrev pub IsAtOf : ℕ → ℕ → Endpoint → Type 0
  IsAtOf program port a =
      (ip : List ℕ) × (slice_get ips program ≡ Some ip) × (a ≡ endpoint ip port)

  -- a program sent these bytes from this endpoint to that one
  pub record WasSentOf (earlier : List Noted) (from to : Endpoint) (bytes : List ℕ) : Type 0 where
    pub program : ℕ
    pub port : ℕ
    pub is_at : IsAtOf program port from
    pub sent : Contains earlier (program, Sent port to bytes)

  module _ (Strange : Endpoint → Type 0) where
    -- what a program receives was sent to it before, or is a stranger's, or is an ERROR: no promise
    -- rests on who sent one, and several servers send theirs from the request port that they share
    abbrev pub CanComeOf : ℕ → SocketEvent → List Noted → Type 0
    CanComeOf program (Received port from bytes) earlier =
        (to : Endpoint) × IsAtOf program port to
        × (WasSentOf earlier from to bytes ⊎ (Strange from ⊎ IsError bytes))
    CanComeOf program event earlier = Unit {0}

    -- an honest network: each datagram that was received was sent to that endpoint before, from the
    -- endpoint that it bears; it may arrive any number of times, in any order, or never. Those of
    -- strangers, and ERRORs, may arrive at any time, with any bytes
    abbrev pub IsHonestOf : List Noted → Type 0
    IsHonestOf [] = Unit {0}
    IsHonestOf (e ∷ earlier) = CanComeOf e.0 e.1 earlier × IsHonestOf earlier

module _ {S F D G K : Type 0} (stores : StoreMeaning S D) (sources : SourceMeaning F)
    (inputs : SourceMeaning G) (outputs : SinkMeaning K) where
  -- a server and its clients
  pub record Programs : Type 0 where
    -- the address of the server, and the port of its requests
    pub ip : List ℕ
    pub port : ℕ
    pub server : ServerProgram stores sources (endpoint ip port)
    -- the ports at its address that other servers have; none, if it is the only one
    pub others : List ℕ
    pub clients : List (ClientProgram inputs outputs (endpoint ip port))

module _ {S F D G K : Type 0} {stores : StoreMeaning S D} {sources : SourceMeaning F}
    {inputs : SourceMeaning G} {outputs : SinkMeaning K}
    (programs : Programs stores sources inputs outputs) where
  -- where the clients send their requests
  abbrev pub requests_at : Endpoint
  requests_at = endpoint programs.ip programs.port

  -- a client of these programs
  abbrev pub ClientOf : Type 0
  ClientOf = ClientProgram inputs outputs requests_at

  -- the order, the newest event first, has the events of each program in their own order
  pub record IsOrder (order : List Noted) : Type 0 where
    pub server : events_of 0 order ≡ programs.server.noted
    pub clients : (k : ℕ) (client : ClientOf) → slice_get programs.clients k ≡ Some client →
        events_of (suc k) order ≡ client.noted

  -- the addresses of the programs
  abbrev pub ips : List (List ℕ)
  ips = programs.ip ∷ map (λ client. client.ip) programs.clients

  abbrev pub IsAt : ℕ → ℕ → Endpoint → Type 0
  IsAt = IsAtOf ips

  abbrev pub WasSent : List Noted → Endpoint → Endpoint → List ℕ → Type 0
  WasSent = WasSentOf ips

  -- a stranger: an endpoint of another program, at another address than the server's, or at a
  -- port there that another server has
  abbrev pub IsStranger : Endpoint → Type 0
  IsStranger = IsStrangerTo programs.ip programs.others programs.clients

  -- what may come though no program sent it: a stranger's datagram, or an ERROR
  abbrev pub MayCome : Endpoint → List ℕ → Type 0
  MayCome from bytes = IsStranger from ⊎ IsError bytes

  -- what a program receives was sent to it before, or may come nevertheless
  abbrev pub CanCome : ℕ → SocketEvent → List Noted → Type 0
  CanCome = CanComeOf ips IsStranger

  -- an honest network
  abbrev pub IsHonest : List Noted → Type 0
  IsHonest = IsHonestOf ips IsStranger
