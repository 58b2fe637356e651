-- One of the servers and one of its clients, for which all other programs are strangers: the other
-- servers at the address, and the other clients. So the ports of one client's transfers may be
-- those of another's before and after it.
use Rattle.std.specs.List.{Contains}
use Rattle.std.specs.Prelude.{ℕ, ◌≡◌, List, Some, [], slice_get, ◌⊎◌, ◌∷◌, false, if◌then◌else◌}
use Rattle.std.specs.Prelude.{◌==◌, ◌≢◌}
use Rattle.tftp_promises.specs.Common.{SourceMeaning, StoreMeaning, Endpoint, SinkMeaning, Sent}
use Rattle.tftp_promises.specs.Common.{is_complete, Received, is_sender, begun}
use Rattle.std.proofs.Common.{refl}
use Rattle.tftp_promises.specs.AnyFiles.{IsEnd, KeepAnyFiles, ProgramEnd, has_of, peer_of}
use Rattle.tftp_promises.specs.ClientRuns.{Starts}
use Rattle.tftp_promises.specs.Joined.{AreJoined}
use Rattle.tftp_promises.specs.Openings.{ArePortsFresh}
use Rattle.tftp_promises.specs.Order.{Noted, Programs, IsError, IsStranger}
use Rattle.tftp_promises.specs.Others.{TakesOwn}
use Rattle.tftp_promises.specs.Programs.{endpoint, client_at}
use Rattle.tftp_promises.specs.Several.{Several, OneServer, OneClient, AreHonest, AreInOrder}
use Rattle.tftp_promises.specs.Several.{known_ports, number_of, other_ports}

-- of an order, the events of the server and of the client of these numbers, which are the only ones
-- then
abbrev pub heard_with : ℕ → ℕ → List Noted → List Noted
heard_with server client [] = []
heard_with server client (e ∷ order) =
    if e.0 == server then (0, e.1) ∷ heard_with server client order
    else if e.0 == client then (1, e.1) ∷ heard_with server client order
    else heard_with server client order

module _ {S F D G K : Type 0} {stores : StoreMeaning S D} {sources : SourceMeaning F}
    {inputs : SourceMeaning G} {outputs : SinkMeaning K}
    (several : Several stores sources inputs outputs) where
  -- the endpoint of a client
  abbrev pub there : OneClient several → Endpoint
  there client = client_at client

  -- the network of the server at this index and this client
  abbrev pub alone : ℕ → OneServer several → OneClient several
      → Programs stores sources inputs outputs
  alone i server client =
      record {
        ip = several.ip;
        port = several.port;
        server = server;
        others = other_ports several i server client;
        clients = client ∷ [];
      }

  -- the programs noted the events of this order, over an honest network, and of these two the ports
  -- are fresh
  pub record AreAmong (order : List Noted) (i : ℕ) (server : OneServer several) (k : ℕ)
      (client : OneClient several) : Type 0 where
    pub is_order : AreInOrder several order
    pub honest : AreHonest several order
    -- the other clients are strangers to them
    pub others : (j : ℕ) (x : OneClient several) → slice_get several.clients j ≡ Some x → j ≢ k →
        IsStranger (alone i server client) (there x)
    -- no two of the client's transfers at this server have one port, and the client is at none of
    -- them
    pub fresh : ArePortsFresh (alone i server client)
    -- no other server sends to the client from one of them, or from its request port, but ERRORs,
    -- and none is at the client's endpoint
    pub apart : (j : ℕ) (x : OneServer several) (port : ℕ) (to : Endpoint) (bytes : List ℕ) →
        slice_get several.servers j ≡ Some x → j ≢ i → Contains x.noted (Sent port to bytes) →
        Contains (known_ports several server client) port →
        (to.ip ≡ several.ip) ⊎ (to ≡ there client) → IsError bytes
    pub away : (port : ℕ) → Contains (other_ports several i server client) port →
        there client ≢ endpoint several.ip port

  -- of the answers of all servers the client takes none but this one's
  abbrev pub TakesIts : ℕ → OneServer several → OneClient several → Type 0
  TakesIts i server client =
      TakesOwn several.ip (other_ports several i server client) client.runs

  -- the server serves the client
  pub record IsServed (order : List Noted) (i : ℕ) (server : OneServer several) (k : ℕ)
      (client : OneClient several) : Type 0 where
    pub among : AreAmong order i server k client
    pub own : TakesIts i server client

  -- the server is passed over: the client takes another, and sends to this one nothing but its
  -- request and ERRORs
  pub record IsPassedOver (order : List Noted) (i : ℕ) (server : OneServer several) (k : ℕ)
      (client : OneClient several) : Type 0 where
    pub among : AreAmong order i server k client
    pub refused : (port : ℕ) (bytes : List ℕ) →
        Contains server.noted (Received port (there client) bytes) →
        ((port ≡ several.port) × (bytes ≡ client.first.position.last_sent)) ⊎ IsError bytes

  -- the client when it has sent its request
  abbrev pub just_asking : OneClient several → OneClient several
  just_asking client =
      record client {
        last = begun client.backoff client.port client.reading client.first client.before;
        files = client.file;
        runs = Starts;
        noted =
            Sent client.port client.first.position.last_sent_to client.first.position.last_sent
            ∷ [];
        is_noted = refl;
      }

  -- a server's transfer whose peer is this client has nothing of its file, and is not complete
  pub record HasNothing (client : OneClient several)
      (programs : Programs stores sources inputs outputs) : Type 0 where
    pub empty : (x : ProgramEnd) → IsEnd programs x → peer_of x ≡ Some (there client) →
        is_sender x.state.role.side ≡ false → has_of x ≡ []
    pub incomplete : (x : ProgramEnd) → IsEnd programs x → peer_of x ≡ Some (there client) →
        is_complete x.state.position.phase ≡ false

module _ {S F D G K : Type 0} (stores : StoreMeaning S D) (sources : SourceMeaning F)
    (inputs : SourceMeaning G) (outputs : SinkMeaning K) where
  -- a server and each client that it serves so are joined
  abbrev pub EachIsJoined : Type 0
  EachIsJoined =
      (several : Several stores sources inputs outputs) (order : List Noted) (i : ℕ)
      (server : OneServer several) (k : ℕ) (client : OneClient several)
      → slice_get several.servers i ≡ Some server → slice_get several.clients k ≡ Some client
      → IsServed several order i server k client
      → AreJoined (alone several i server client) (heard_with i (number_of several k) order)

  -- this is so of a server and each client that it serves
  abbrev pub OfEachServed : (Programs stores sources inputs outputs → Type 0) → Type 0
  OfEachServed Holds =
      (several : Several stores sources inputs outputs) (order : List Noted)
      (i : ℕ) (server : OneServer several) (k : ℕ) (client : OneClient several)
      → slice_get several.servers i ≡ Some server → slice_get several.clients k ≡ Some client
      → IsServed several order i server k client → Holds (alone several i server client)

  -- they keep the promises, over any files
  abbrev pub EachKeepsAnyFiles : Type 0
  EachKeepsAnyFiles = OfEachServed KeepAnyFiles

  -- a client takes no server's answer, or the answers of one port: those of the server that has the
  -- port for it. So its own trace and those of the servers decide which one serves it
  abbrev pub EachTakesOne : Type 0
  EachTakesOne =
      (several : Several stores sources inputs outputs) (client : OneClient several)
      → ((i : ℕ) (server : OneServer several) → TakesIts several i server client)
      ⊎ ((port : ℕ) × ((i : ℕ) (server : OneServer several)
      → Contains (known_ports several server client) port → TakesIts several i server client))

  -- of a server that is passed over: so do its transfers, and none with the client has anything.
  -- The client has sent its request then, and no more
  abbrev pub OthersHaveNothing : Type 0
  OthersHaveNothing =
      (several : Several stores sources inputs outputs) (order : List Noted)
      (i : ℕ) (server : OneServer several) (k : ℕ) (client : OneClient several)
      → slice_get several.servers i ≡ Some server → slice_get several.clients k ≡ Some client
      → IsPassedOver several order i server k client
      → KeepAnyFiles (alone several i server (just_asking several client))
      × HasNothing several client (alone several i server (just_asking several client))
