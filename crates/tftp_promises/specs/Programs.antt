-- The programs of a network: servers and their clients, each with its address, its run, and what
-- the run noted in its trace (RFC 1350, section 4).
use Rattle.std.specs.Prelude.{ℕ, ◌≡◌, List, [], ◌∷◌, true, ◌++◌, false, None, if◌then◌else◌, Bool}
use Rattle.std.specs.Prelude.{◌==◌, not, ◌&&◌}
use Rattle.tftp_promises.specs.Common.{SourceMeaning, StoreMeaning, Endpoint, SinkMeaning, LoopStep}
use Rattle.tftp_promises.specs.Common.{LoopState, SocketEvent, Run, EndState, State, Files, begun}
use Rattle.tftp_promises.specs.Common.{Mode, Sink, is_same, Backoff, Source, Packet, Network, Asked}
use Rattle.tftp_promises.specs.Common.{Read, request_of, At_server, At_client, Elsewhere}
use Rattle.tftp_wire.specs.declared.packet.Packet.TheVariants.{Write}
use Rattle.tftp_negotiate.specs.Ranges.{IsBlockSize}
use Rattle.tftp_ends.specs.Opening.{MayGet, MayPut, getting, putting}
use Rattle.tftp_rules.specs.Machine.{is_same_ip}
use Rattle.tftp_promises.specs.ClientRuns.{ClientRun}

-- the endpoint of a port at this address
abbrev pub endpoint : List ℕ → ℕ → Endpoint
endpoint ip port = record { ip = ip; port = port }

module _ {S F D : Type 0} (stores : StoreMeaning S D) (sources : SourceMeaning F) where
  -- a server, with the endpoint where its clients send their requests
  pub record ServerProgram (to : Endpoint) : Type 0 where
    -- it runs from its start, or from a later time, to its end state
    pub start : LoopState S F D
    pub last : LoopState S F D
    pub run : Run (LoopStep stores sources) start last
    -- the events of the run, the newest first
    pub noted : List SocketEvent
    pub is_noted : last.events ≡ noted ++ start.events
    -- its request port is that
    pub requests : start.requests ≡ to.port
    -- it begins without transfers, and no datagram is pending
    pub empty : start.server.held ≡ []
    pub idle : start.pending ≡ None
    pub max_block : IsBlockSize start.server.config.limits.max_block

  -- the end state of the server
  abbrev pub arrived : {to : Endpoint} → ServerProgram to → LoopState S F D
  arrived server = server.last

  -- what a server did since it held no transfer is the run of a program
  pub record IsServerRun (to : Endpoint) (start last : LoopState S F D) : Type 0 where
    pub server : ServerProgram to
    pub starts : server.start ≡ start
    pub arrives : server.last ≡ last

  abbrev pub ServersAreRuns : Type 0
  ServersAreRuns =
      (to : Endpoint) (start last : LoopState S F D) → Run (LoopStep stores sources) start last
      → start.requests ≡ to.port → start.server.held ≡ [] → start.pending ≡ None
      → IsBlockSize start.server.config.limits.max_block → IsServerRun to start last

-- whether it is one of the ports
abbrev pub has_port : List ℕ → ℕ → Bool
has_port [] port = false
has_port (other ∷ others) port = if port == other then true else has_port others port

-- whether an endpoint is at this address, and not at the port of another server there
abbrev pub is_at_server : List ℕ → List ℕ → Endpoint → Bool
is_at_server ip others a = is_same_ip a.ip ip && not (has_port others a.port)

module _ {G K : Type 0} (inputs : SourceMeaning G) (outputs : SinkMeaning K) (to : Endpoint) where
  -- a client's end that reads, with a valid request
  pub record OpensToRead (first : EndState) (file : Files G K) : Type 0 where
    pub name : List ℕ
    pub mode : Mode
    pub asked : Asked
    pub limit : ℕ
    pub retries : ℕ
    pub may : MayGet name mode asked
    pub is : first ≡ getting to name mode asked limit retries
    pub sink : K
    pub is_file : file ≡ Sink sink

  -- a client's end that writes a file of this length on the wire, with a valid request
  pub record OpensToWrite (first : EndState) (file : Files G K) : Type 0 where
    pub name : List ℕ
    pub mode : Mode
    pub asked : Asked
    pub length : ℕ
    pub limit : ℕ
    pub retries : ℕ
    pub may : MayPut name mode asked length
    pub is : first ≡ putting to name mode asked length limit retries
    pub source : G
    pub is_file : file ≡ Source source

  -- a client's end opens, to read or to write
  pub data ClientOpens (first : EndState) (file : Files G K) : Type 0 where
    To_read : OpensToRead first file → ClientOpens first file
    To_write : OpensToWrite first file → ClientOpens first file

  -- a client, from its request on, with the lines that it prints, and what it does after them; a
  -- program that tries again without options is two of them
  pub record ClientProgram : Type 0 where
    pub ip : List ℕ
    -- the port of its socket
    pub port : ℕ
    -- the reading of the clock at which its watch starts
    pub reading : ℕ
    -- how its waits grow
    pub backoff : Backoff
    pub first : EndState
    pub before : List SocketEvent
    pub last : State
    pub files : Files G K
    -- its file before the run
    pub file : Files G K
    pub runs : ClientRun inputs outputs port (begun backoff port reading first before) file last
        files
    pub opens : ClientOpens first file
    -- the events of the run, the newest first
    pub noted : List SocketEvent
    pub is_noted : last.events ≡ noted ++ before

module _ {G K : Type 0} {inputs : SourceMeaning G} {outputs : SinkMeaning K} {to : Endpoint} where
  -- a client's endpoint
  abbrev pub client_at : ClientProgram inputs outputs to → Endpoint
  client_at client = endpoint client.ip client.port

  -- whether it is the endpoint of a client
  abbrev pub has_client : List (ClientProgram inputs outputs to) → Endpoint → Bool
  has_client [] a = false
  has_client (client ∷ clients) a =
      if is_same a (client_at client) then true else has_client clients a

  -- the network of these clients and their server: an endpoint at the server's address is at the
  -- server, unless it is a client's or another server's, and the rest are elsewhere
  abbrev pub network_of : List ℕ → List (ClientProgram inputs outputs to) → Network
  network_of others clients =
      record {
        host_of = λ a.
            if has_client clients a then At_client
            else if is_at_server to.ip others a then At_server else Elsewhere;
        request_port = to;
      }

-- the name that a client asks for
abbrev pub name_of : {G K : Type 0} {inputs : SourceMeaning G} {outputs : SinkMeaning K}
    {to : Endpoint} {first : EndState} {file : Files G K}
    → ClientOpens inputs outputs to first file → List ℕ
name_of (To_read opens) = opens.name
name_of (To_write opens) = opens.name

-- its request
abbrev pub request_packet : {G K : Type 0} {inputs : SourceMeaning G} {outputs : SinkMeaning K}
    {to : Endpoint} {first : EndState} {file : Files G K}
    → ClientOpens inputs outputs to first file → Packet
request_packet (To_read opens) = Read (request_of opens.name opens.mode opens.asked)
request_packet (To_write opens) = Write (request_of opens.name opens.mode opens.asked)
