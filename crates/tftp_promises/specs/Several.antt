-- Several servers that share an address and a request port, each with a trace of its own, and
-- their clients. A request may come to any of the servers, and a repeated one to two: the client
-- takes the first that answers, and the other closes (RFC 1350, section 4).
use Rattle.std.specs.Prelude.{ℕ, ◌≡◌, List, Some, [], slice_get, ◌∷◌, ◌++◌, if◌then◌else◌, length}
use Rattle.std.specs.Prelude.{map, suc, option_to_list, ◌+◌}
use Rattle.tftp_promises.specs.Common.{SourceMeaning, StoreMeaning, Endpoint, SinkMeaning, LoopStep}
use Rattle.tftp_promises.specs.Common.{LoopState, SocketEvent, Run, Sent, Then, Start}
use Rattle.tftp_promises.specs.Common.{Request_answered, is_same}
use Rattle.std.specs.Prelude.{zero}
use Rattle.tftp_promises.specs.Order.{Noted, IsHonestOf, IsStrangerTo, events_of}
use Rattle.tftp_promises.specs.Programs.{endpoint, has_port, ServerProgram, ClientProgram}
use Rattle.tftp_promises.specs.Programs.{client_at}

-- the ports from which a program sent
abbrev pub sent_from : List SocketEvent → List ℕ
sent_from [] = []
sent_from (Sent port to bytes ∷ events) = port ∷ sent_from events
sent_from (event ∷ events) = sent_from events

-- the ports that are not among these
abbrev pub apart_from : List ℕ → List ℕ → List ℕ
apart_from own [] = []
apart_from own (port ∷ ports) =
    if has_port own port then apart_from own ports else port ∷ apart_from own ports

module _ {S F D : Type 0} {stores : StoreMeaning S D} {sources : SourceMeaning F} where
  -- the ports of the transfers that a run opened for the client at this endpoint
  abbrev pub opened_for : Endpoint → {old new : LoopState S F D} → LoopStep stores sources old new
      → List ℕ
  opened_for a (Request_answered answers) =
      if is_same answers.from a then option_to_list answers.left.opened.tid else []
  opened_for a does = []

  abbrev pub ports_for : Endpoint → {first last : LoopState S F D}
      → Run (LoopStep stores sources) first last → List ℕ
  ports_for a Start = []
  ports_for a (Then run does) = opened_for a does ++ ports_for a run

  -- the ports from which these servers sent, and those without the one at this index
  abbrev pub all_sent_from : {to : Endpoint} → List (ServerProgram stores sources to) → List ℕ
  all_sent_from [] = []
  all_sent_from (server ∷ servers) = sent_from server.noted ++ all_sent_from servers

  abbrev pub others_sent_from : {to : Endpoint} → ℕ → List (ServerProgram stores sources to)
      → List ℕ
  others_sent_from i [] = []
  others_sent_from zero (server ∷ servers) = all_sent_from servers
  others_sent_from (suc i) (server ∷ servers) =
      sent_from server.noted ++ others_sent_from i servers

module _ {S F D G K : Type 0} (stores : StoreMeaning S D) (sources : SourceMeaning F)
    (inputs : SourceMeaning G) (outputs : SinkMeaning K) where
  -- servers at one address, with one request port, and their clients
  pub record Several : Type 0 where
    pub ip : List ℕ
    pub port : ℕ
    pub servers : List (ServerProgram stores sources (endpoint ip port))
    pub clients : List (ClientProgram inputs outputs (endpoint ip port))

module _ {S F D G K : Type 0} {stores : StoreMeaning S D} {sources : SourceMeaning F}
    {inputs : SourceMeaning G} {outputs : SinkMeaning K}
    (several : Several stores sources inputs outputs) where
  -- a server of them, and a client
  abbrev pub OneServer : Type 0
  OneServer = ServerProgram stores sources (endpoint several.ip several.port)

  abbrev pub OneClient : Type 0
  OneClient = ClientProgram inputs outputs (endpoint several.ip several.port)

  -- the number of the client at this index
  abbrev pub number_of : ℕ → ℕ
  number_of k = length several.servers + k

  -- the addresses of the programs
  abbrev pub ips_of : List (List ℕ)
  ips_of =
      map (λ (server : OneServer). several.ip) several.servers
      ++ map (λ (client : OneClient). client.ip) several.clients

  -- the order, the newest event first, has the events of each program in their own order
  pub record AreInOrder (order : List Noted) : Type 0 where
    pub servers : (i : ℕ) (server : OneServer) → slice_get several.servers i ≡ Some server →
        events_of i order ≡ server.noted
    pub clients : (k : ℕ) (client : OneClient) → slice_get several.clients k ≡ Some client →
        events_of (number_of k) order ≡ client.noted

  -- an honest network: what a program receives was sent to its endpoint before, by any of the
  -- programs, or is a stranger's, of another program at another address than theirs, or an ERROR.
  -- So what was sent to the request port may be received by any of the servers
  abbrev pub AreHonest : List Noted → Type 0
  AreHonest order = IsHonestOf ips_of (IsStrangerTo several.ip [] several.clients) order

  -- the ports of a server that the client knows: that of its requests, and of its transfers there
  abbrev pub known_ports : OneServer → OneClient → List ℕ
  known_ports server client =
      several.port ∷ ports_for (client_at client) server.run

  -- the other ports from which the other servers sent
  abbrev pub other_ports : ℕ → OneServer → OneClient → List ℕ
  other_ports i server client =
      apart_from (known_ports server client) (others_sent_from i several.servers)
