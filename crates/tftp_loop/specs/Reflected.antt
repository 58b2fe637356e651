-- How many datagrams a server sends to an endpoint, by how many it received from there: what a
-- request with a forged address can bring upon another (RFC 1350, section 2).
use Rattle.std.specs.Prelude.{ℕ, ◌≡◌, ◌≤◌, ◌+◌, ◌*◌, if◌then◌else◌, List, [], ◌∷◌, None}
use Rattle.tftp_file.specs.Source.{SourceMeaning}
use Rattle.tftp_ends.specs.Action.{same_endpoint}
use Rattle.tftp_ends.specs.declared.endpoint.Endpoint.{Endpoint}
use Rattle.tftp_store.specs.Store.{StoreMeaning}
use Rattle.tftp_sockets.specs.Trace.{SocketEvent}
use Rattle.tftp_sockets.specs.Trace.SocketEvent.{Received, Sent}
use Rattle.tftp_loop.specs.Run.{Run}
use Rattle.tftp_loop.specs.Steps.{LoopState, LoopStep}

-- how many datagrams were received from an endpoint, at whatever port
abbrev pub received_from : Endpoint → List SocketEvent → ℕ
received_from peer [] = 0
received_from peer (Received port from bytes ∷ events) =
    (if same_endpoint peer from then 1 else 0) + received_from peer events
received_from peer (event ∷ events) = received_from peer events

-- how many datagrams were sent to an endpoint, from whatever port
abbrev pub sent_to : Endpoint → List SocketEvent → ℕ
sent_to peer [] = 0
sent_to peer (Sent port to bytes ∷ events) =
    (if same_endpoint peer to then 1 else 0) + sent_to peer events
sent_to peer (event ∷ events) = sent_to peer events

-- from one trace to the other at most so many datagrams were sent to the endpoint for each that was
-- received from there
abbrev pub SendsAtMost : ℕ → Endpoint → List SocketEvent → List SocketEvent → Type 0
SendsAtMost most peer before after =
    sent_to peer after + most * received_from peer before
    ≤ sent_to peer before + most * received_from peer after

module _ {S F D : Type 0} (meaning : StoreMeaning S D) (sources : SourceMeaning F) where
  -- a datagram brings one answer at most, and perhaps progress, which restores the retries: each of
  -- these is one datagram more, if nothing comes. So it is one more than the retries at most
  abbrev pub ReflectsFew : Type 0
  ReflectsFew =
      (start now : LoopState S F D) → start.server.held ≡ [] → start.pending ≡ None
      → Run (LoopStep meaning sources) start now
      → (peer : Endpoint)
      → SendsAtMost (1 + start.server.config.retries) peer start.events now.events
