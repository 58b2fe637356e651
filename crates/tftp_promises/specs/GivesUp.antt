-- When a client times out: all copies of one datagram were lost between it and the transfer that
-- serves it.
use Rattle.std.specs.Prelude.{ℕ, ◌≡◌, List, Some, [], slice_get, ◌⊎◌, ◌∷◌, true, ◌++◌, false}
use Rattle.std.specs.Prelude.{if◌then◌else◌, ◌==◌, ◌+◌, ◌≤◌}
use Rattle.tftp_promises.specs.Common.{SourceMeaning, StoreMeaning, Endpoint, SinkMeaning, LoopStep}
use Rattle.tftp_promises.specs.Common.{LoopState, SocketEvent, Run, Sent, is_complete, Received}
use Rattle.tftp_promises.specs.Common.{TransferState, Elapsed, outcome_of, at, Took, Spells, Lost}
use Rattle.tftp_promises.specs.Common.{IsOver, is_open, Packet, canonical}
use Rattle.tftp_ends.specs.Action.{same_address}
use Rattle.tftp_lives.specs.Lives.{Has, HasCopies}
use Rattle.tftp_lives.specs.Unanswered.{Awaits, HasSaid, IsUnanswered, IsUnheard}
use Rattle.tftp_ends.specs.declared.outcome.Outcome.TheVariants as outcomes
use Rattle.tftp_promises.specs.AnyFiles.{ServesClient, client_end, peer_of}
use Rattle.tftp_promises.specs.Joined.{AreJoined}
use Rattle.tftp_promises.specs.Lived.{AreNoted, AreNotedWhileOpen, IsLiving, acts_at, acts_in}
use Rattle.tftp_promises.specs.Order.{Noted, Programs, ClientOf, requests_at}
use Rattle.tftp_promises.specs.Programs.{client_at}

-- how many timeouts of this port the events have
abbrev pub elapsed : ℕ → List SocketEvent → ℕ
elapsed port [] = 0
elapsed port (Elapsed own time ∷ events) = (if own == port then 1 else 0) + elapsed port events
elapsed port (event ∷ events) = elapsed port events

module _ {S F D G K : Type 0} {stores : StoreMeaning S D} {sources : SourceMeaning F}
    {inputs : SourceMeaning G} {outputs : SinkMeaning K}
    (programs : Programs stores sources inputs outputs) where
  -- the server held the transfer at the port at this time of its run
  pub record WasHeld (port : ℕ) (transfer : TransferState F D) : Type 0 where
    pub state : LoopState S F D
    pub run : Run (LoopStep stores sources) programs.server.start state
    pub held : at port state.server.held ≡ Some transfer
    -- the events since then
    pub since : List SocketEvent
    pub is_since : programs.server.last.events ≡ since ++ state.events

  -- the client has its peer p, which is the transfer that serves it, and has given up unanswered by
  -- it
  pub record GaveUpUnanswered (client : ClientOf programs) (p : Endpoint) : Type 0 where
    pub serves : ServesClient programs p client
    pub was : WasHeld serves.port serves.transfer
    pub living : IsLiving stores sources (acts_at serves.port was.run) serves.transfer
    pub unanswered : IsUnanswered (client_at client) p client.last.end (acts_in client.runs)
        serves.transfer.end (acts_at serves.port was.run)
    -- these acts are just what the traces have of the two
    pub client_noted : AreNoted client.port client.before client.last.events (acts_in client.runs)
    pub server_noted : AreNotedWhileOpen serves.port programs.server.start.events was.state.events
        (is_open (Some serves.transfer)) (acts_at serves.port was.run)

  -- what of it the traces show
  pub record IsSeenUnanswered (client : ClientOf programs) (p : Endpoint) : Type 0 where
    pub gave_up : GaveUpUnanswered client p
    -- the client sent its newest datagram once and for each retry; as often, and once more for the
    -- last wait, it timed out since
    pub copies : HasCopies (client.last.end.role.retries + 1)
        (Sent client.port p client.last.end.position.last_sent) client.noted
    pub later : List SocketEvent
    pub earlier : List SocketEvent
    pub is : client.noted ≡ later ++ Sent client.port p client.last.end.position.last_sent ∷ earlier
    pub timeouts : client.last.end.role.retries + 1 ≤ elapsed client.port later
    -- it received no answer, but those that it lost, since there was no memory to handle them
    pub unreceived : (packet : Packet) (bytes : List ℕ) → Awaits client.last.end packet
        → Spells packet bytes → Has (Received client.port p bytes) client.noted
        → Has (Lost p bytes) (acts_in client.runs)
    -- if the transfer handled a copy, then it is over, or has sent an answer from its port
    pub answered : (packet : Packet) (bytes : List ℕ) → HasSaid client.last.end packet
        → Spells packet bytes
        → Has (Took (client_at client) bytes) (acts_at gave_up.serves.port gave_up.was.run)
        → IsOver gave_up.serves.transfer.end
        ⊎ ((answer : Packet) × Awaits client.last.end answer × Spells answer (canonical answer)
        × Has (Sent gave_up.serves.port (client_at client) (canonical answer))
        gave_up.server_noted.own.noted)

  -- a client that has no peer has handled nothing from the address that it asked
  pub record GaveUpUnheard (client : ClientOf programs) : Type 0 where
    pub unheard : IsUnheard client.last.end (acts_in client.runs)
    pub client_noted : AreNoted client.port client.before client.last.events (acts_in client.runs)
    -- what it sent last is its request, once and for each retry
    pub request : client.last.end.position.last_sent ≡ client.first.position.last_sent
    pub copies : HasCopies (client.last.end.role.retries + 1)
        (Sent client.port (requests_at programs) client.first.position.last_sent) client.noted
    -- it received nothing from that address, but what it lost, since there was no memory to handle
    -- it
    pub unreceived : (from : Endpoint) (bytes : List ℕ)
        → same_address (requests_at programs) from ≡ true
        → Has (Received client.port from bytes) client.noted
        → Has (Lost from bytes) (acts_in client.runs)

module _ {S F D G K : Type 0} (stores : StoreMeaning S D) (sources : SourceMeaning F)
    (inputs : SourceMeaning G) (outputs : SinkMeaning K) where
  -- every client that timed out after it had a peer
  abbrev pub ClientsGiveUpUnanswered : Type 0
  ClientsGiveUpUnanswered =
      (programs : Programs stores sources inputs outputs) (order : List Noted)
      → AreJoined programs order → (k : ℕ) (client : ClientOf programs) (p : Endpoint)
      → slice_get programs.clients k ≡ Some client → peer_of (client_end programs client) ≡ Some p
      → outcome_of client.last.end.position.phase ≡ Some outcomes.TimedOut
      → is_complete client.last.end.position.phase ≡ false → IsSeenUnanswered programs client p

  -- so each client that timed out, with a peer or without one
  abbrev pub ClientsTimeOutSo : Type 0
  ClientsTimeOutSo =
      (programs : Programs stores sources inputs outputs) (order : List Noted)
      → AreJoined programs order → (k : ℕ) (client : ClientOf programs)
      → slice_get programs.clients k ≡ Some client
      → outcome_of client.last.end.position.phase ≡ Some outcomes.TimedOut
      → is_complete client.last.end.position.phase ≡ false
      → GaveUpUnheard programs client ⊎ ((p : Endpoint) × GaveUpUnanswered programs client p)

  -- and each transfer of a client that timed out is unanswered by its client
  abbrev pub TransfersGiveUpUnanswered : Type 0
  TransfersGiveUpUnanswered =
      (programs : Programs stores sources inputs outputs) (client : ClientOf programs)
      (p : Endpoint) (serves : ServesClient programs p client)
      (was : WasHeld programs serves.port serves.transfer)
      (living : IsLiving stores sources (acts_at serves.port was.run) serves.transfer)
      → peer_of (client_end programs client) ≡ Some p
      → outcome_of serves.transfer.end.position.phase ≡ Some outcomes.TimedOut
      → is_complete serves.transfer.end.position.phase ≡ false
      → IsUnanswered p (client_at client) serves.transfer.end (acts_at serves.port was.run)
      client.last.end (acts_in client.runs)
