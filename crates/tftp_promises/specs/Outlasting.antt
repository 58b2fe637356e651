-- A client and the transfer that serves it in one order of all events, with bounded loss between
-- them: a get is complete, and so is a put, if nothing but loss could stop it (RFC 1350, section
-- 2).
use Rattle.std.specs.Prelude.{ℕ, ◌≡◌, List, Some, [], slice_get, ◌∷◌, true, false, Bool, suc}
use Rattle.tftp_promises.specs.Common.{SourceMeaning, StoreMeaning, Endpoint, SinkMeaning}
use Rattle.tftp_promises.specs.Common.{SocketEvent, Sent, is_complete, Received, Elapsed, is_sender}
use Rattle.tftp_promises.specs.Common.{Took, Said, Timed, Lost, IsOver, Act, IsOpen, OneAct}
use Rattle.tftp_lives.specs.Outlasting.{acts_of, GaveUp, IsLossBounded}
use Rattle.tftp_promises.specs.AnyFiles.{ServesClient, client_end, peer_of}
use Rattle.tftp_promises.specs.Failed.{HasFailed}
use Rattle.tftp_promises.specs.GivesUp.{WasHeld}
use Rattle.tftp_promises.specs.Joined.{AreJoined}
use Rattle.tftp_promises.specs.Lived.{IsNoActAt, acts_at, acts_in}
use Rattle.tftp_promises.specs.Order.{Noted, Programs, ClientOf}
use Rattle.tftp_promises.specs.Programs.{client_at}

-- this event at this port is that act
abbrev pub IsEventOf : ℕ → SocketEvent → Act → Type 0
IsEventOf port event (Took from bytes) = event ≡ Received port from bytes
IsEventOf port event (Lost from bytes) = event ≡ Received port from bytes
IsEventOf port event (Said to bytes) = event ≡ Sent port to bytes
IsEventOf port event Timed = (time : ℕ) × (event ≡ Elapsed port time)

-- the order of all events shows just these acts, in this order. Those of the client of this number
-- are all that it did at its port. Those of the server are all that it did at that port while the
-- transfer was active: from its opening until it was over. By the end of the order it is active, or
-- is not
pub data Shows (k port at : ℕ) : Bool → List Noted → List OneAct → Type 0 where
  Ends_so : Shows k port at false [] []
  -- the transfer opens
  Opens_so : {order : List Noted} {acts : List OneAct} → acts_of false acts ≡ []
      → Shows k port at false order acts → Shows k port at true order acts
  -- it is over
  Closes_so : {order : List Noted} {acts : List OneAct} → Shows k port at true order acts
      → Shows k port at false order acts
  -- the event is no act of the two
  Another : {active : Bool} {order : List Noted} {acts : List OneAct} (program : ℕ)
      (event : SocketEvent) → (program ≡ suc k → IsNoActAt port event)
      → (program ≡ 0 → active ≡ true → IsNoActAt at event) → Shows k port at active order acts
      → Shows k port at active ((program, event) ∷ order) acts
  Of_client : {active : Bool} {order : List Noted} {acts : List OneAct} (event : SocketEvent)
      (act : Act) → IsEventOf port event act → Shows k port at active order acts
      → Shows k port at active ((suc k, event) ∷ order) ((true, act) ∷ acts)
  Of_server : {order : List Noted} {acts : List OneAct} (event : SocketEvent) (act : Act)
      → IsEventOf at event act → Shows k port at true order acts
      → Shows k port at true ((0, event) ∷ order) ((false, act) ∷ acts)

-- these are the acts of both ends in the order of their events
pub record AreShown (k port at : ℕ) (active : Bool) (order : List Noted) (client server : List Act)
    (acts : List OneAct) : Type 0 where
  pub shown : Shows k port at active order acts
  pub client_acts : acts_of true acts ≡ client
  pub server_acts : acts_of false acts ≡ server

-- there are such acts, by the end of which the transfer is active, if this holds
pub record HasOrder (k port at : ℕ) (order : List Noted) (client server : List Act)
    (IsStillOpen : Type 0) : Type 0 where
  pub active : Bool
  pub acts : List OneAct
  pub are : AreShown k port at active order client server acts
  pub still : IsStillOpen → active ≡ true

module _ {S F D G K : Type 0} {stores : StoreMeaning S D} {sources : SourceMeaning F}
    {inputs : SourceMeaning G} {outputs : SinkMeaning K}
    (programs : Programs stores sources inputs outputs) where
  -- in this order of the acts of both their loss is bounded
  pub record AreBounded (client : ClientOf programs) (p : Endpoint)
      (serves : ServesClient programs p client) (was : WasHeld programs serves.port serves.transfer)
      (acts : List OneAct) (limit slack : ℕ) : Type 0 where
    pub client_acts : acts_of true acts ≡ acts_in client.runs
    pub server_acts : acts_of false acts ≡ acts_at serves.port was.run
    pub bounded : IsLossBounded acts limit slack (client_at client) p client.last.end
        serves.transfer.end

  -- what bounded loss comes to between a client and the transfer that serves it, in an order of
  -- their acts
  pub record OutlastLoss (order : List Noted) (k : ℕ) (client : ClientOf programs) (p : Endpoint)
      (serves : ServesClient programs p client) (was : WasHeld programs serves.port serves.transfer)
      : Type 0 where
    -- there is such an order, that of the events; a transfer that is open when the run ends is
    -- active by its end
    pub shown : HasOrder k client.port serves.port order (acts_in client.runs)
        (acts_at serves.port was.run) (IsOpen serves.transfer.end × (was.since ≡ []))
    -- none of the two gave up, but if the other is over
    pub outlasts : (acts : List OneAct) (limit slack : ℕ)
        → AreBounded client p serves was acts limit slack
        → (GaveUp client.last.end → IsOver serves.transfer.end)
        × (GaveUp serves.transfer.end → IsOver client.last.end)
    -- so a get that has ended is complete, if none of the two failed
    pub get : (acts : List OneAct) (limit slack : ℕ)
        → AreBounded client p serves was acts limit slack
        → is_sender client.last.end.role.side ≡ false → (HasFailed client.last.end → ⊥)
        → (HasFailed serves.transfer.end → ⊥) → (IsOpen client.last.end → ⊥)
        → is_complete client.last.end.position.phase ≡ true
    -- and the transfer of a put, once it has ended
    pub put : (acts : List OneAct) (limit slack : ℕ)
        → AreBounded client p serves was acts limit slack
        → is_sender client.last.end.role.side ≡ true → (HasFailed client.last.end → ⊥)
        → (HasFailed serves.transfer.end → ⊥) → (IsOpen serves.transfer.end → ⊥)
        → is_complete serves.transfer.end.position.phase ≡ true

module _ {S F D G K : Type 0} (stores : StoreMeaning S D) (sources : SourceMeaning F)
    (inputs : SourceMeaning G) (outputs : SinkMeaning K) where
  -- of each client that has a peer: its transfer was held at some time, and whenever it was
  abbrev pub ProgramsOutlastLoss : Type 0
  ProgramsOutlastLoss =
      (programs : Programs stores sources inputs outputs) (order : List Noted)
      → AreJoined programs order → (k : ℕ) (client : ClientOf programs) (p : Endpoint)
      → slice_get programs.clients k ≡ Some client → peer_of (client_end programs client) ≡ Some p
      → (serves : ServesClient programs p client) → WasHeld programs serves.port serves.transfer
      × ((was : WasHeld programs serves.port serves.transfer)
      → OutlastLoss programs order k client p serves was)
