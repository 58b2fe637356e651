-- What the end of a client has received and sent, by its run, and that of a transfer, by the run of
-- its server.
use Rattle.std.specs.Prelude.{ℕ, ◌≡◌, List, Some, [], ◌∷◌, true, ◌++◌, None, if◌then◌else◌, Bool}
use Rattle.std.specs.Prelude.{◌==◌, ◌≢◌, Option}
use Rattle.tftp_promises.specs.Common.{SourceMeaning, StoreMeaning, Endpoint, SinkMeaning, LoopStep}
use Rattle.tftp_promises.specs.Common.{LoopState, SocketEvent, Run, EndState, Sent, Then, Start}
use Rattle.tftp_promises.specs.Common.{Received, TransferState, State, Files, Elapsed, at, Took}
use Rattle.tftp_promises.specs.Common.{Said, Timed, Lost, HandlesReceived, MayElapse, Answers, Act}
use Rattle.tftp_promises.specs.Common.{PortStep, Loses, PortState, is_open, drafting_sink}
use Rattle.tftp_ends.specs.Step.{timeout_turn}
use Rattle.tftp_lives.specs.Lives.{Life, newest, with_reply}
use Rattle.tftp_lives.specs.Unanswered.{Begins}
use Rattle.tftp_loop.specs.Steps.PortStep.{A_datagram, A_lost_datagram, A_late_datagram, A_timeout}
use Rattle.tftp_loop.specs.Steps.LoopStep.{At_port, Request_answered}
use Rattle.tftp_client.specs.Converses.MayElapse.{Stays, Elapses}
use Rattle.tftp_promises.specs.ClientRuns.{ClientDoes, Receives_one, Times_out, ClientRun, Starts}
use Rattle.tftp_promises.specs.ClientRuns.{Goes_on}
use Rattle.tftp_promises.specs.Moved.{came_if}

-- ---- a client
-- what it has done after a timeout, if one was due
abbrev pub elapsing_acts : {port : ℕ} {s next : State} → MayElapse port s next → List Act → List Act
elapsing_acts (Stays why) acts = acts
elapsing_acts {s = s} (Elapses due still) acts =
    with_reply (timeout_turn s.end).reply (Timed ∷ acts)

module _ {G K : Type 0} {inputs : SourceMeaning G} {outputs : SinkMeaning K} {port : ℕ} where
  -- and after a datagram, which it loses if there is no memory to handle it
  abbrev pub handling_acts : {from : Endpoint} {bytes : List ℕ} {s next : State}
      {files files' : Files G K}
      → HandlesReceived inputs outputs port from bytes s files next files' → List Act → List Act
  handling_acts {from = from} {bytes = bytes} (Answers {turn} still step) acts =
      with_reply turn.reply (Took from bytes ∷ acts)
  handling_acts {from = from} {bytes = bytes} (Loses lost keeps) acts = Lost from bytes ∷ acts

  -- and after a step
  abbrev pub client_acts : {s s' : State} {files files' : Files G K}
      → ClientDoes inputs outputs port s files s' files' → List Act → List Act
  client_acts (Receives_one may later handles) acts = handling_acts handles acts
  client_acts (Times_out elapses) acts = elapsing_acts elapses acts
  client_acts does acts = acts

  -- in its run, its request first
  abbrev pub acts_in : {first : State} {file : Files G K} {s : State} {files : Files G K}
      → ClientRun inputs outputs port first file s files → List Act
  acts_in {first} Starts = newest first.end ∷ []
  acts_in (Goes_on run does) = client_acts does (acts_in run)

-- ---- a transfer
module _ {F D : Type 0} where
  -- what one that opens has done, or what was done before
  abbrev pub first_act : Option (TransferState F D) → List Act → List Act
  first_act None before = before
  first_act (Some held) before = newest held.end ∷ []

module _ {S F D : Type 0} {stores : StoreMeaning S D} {sources : SourceMeaning F} where
  -- what it has done after a step at its port; while it is open it loses a datagram if there is no
  -- memory to handle it, and once it is over age
  abbrev pub port_acts : {now : ℕ} {old new : PortState S F D} → PortStep stores sources now old new
      → List Act → List Act
  port_acts (A_datagram d) acts =
      with_reply d.handles.takes.takes.turn.reply (Took d.from d.bytes ∷ acts)
  port_acts (A_timeout d) acts =
      with_reply (timeout_turn d.times_out.times_out.transfer.end).reply (Timed ∷ acts)
  port_acts {old = old} (A_lost_datagram d) acts =
      if is_open (at old.timer.port old.server.held) then Lost d.from d.bytes ∷ acts else acts
  port_acts {old = old} (A_late_datagram d) acts =
      if is_open (at old.timer.port old.server.held) then Lost d.from d.bytes ∷ acts else acts
  port_acts does acts = acts

  -- what the transfer at a port has done since it opened
  abbrev pub acts_at : ℕ → {first last : LoopState S F D} → Run (LoopStep stores sources) first last
      → List Act
  acts_at port Start = []
  acts_at port (Then run (At_port serves)) =
      if serves.timer.port == port then port_acts serves.does (acts_at port run)
      else acts_at port run
  acts_at port (Then run (Request_answered answers)) =
      first_act (came_if (answers.tid == port) answers.steps.came) (acts_at port run)
  acts_at port (Then run does) = acts_at port run

-- ---- what the traces have of it
-- the event is no act at this port: no datagram that came there or was sent from there, and no
-- timeout
abbrev pub IsNoActAt : ℕ → SocketEvent → Type 0
IsNoActAt port (Received own from bytes) = own ≢ port
IsNoActAt port (Sent own to bytes) = own ≢ port
IsNoActAt port (Elapsed own time) = own ≢ port
IsNoActAt port event = Unit {0}

-- the acts are just the events of this port, in their order
pub data Tells (port : ℕ) : List SocketEvent → List Act → Type 0 where
  Begins_so : Tells port [] []
  Passes : {events : List SocketEvent} {acts : List Act} (event : SocketEvent)
      → IsNoActAt port event → Tells port events acts → Tells port (event ∷ events) acts
  Receives : {events : List SocketEvent} {acts : List Act} (from : Endpoint) (bytes : List ℕ)
      → Tells port events acts
      → Tells port (Received port from bytes ∷ events) (Took from bytes ∷ acts)
  Misses : {events : List SocketEvent} {acts : List Act} (from : Endpoint) (bytes : List ℕ)
      → Tells port events acts
      → Tells port (Received port from bytes ∷ events) (Lost from bytes ∷ acts)
  Sends : {events : List SocketEvent} {acts : List Act} (to : Endpoint) (bytes : List ℕ)
      → Tells port events acts → Tells port (Sent port to bytes ∷ events) (Said to bytes ∷ acts)
  Elapses_then : {events : List SocketEvent} {acts : List Act} (time : ℕ)
      → Tells port events acts → Tells port (Elapsed port time ∷ events) (Timed ∷ acts)

-- so are those that were noted since the trace was so
pub record AreNoted (port : ℕ) (before events : List SocketEvent) (acts : List Act) : Type 0 where
  pub noted : List SocketEvent
  pub is : events ≡ noted ++ before
  pub tells : Tells port noted acts

-- the acts of the transfer that was opened last at the port, which is open now, or is not: just the
-- events there since it was opened, up to now if it is open
pub record AreNotedWhileOpen (port : ℕ) (before events : List SocketEvent) (active : Bool)
    (acts : List Act) : Type 0 where
  -- what was noted before it was opened
  pub earlier : List SocketEvent
  -- what the trace was when it closed, or what it is now
  pub until : List SocketEvent
  pub own : AreNoted port (earlier ++ before) until acts
  -- what was noted since it closed
  pub later : List SocketEvent
  pub is : events ≡ later ++ until
  pub still : active ≡ true → later ≡ []

module _ {S F D : Type 0} (stores : StoreMeaning S D) (sources : SourceMeaning F) where
  -- the end of the transfer has done this since it opened
  pub record IsLiving (acts : List Act) (transfer : TransferState F D) : Type 0 where
    pub first : EndState
    pub begins : Begins first
    pub life : Life sources (drafting_sink stores) first acts transfer.end
