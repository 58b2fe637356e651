-- How many datagrams a server receives at one port before it goes on to the next, and between two
-- waits (ours).
use Rattle.std.specs.Prelude.{ℕ, ◌≡◌, ◌≢◌, ◌≤◌, ◌+◌, ◌*◌, ◌==◌, if◌then◌else◌, List, [], ◌∷◌, All}
use Rattle.tftp_file.specs.Source.{SourceMeaning}
use Rattle.tftp_store.specs.Store.{StoreMeaning}
use Rattle.tftp_sockets.specs.Trace.{SocketEvent, QuietEvent}
use Rattle.tftp_sockets.specs.Trace.SocketEvent.{Received, Quiet}
use Rattle.tftp_sockets.specs.Trace.QuietEvent.{Woke}
use Rattle.tftp_loop.specs.Run.{Run}
use Rattle.tftp_loop.specs.Steps.{Timer, PortState, LoopState, PortStep, LoopStep, most_in_round}

-- how many datagrams were received
abbrev pub received_in : List SocketEvent → ℕ
received_in [] = 0
received_in (Received port from bytes ∷ events) = 1 + received_in events
received_in (event ∷ events) = received_in events

-- at most so many datagrams were received from one trace to the other
abbrev pub ReceivesAtMost : ℕ → List SocketEvent → List SocketEvent → Type 0
ReceivesAtMost most before after = received_in after ≤ most + received_in before

-- a count since the newest wait, after this event
abbrev pub since_by : QuietEvent → ℕ → ℕ
since_by (Woke ports) before = 0
since_by event before = before

-- how many datagrams were received at the port since the newest wait
abbrev pub received_since : ℕ → List SocketEvent → ℕ
received_since port [] = 0
received_since port (Received p from bytes ∷ events) =
    (if p == port then 1 else 0) + received_since port events
received_since port (Quiet event ∷ events) = since_by event (received_since port events)
received_since port (event ∷ events) = received_since port events

module _ {S F D : Type 0} (meaning : StoreMeaning S D) (sources : SourceMeaning F) where
  -- a timer counts each datagram that is received at its port
  abbrev pub CountsReceived : Type 0
  CountsReceived =
      (now : ℕ) (old new : PortState S F D) → Run (PortStep meaning sources now) old new
      → new.timer.received + received_in old.events ≡ old.timer.received + received_in new.events

  -- and at no time of a run has it counted more since the newest wait
  abbrev pub ReceivesFew : Type 0
  ReceivesFew =
      (start now : LoopState S F D) → start.timers ≡ [] → Run (LoopStep meaning sources) start now
      → All (λ (timer : Timer). timer.received ≤ most_in_round) now.timers

  -- a port has three transfers at most between two waits: one that was open, and those of two
  -- requests, of which one was kept from before. So the trace has no more datagrams of it than
  -- three timers count
  abbrev pub ReceivesFewAtAPort : Type 0
  ReceivesFewAtAPort =
      (start now : LoopState S F D) → start.timers ≡ [] → Run (LoopStep meaning sources) start now
      → (port : ℕ) → port ≢ start.requests
      → received_since port now.events ≤ 3 * most_in_round + received_since port start.events
