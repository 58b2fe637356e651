-- What a step leaves, whichever it is: the state of the loop, or the trace, timer and server of a port. By this one
-- clause of a proof is for all steps that it need not tell apart. For 18 other files and three crates.
use Rattle.std.proofs.Common.{rules}
use Rattle.tftp_loop.proofs.Common.{◌≡◌, ℕ, List, refl, SourceMeaning, StoreMeaning, ServerState, SocketEvent, Timer}
use Rattle.tftp_loop.proofs.Common.{PortState, LoopState, PortStep, LoopStep, Waited, At_port, Request_received}
use Rattle.tftp_loop.proofs.Common.{No_request_found, Request_not_received, Request_noted, Request_answered}
use Rattle.tftp_loop.proofs.Common.{Request_lost, Clock_read, Store_set, Transfer_closed, Drain_begun, A_datagram}
use Rattle.tftp_loop.proofs.Common.{A_lost_datagram, A_late_datagram, Nothing_found, A_failed_receive, A_timeout}
use Rattle.tftp_loop.proofs.Common.{A_missed_timeout, Work, ap, ◌∙◌, ◌∷◌, Option, Endpoint, Reply, answered, replied}
use Rattle.tftp_loop.proofs.Common.{Received, Elapsed, after_request, AnswersRequest, left_by}
use Rattle.tftp_sockets.specs.Trace.SocketEvent.{Sent}

-- what says nothing of the datagrams that were sent
abbrev pub IgnoresSent : {X : Type 0} → (List SocketEvent → X) → Type 0
IgnoresSent f =
    (port : ℕ) (to : Endpoint) (bytes : List ℕ) (events : List SocketEvent) → f (Sent port to bytes ∷ events) ≡ f events

-- says the same after an answer, whether there is one or not
pub answered_same : {X : Type 0} (f : List SocketEvent → X) → IgnoresSent f → (port : ℕ) (reply : Option Reply)
    (events : List SocketEvent) → f (answered port reply events) ≡ f events
answered_same f ignores port reply events = search rules

pub replied_same : {X : Type 0} (f : List SocketEvent → X) → IgnoresSent f → (port : ℕ) (to : Option Endpoint)
    (bytes : List ℕ) (events : List SocketEvent) → f (replied port to bytes events) ≡ f events
replied_same f ignores port to bytes events = search rules

module _ {S F D : Type 0} {meaning : StoreMeaning S D} {sources : SourceMeaning F} where
  module _ {old new : LoopState S F D} where
    -- the new state, written as a change of the old one
    abbrev pub new_state : LoopStep meaning sources old new → (state : LoopState S F D) × (new ≡ state)
    new_state (Waited d) = (_, d.is)
    new_state (At_port d) = (_, d.is)
    new_state (Request_received d) = (_, d.is)
    new_state (No_request_found d) = (_, d.is)
    new_state (Request_not_received d) = (_, d.is)
    new_state (Request_noted d) = (_, d.is)
    new_state (Request_answered d) = (_, d.is)
    new_state (Request_lost d) = (_, d.is)
    new_state (Clock_read d) = (_, d.is)
    new_state (Store_set d) = (_, d.is)
    new_state (Transfer_closed d) = (_, d.is)
    new_state (Drain_begun d) = (_, d.is)

    -- it is the new one
    abbrev pub state_is : (does : LoopStep meaning sources old new) → new ≡ (new_state does).0
    state_is does = (new_state does).1

    -- the request port stays
    pub same_requests : LoopStep meaning sources old new → new.requests ≡ old.requests
    same_requests does = search rules

    -- after an answer it is what came of the request
    pub answer_is : (d : AnswersRequest meaning sources old new)
        → new ≡ after_request old d.from (left_by d.steps.came old.server d.from d.tid)
    answer_is d = d.is ∙ ap (after_request old d.from) d.steps.left

  module _ {now : ℕ} {old new : PortState S F D} where
    -- the new trace, written as the old one with more
    abbrev pub new_trace : PortStep meaning sources now old new → (events : List SocketEvent) × (new.events ≡ events)
    new_trace (A_datagram d) = (_, d.handles.events)
    new_trace (A_lost_datagram d) = (_, d.events)
    new_trace (A_late_datagram d) = (_, d.events)
    new_trace (Nothing_found d) = (_, d.events)
    new_trace (A_failed_receive d) = (_, d.events)
    new_trace (A_timeout d) = (_, d.times_out.events)
    new_trace (A_missed_timeout d) = (_, d.events)
    new_trace (Work d) = (_, d.events)

    -- it is the new one
    abbrev pub trace_is : (does : PortStep meaning sources now old new) → new.events ≡ (new_trace does).0
    trace_is does = (new_trace does).1

    -- the new trace before the answer of the step was sent
    abbrev pub noted_by : PortStep meaning sources now old new → List SocketEvent
    noted_by (A_datagram d) = Received old.timer.port d.from d.bytes ∷ old.events
    noted_by (A_timeout d) = Elapsed old.timer.port now ∷ old.events
    noted_by does = (new_trace does).0

    -- what ignores that answer says the same of the new trace
    pub same_noted : {X : Type 0} (f : List SocketEvent → X) → IgnoresSent f
        → (does : PortStep meaning sources now old new) → f new.events ≡ f (noted_by does)
    same_noted f ignores does = search rules

    -- the new timer, written as a change of the old one
    abbrev pub new_timer : PortStep meaning sources now old new → (timer : Timer) × (new.timer ≡ timer)
    new_timer (A_datagram d) = (_, d.timer)
    new_timer (A_lost_datagram d) = (_, d.timer)
    new_timer (A_late_datagram d) = (_, d.timer)
    new_timer (Nothing_found d) = (_, d.timer)
    new_timer (A_failed_receive d) = (_, d.timer)
    new_timer (A_timeout d) = (_, d.timer)
    new_timer (A_missed_timeout d) = (_, d.timer)
    new_timer (Work d) = (_, d.timer)

    -- it is the new one
    abbrev pub timer_is : (does : PortStep meaning sources now old new) → new.timer ≡ (new_timer does).0
    timer_is does = (new_timer does).1

    -- the server: the old one, if the step leaves it
    abbrev pub new_server : PortStep meaning sources now old new → (server : ServerState S F D) × (new.server ≡ server)
    new_server (A_late_datagram d) = (_, d.server)
    new_server (Nothing_found d) = (_, d.server)
    new_server (A_failed_receive d) = (_, d.server)
    new_server (A_missed_timeout d) = (_, d.server)
    new_server does = (new.server, refl)

    -- it is the new one
    abbrev pub server_is : (does : PortStep meaning sources now old new) → new.server ≡ (new_server does).0
    server_is does = (new_server does).1
