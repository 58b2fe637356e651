-- The loop's own values as states of its run.
use Rattle.std.specs.Prelude.{ℕ, ◌≡◌, ◌≢◌, ◌≤◌, ◌⊎◌, ⊤, false, List, [], ◌∷◌, map, take, Option}
use Rattle.std.specs.Prelude.{Some, None, IfSome, IfErr, Result, Err, length, true, vec_capacity}
use Rattle.tftp_file.specs.Source.{SourceMeaning}
use Rattle.tftp_ends.specs.declared.endpoint.Endpoint.{Endpoint}
use Rattle.tftp_store.specs.Store.{StoreMeaning}
use Rattle.tftp_ends.specs.declared.record.Record.{Record}
use Rattle.tftp_server.specs.State.{ServerState}
use Rattle.tftp_server.specs.Request.{Admits, AdmissionState}
use Rattle.tftp_server.specs.declared.opened.Opened.{Opened}
use Rattle.tftp_sockets.specs.declared.port.Port.{Port}
use Rattle.tftp_sockets.specs.Bound.{IsBoundTo}
use Rattle.tftp_sockets.specs.declared.address.TheConstants.{DATAGRAM_BUFFER}
use Rattle.tftp_sockets.specs.declared.watch.TheConstants.{LONGEST_WAIT}
use Rattle.tftp_sockets.specs.Trace.{SocketEvent, replied}
use Rattle.tftp_sockets.specs.Trace.SocketEvent.{Printed, Quiet}
use Rattle.tftp_sockets.specs.Trace.QuietEvent.{No_reader, Out_of_memory}
use Rattle.tftp_ends.specs.declared.outcome.Outcome.{Outcome}
use Rattle.tftp_lines.specs.Printed.{line_text}
use Rattle.tftp_lines.specs.declared.printed.Printed.TheVariants.{Closed}
use Rattle.tftp_loop.specs.declared.drain.Drain.TheVariants.{Begun}
use Rattle.tftp_loop.specs.declared.reserved.TheConstants.{LONGEST_ANSWER}
use Rattle.tftp_loop.specs.declared.transfer_port.TransferSocket.{TransferSocket}
use Rattle.tftp_loop.specs.PortOrder.{IsOneOf}
use Rattle.tftp_loop.specs.Run.{Run}
use Rattle.tftp_loop.specs.declared.server_loop.Buffers.{Buffers}
use Rattle.tftp_loop.specs.declared.server_loop.ServerLoop.{ServerLoop}
use Rattle.tftp_loop.specs.declared.serving.LoopConfig.{LoopConfig}
use Rattle.tftp_loop.specs.declared.sockets.Sockets.{Sockets}
use Rattle.tftp_loop.specs.declared.serving.LoopFault.{LoopFault}
use Rattle.tftp_loop.specs.declared.serving.LoopFault.TheVariants as faults
use Rattle.tftp_loop.specs.Steps.{Timer, PortState, PortStep, LoopState, LoopStep}
use Rattle.tftp_loop.specs.Steps.{answering_port, at_start, with_timer}
use Rattle.tftp_loop.specs.Steps.LoopStep.{Waited, Clock_read}

-- the timer of a port
abbrev pub timer_of : Port TransferSocket → Timer
timer_of port =
    record {
      port = port.socket.udp.port;
      peer = port.socket.peer;
      interval = port.socket.interval;
      backoff = port.socket.backoff;
      timeouts = port.socket.timeouts;
      deadline = port.socket.deadline;
      marked = port.is_ready;
      look_at = port.look_at;
      provisional = port.socket.is_provisional;
      age_limit = port.socket.age_limit;
      received = port.socket.received;
    }

module _ {S F D : Type 0} where
  -- a server at the port of a transfer
  abbrev pub at_port : ServerState S F D → Port TransferSocket → List SocketEvent → PortState S F D
  at_port server port events =
      record { server = server; timer = timer_of port; events = events }

  -- from one state of a port to another, at one time of the watch
  abbrev pub OnlyServesPort : StoreMeaning S D → SourceMeaning F → ℕ
      → ServerState S F D → Port TransferSocket → List SocketEvent
      → ServerState S F D → Port TransferSocket → List SocketEvent → Type 0
  OnlyServesPort meaning sources now old port before new port' after =
      Run (PortStep meaning sources now) (at_port old port before) (at_port new port' after)

-- the trace after the close of a transfer with this outcome, if it has one
abbrev pub close_printed : ℕ → Endpoint → Option Outcome → List SocketEvent → List SocketEvent
close_printed port peer None events = events
close_printed port peer (Some outcome) events =
    Printed (line_text (Closed port peer.port outcome)) ∷ events

-- the trace after the close of a transfer with this record, if there is one
abbrev pub close_reported : ℕ → Endpoint → Option Record → List SocketEvent → List SocketEvent
close_reported port peer None events = events
close_reported port peer (Some r) events = close_printed port peer r.outcome events

-- a line could not be printed; its event is the last
pub record FailsToPrint (fault : LoopFault) (events : List SocketEvent) : Type 0 where
  pub is_output : fault ≡ faults.Output
  pub line : List ℕ
  pub earlier : List SocketEvent
  pub last : events ≡ Printed line ∷ earlier

-- the request port could not be bound, and nothing was done
abbrev pub FailsToBind : LoopFault → List SocketEvent → List SocketEvent → Type 0
FailsToBind (faults.Socket reason) before after = after ≡ before
FailsToBind _ before after = ⊥

-- why a running server stops: nobody reads what it prints, or a line is not printed
abbrev pub StopsRunning : LoopFault → List SocketEvent → Type 0
StopsRunning fault events = (fault ≡ faults.NoReader) ⊎ FailsToPrint fault events

-- why a server whose port is bound stops: no memory for its buffers, before it did anything, or as
-- a running one
abbrev pub StopsServing : List SocketEvent → LoopFault → List SocketEvent → Type 0
StopsServing before fault events =
    ((fault ≡ faults.Memory) × (events ≡ before)) ⊎ StopsRunning fault events

-- the trace at the end of a run with this result: that memory was refused, or that a look found
-- no reader, is noted last
abbrev pub noted_at_end : {A : Type 0} → Result A LoopFault → List SocketEvent → List SocketEvent
noted_at_end (Err faults.NoReader) events = Quiet No_reader ∷ events
noted_at_end (Err faults.Memory) events = Quiet Out_of_memory ∷ events
noted_at_end result events = events

-- the pending datagram, from its length and the buffer that it is in
abbrev pub pending_in : Option (Endpoint × ℕ) → List ℕ → Option (Endpoint × List ℕ)
pending_in None buffer = None
pending_in (Some pending) buffer = Some (pending.0, take pending.1 buffer)

-- a list of so many ports and an answer of so many bytes have room for this many transfers and the
-- longest answer
pub record RoomFor (cap ports answer : ℕ) : Type 0 where
  pub each : cap ≤ ports
  pub longest : LONGEST_ANSWER ≤ answer

module _ {S F D : Type 0} where
  -- the state of a server with this datagram pending, if there is one, and this history
  abbrev pub loop_state : Option (Endpoint × List ℕ) → ServerLoop S F D → List SocketEvent
      → LoopState S F D
  loop_state pending d events =
      record {
        requests = d.sockets.requests.port;
        range = d.sockets.pool.range;
        longest = d.longest;
        backoff = d.backoff;
        requests_only = d.requests_only;
        per_client = d.per_client;
        server = d.server;
        pending = pending;
        timers = map timer_of d.ports.items;
        now = d.sockets.watch.now;
        reading = d.sockets.watch.reading;
        limit = d.sockets.limit;
        woken = false;
        marked = d.sockets.is_ready;
        asked = d.sockets.has_received;
        drain = d.drain;
        left = d.left;
        rounds = d.rounds;
        events = events;
      }

  -- a server that drains has nothing left to do
  pub record IsEmptied (d : ServerLoop S F D) : Type 0 where
    pub begun : d.drain ≡ Begun
    pub none : d.pending ≡ None
    pub closed : d.ports.items ≡ []

  -- the state of a server whose pending datagram is in this buffer
  abbrev pub state_of : List ℕ → ServerLoop S F D → List SocketEvent → LoopState S F D
  state_of buffer d events = loop_state (pending_in d.pending buffer) d events

  module _ (meaning : StoreMeaning S D) (sources : SourceMeaning F) where
    -- a step that is no wait and does not read the clock
    abbrev pub IsWork : {old new : LoopState S F D} → LoopStep meaning sources old new → Type 0
    IsWork (Waited waits) = ⊥
    IsWork (Clock_read reads) = ⊥
    IsWork does = ⊤

    pub data Works (old new : LoopState S F D) : Type 0 where
      Work_by : (does : LoopStep meaning sources old new) → IsWork does → Works old new

    -- from one state of a server to another, whatever its buffer has
    abbrev pub OnlyServes : ServerLoop S F D → List SocketEvent → ServerLoop S F D
        → List SocketEvent → Type 0
    OnlyServes old before new after =
        (buffer : List ℕ)
        → Run (LoopStep meaning sources) (state_of buffer old before) (state_of buffer new after)

    -- the same, without a wait
    abbrev pub OnlyWorks : ServerLoop S F D → List SocketEvent → ServerLoop S F D
        → List SocketEvent → Type 0
    OnlyWorks old before new after =
        (buffer : List ℕ) → Run Works (state_of buffer old before) (state_of buffer new after)

    -- from one state of a server and its buffer to another
    abbrev pub ServesRounds : List ℕ → ServerLoop S F D → List SocketEvent → List ℕ
        → ServerLoop S F D → List SocketEvent → Type 0
    ServesRounds buffer old before buffer' new after =
        Run (LoopStep meaning sources) (state_of buffer old before) (state_of buffer' new after)

    -- a server serves to the end with this result, and what stopped it is noted
    pub record EndsRounds {A : Type 0} (result : Result A LoopFault) (buffer : List ℕ)
        (old : ServerLoop S F D) (before : List SocketEvent) (buffer' : List ℕ)
        (new : ServerLoop S F D) (after : List SocketEvent) : Type 0 where
      pub served : List SocketEvent
      pub serves : ServesRounds buffer old before buffer' new served
      pub noted : after ≡ noted_at_end result served
      pub fault : IfErr result (λ fault. StopsRunning fault served)

    -- the same, without a wait
    abbrev pub WorksRound : List ℕ → ServerLoop S F D → List SocketEvent → List ℕ
        → ServerLoop S F D → List SocketEvent → Type 0
    WorksRound buffer old before buffer' new after =
        Run Works (state_of buffer old before) (state_of buffer' new after)

  -- there is room for the ports of as many transfers as the server may hold, and for its answers
  abbrev pub HasRoom : ServerLoop S F D → Type 0
  HasRoom d = RoomFor d.server.config.cap (vec_capacity d.ports) (vec_capacity d.out)

  -- the answer to a datagram of the request port was sent, and a transfer that opened has its port,
  -- one of the range, if there is one, and not the request port
  pub record HasAnswered (from : Endpoint) (opened : Opened) (sent : List ℕ)
      (old : ServerLoop S F D) (before : List SocketEvent) (new : ServerLoop S F D)
      (after : List SocketEvent) : Type 0 where
    pub requests : new.sockets.requests.port ≡ old.sockets.requests.port
    pub range : new.sockets.pool.range ≡ old.sockets.pool.range
    pub longest : new.longest ≡ old.longest
    pub backoff : new.backoff ≡ old.backoff
    pub requests_only : new.requests_only ≡ old.requests_only
    pub per_client : new.per_client ≡ old.per_client
    pub port : IfSome opened.tid (IsOneOf old.sockets.pool.range)
    pub own : IfSome opened.tid (λ port. port ≢ old.sockets.requests.port)
    pub server : new.server ≡ old.server
    pub timers : map timer_of new.ports.items
        ≡ with_timer old.sockets.watch.now old.longest old.backoff from opened.tid old.server.held
        (map timer_of old.ports.items)
    pub watch : new.sockets.watch ≡ old.sockets.watch
    pub limit : new.sockets.limit ≡ old.sockets.limit
    pub marked : new.sockets.is_ready ≡ old.sockets.is_ready
    pub asked : new.sockets.has_received ≡ old.sockets.has_received
    pub drain : new.drain ≡ old.drain
    pub left_to_close : new.left ≡ old.left
    pub rounds : new.rounds ≡ old.rounds
    pub room : HasRoom old → HasRoom new
    pub events : after
        ≡ replied (answering_port old.sockets.requests.port opened.tid) opened.to sent before

  -- the admission is of this datagram by this server
  pub record IsAdmission (server : ServerState S F D) (from : Endpoint) (bytes : List ℕ)
      (admission : AdmissionState) : Type 0 where
    pub admits : Admits server from bytes admission.ask
    pub same_from : admission.from ≡ from
    pub same_bytes : admission.bytes ≡ bytes

  -- a loop of this configuration, whatever its history, that has done nothing: it has no transfers
  pub record IsAtStart (config : LoopConfig) (d : ServerLoop S F D) : Type 0 where
    pub state : (buffer : List ℕ) (events : List SocketEvent) → state_of buffer d events
        ≡ at_start config d.sockets.requests.port d.server d.sockets.watch.reading events
    pub none : d.ports.items ≡ []

-- the sockets of this configuration are as they are bound: the watch starts, and the request port
-- is in the poll and may have a datagram
pub record AreBound (config : LoopConfig) (sockets : Sockets) : Type 0 where
  pub time : sockets.watch.now ≡ 0
  pub limit : sockets.limit ≡ LONGEST_WAIT
  pub bound : IsBoundTo config.listen sockets.requests.ip sockets.requests.port
  pub pool : sockets.pool ≡ record { ip = config.listen.ip; range = config.ports }
  pub marked : sockets.is_ready ≡ true
  pub asked : sockets.has_received ≡ false
  pub registered : sockets.requests.is_registered ≡ true

-- the buffers for a request and for a datagram of a transfer have room for the longest one
pub record AreLong (buffers : Buffers) : Type 0 where
  pub request : length buffers.request.items ≡ DATAGRAM_BUFFER
  pub datagram : length buffers.datagram.items ≡ DATAGRAM_BUFFER
