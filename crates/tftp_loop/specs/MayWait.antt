-- What each part of a round leaves at the ports, so that the next wait is allowed.
use Rattle.std.specs.Prelude.{ℕ, ◌≡◌, ◌≤◌, ◌<◌, ◌+◌, ◌-◌, ◌||◌, ◌&&◌, not, ◌⊎◌, ⊤, true, false}
use Rattle.std.specs.Prelude.{List, ◌∷◌, map, min, max}
use Rattle.std.specs.Prelude.{length, take, slice_set, slice_index_or, Option, Some, None, is_some}
use Rattle.std.specs.Prelude.{Bool, IsSome, All, if◌then◌else◌}
use Rattle.std.specs.List.{list_any}
use Rattle.tftp_file.specs.Source.{SourceMeaning}
use Rattle.tftp_ends.specs.declared.endpoint.Endpoint.{Endpoint}
use Rattle.tftp_ends.specs.declared.record.Step.{Step}
use Rattle.tftp_store.specs.Store.{StoreMeaning}
use Rattle.tftp_server.specs.State.{TransferState, at, taken_of}
use Rattle.tftp_sockets.specs.Watch.{deadline_of, last_moment, later_within, wait_of}
use Rattle.tftp_sockets.specs.declared.watch.TheConstants.{LONGEST_WAIT}
use Rattle.tftp_sockets.specs.declared.port.Port.{Port}
use Rattle.tftp_sockets.specs.Trace.{SocketEvent}
use Rattle.tftp_sockets.specs.Trace.SocketEvent.{Quiet, Watched}
use Rattle.tftp_sockets.specs.Trace.QuietEvent.{Slept, Woke}
use Rattle.tftp_sockets.specs.Quiet.{is_among, was_tried}
use Rattle.tftp_loop.specs.declared.server_loop.ServerLoop.{ServerLoop}
use Rattle.tftp_loop.specs.declared.port_visit.TheConstants.{MOST_AT_ONCE}
use Rattle.tftp_loop.specs.declared.port_visit.Pass.{Pass}
use Rattle.tftp_loop.specs.declared.port_visit.Pass.TheVariants as passes
use Rattle.tftp_loop.specs.declared.port_visit.PortStatus.{PortStatus}
use Rattle.tftp_loop.specs.declared.port_visit.PortStatus.TheVariants as statuses
use Rattle.tftp_loop.specs.declared.transfer_port.Survey.{Survey}
use Rattle.tftp_loop.specs.declared.transfer_port.TransferSocket.{TransferSocket}
use Rattle.tftp_loop.specs.Fair.{ReceivesAtMost}
use Rattle.tftp_loop.specs.Run.{Run}
use Rattle.tftp_loop.specs.Steps.{Timer, PortState, LoopState, AnswersRequest, Closes}
use Rattle.tftp_loop.specs.Steps.{LosesRequest}
use Rattle.tftp_loop.specs.Steps.{NotesRequest, SetsStore, deadline_by, next_look, marked_by}
use Rattle.tftp_loop.specs.Steps.{is_draining, reads_requests, round_end, set_by, wait_in}
use Rattle.tftp_loop.specs.LoopStates.{HasRoom, OnlyServes, OnlyServesPort, loop_state}
use Rattle.tftp_loop.specs.LoopStates.{state_of, timer_of}

-- ---- timers

-- it holds of each element from this index on
abbrev pub AllFrom : {X : Type 0} → (X → Type 0) → ℕ → List X → Type 0
AllFrom {X} P from xs = (k : ℕ) (d : X) → from ≤ k → k < length xs → P (slice_index_or xs k d)

-- it holds of each element before this index
abbrev pub AllBelow : {X : Type 0} → (X → Type 0) → ℕ → List X → Type 0
AllBelow {X} P below xs =
    (k : ℕ) (d : X) → k < below → k < length xs → P (slice_index_or xs k d)

-- at most so many datagrams were received at the port since the newest wait
abbrev pub ReceivedFew : ℕ → Timer → Type 0
ReceivedFew most timer = timer.received ≤ most

-- the port is not marked, or was read since the last wait
abbrev pub IsRead : List SocketEvent → Timer → Type 0
IsRead events timer = timer.marked ≡ true → was_tried timer.port events ≡ true

-- the timer is not due, or started at this moment
pub record IsTimed (now : ℕ) (timer : Timer) : Type 0 where
  pub due : (now < timer.deadline) ⊎ (timer.deadline ≡ deadline_of now (wait_in timer))
  pub look : (now < timer.look_at) ⊎ ((timer.look_at ≡ timer.deadline)
      ⊎ (timer.look_at ≡ next_look now (wait_in timer)))

-- how many datagrams were received at a port when a visit of this pass begins, at most
abbrev pub before_visit : Pass → ℕ
before_visit passes.Ready = 0
before_visit passes.Due = MOST_AT_ONCE

-- what a status states of the timer of its port
abbrev pub LeavesTimer : PortStatus → ℕ → Timer → Type 0
LeavesTimer statuses.Onward now timer =
    (timer.deadline ≡ deadline_of now (wait_in timer))
    × (timer.look_at ≡ next_look now (wait_in timer))
LeavesTimer statuses.Closed now timer = ⊤
LeavesTimer status now timer = timer.look_at ≡ timer.deadline

-- the pass is not for the port of the timer: it is not marked, or not due
abbrev pub IsNotVisited : Pass → ℕ → Timer → Type 0
IsNotVisited passes.Ready now timer = timer.marked ≡ false
IsNotVisited passes.Due now timer = now < timer.look_at

-- it holds unless the status is that the transfer closed
abbrev pub UnlessClosed : PortStatus → Type 0 → Type 0
UnlessClosed statuses.Closed P = ⊤
UnlessClosed status P = P

-- no two timers have one port
abbrev pub HavePortsApart : List Timer → Type 0
HavePortsApart timers =
    (j k : ℕ) (d e : Timer) → j < length timers → k < length timers
    → (slice_index_or timers j d).port ≡ (slice_index_or timers k e).port → j ≡ k

module _ {F D : Type 0} where
  -- a timer is of a transfer that is held, and its port is read at its deadline at the latest
  pub record IsHeld (held : List (ℕ × TransferState F D)) (timer : Timer) : Type 0 where
    pub there : IsSome (at timer.port held)
    pub look : timer.look_at ≤ timer.deadline

  -- each transfer has one timer, which no other has
  pub record AreKept (held : List (ℕ × TransferState F D)) (timers : List Timer) : Type 0 where
    pub apart : HavePortsApart timers
    pub each : All (IsHeld held) timers

  -- no transfer at the port has closed
  abbrev pub IsUnclosed : ℕ → List (ℕ × TransferState F D) → Type 0
  IsUnclosed port held = taken_of (at port held) ≡ None

  -- no transfer at the port has closed by this step; without one, if none had before
  abbrev pub IsUnclosedBy : Option Step → ℕ → List (ℕ × TransferState F D)
      → List (ℕ × TransferState F D) → Type 0
  IsUnclosedBy None port old new = IsUnclosed port old → IsUnclosed port new
  IsUnclosedBy (Some step) port old new = step.closed ≡ None → IsUnclosed port new

  -- the transfer of a timer has not closed
  abbrev pub IsOpen : List (ℕ × TransferState F D) → Timer → Type 0
  IsOpen held timer = IsUnclosed timer.port held

  -- and none has closed
  pub record AreSettled (held : List (ℕ × TransferState F D)) (timers : List Timer) : Type 0 where
    pub kept : AreKept held timers
    pub none_closed : All (IsOpen held) timers

-- ---- the state

-- what was read stays so until the next wait
abbrev pub KeepsTries : List SocketEvent → List SocketEvent → Type 0
KeepsTries before after = (port : ℕ) → was_tried port before ≡ true → was_tried port after ≡ true

module _ {S F D : Type 0} where
  -- the request port was read since the last wait, if it is to be read or its datagram is pending
  abbrev pub AreTried : LoopState S F D → Type 0
  AreTried s =
      (reads_requests s || is_some s.pending) ≡ true → was_tried s.requests s.events ≡ true

  -- the transfer at the port has not closed, if it had not
  abbrev pub StaysOpen : PortState S F D → PortState S F D → Type 0
  StaysOpen old new = IsOpen old.server.held old.timer → IsOpen new.server.held new.timer

  -- ---- a loop

  -- the timers of a server
  abbrev pub timers_of : ServerLoop S F D → List Timer
  timers_of d = map timer_of d.ports.items

  -- whether the request port of a server is read
  abbrev pub reads_of : ServerLoop S F D → Bool
  reads_of d = not (is_draining d.drain) && d.sockets.is_ready

  -- between two calls: no transfer has closed, and each has a timer
  abbrev pub IsSettled : ServerLoop S F D → Type 0
  IsSettled d = AreSettled d.server.held (timers_of d)

  -- the ports from this index on were read
  abbrev pub AreRead : ℕ → ServerLoop S F D → List SocketEvent → Type 0
  AreRead from d events = AllFrom (IsRead events) from (timers_of d)

  -- the ports from this index on are not due
  abbrev pub AreTimed : ℕ → ServerLoop S F D → Type 0
  AreTimed from d = AllFrom (IsTimed d.sockets.watch.now) from (timers_of d)

  -- at most so many datagrams were received at each port since the newest wait
  abbrev pub HasFew : ℕ → ServerLoop S F D → Type 0
  HasFew most d = All (ReceivedFew most) (timers_of d)

  -- at each port before this index no more were received than before its visit
  abbrev pub AwaitVisit : Pass → ℕ → ServerLoop S F D → Type 0
  AwaitVisit pass below d = AllBelow (ReceivedFew (before_visit pass)) below (timers_of d)

  -- the port of a timer was visited
  abbrev pub WasVisited : Pass → ServerLoop S F D → List SocketEvent → Timer → Type 0
  WasVisited passes.Ready d events timer = IsRead events timer × ReceivedFew MOST_AT_ONCE timer
  WasVisited passes.Due d events timer = IsTimed d.sockets.watch.now timer

  -- the ports from this index on were visited
  abbrev pub WereVisited : Pass → ℕ → ServerLoop S F D → List SocketEvent → Type 0
  WereVisited pass from d events = AllFrom (WasVisited pass d events) from (timers_of d)

  -- the request port was read
  abbrev pub HasTriedRequests : ServerLoop S F D → List SocketEvent → Type 0
  HasTriedRequests d events =
      (reads_of d || is_some d.pending) ≡ true
      → was_tried d.sockets.requests.port events ≡ true

  -- all is done that is to be done before a wait
  pub record IsTended (d : ServerLoop S F D) (events : List SocketEvent) : Type 0 where
    pub settled : IsSettled d
    pub read : AreRead 0 d events
    pub timed : AreTimed 0 d
    pub requests : HasTriedRequests d events

  -- a wait may begin: all is done before it, a transfer is yet to close, and a wait is left
  pub record MayBeginWait (d : ServerLoop S F D) (events : List SocketEvent) : Type 0 where
    pub tended : IsTended d events
    pub left : 1 ≤ d.left
    pub rounds : 1 ≤ d.rounds

  -- the longest wait of a server, in milliseconds
  abbrev pub millis_of : ServerLoop S F D → ℕ
  millis_of d =
      if (reads_of d || (is_some d.pending
      || list_any (λ (port : Port TransferSocket). port.is_ready) d.ports.items))
      then 0
      else
      wait_of d.sockets.watch.now
      (map (λ (port : Port TransferSocket). port.look_at) d.ports.items)

-- how long to wait until this time, at most a second, in milliseconds
abbrev pub wait_until : ℕ → Option ℕ → ℕ
wait_until now None = LONGEST_WAIT
wait_until now (Some time) = min (time - now) LONGEST_WAIT

-- the earlier of two times, of which there may be one
abbrev pub earlier : ℕ → Option ℕ → ℕ
earlier time None = time
earlier time (Some other) = min time other

-- a survey of the ports: whether one is marked, and the nearest time at which one is read
pub record IsSurveyOf (ports : List (Port TransferSocket)) (survey : Survey) : Type 0 where
  pub marked : survey.is_ready
      ≡ list_any (λ (port : Port TransferSocket). port.is_ready) ports
  pub nearest : (now : ℕ) → wait_until now survey.look_at
      ≡ wait_of now (map (λ (port : Port TransferSocket). port.look_at) ports)

-- the port after a wait that reported these
abbrev pub marked_if : List ℕ → Port TransferSocket → Port TransferSocket
marked_if reported port =
    record port {
      is_ready = port.is_ready || is_among port.socket.udp.port reported;
      socket = record port.socket { received = 0 };
    }

-- the port after a reading of the clock
abbrev pub set_if : ℕ → Port TransferSocket → Port TransferSocket
set_if time port =
    record port {
      socket = record port.socket {
        deadline = deadline_by time port.socket.is_provisional (timer_of port);
        is_provisional = false;
      };
    }

-- the port after a wait that reported these, before which the clock was read at this time
abbrev pub woken_if : ℕ → List ℕ → Port TransferSocket → Port TransferSocket
woken_if time reported port = marked_if reported (set_if time port)

module _ {S F D : Type 0} where
  -- the clock was read before a wait
  pub record HasRead (old : ServerLoop S F D) (before : List SocketEvent) (new : ServerLoop S F D)
      (after : List SocketEvent) : Type 0 where
    pub rest : new ≡ record old {
      sockets = record old.sockets { watch = new.sockets.watch; limit = new.sockets.limit };
    }
    pub reading : new.sockets.watch.now ≡ later_within old.sockets.watch
        new.sockets.watch.reading (round_end old.sockets.watch.now old.sockets.limit)
    pub forward : old.sockets.watch.now ≤ new.sockets.watch.now
    pub soon : new.sockets.watch.now
        ≤ max old.sockets.watch.now (round_end old.sockets.watch.now old.sockets.limit)
    pub limit : new.sockets.limit ≡ min (old.sockets.watch.now + LONGEST_WAIT) last_moment
    pub rounds : new.rounds ≡ old.rounds
    pub room : HasRoom old → HasRoom new
    pub events : after ≡ Watched new.sockets.watch ∷ before

  -- a wait of so long was noted, which reported these ports
  pub record HasSlept (millis : ℕ) (ports : List ℕ) (old : ServerLoop S F D)
      (before : List SocketEvent) (new : ServerLoop S F D) (after : List SocketEvent)
      : Type 0 where
    pub rest : new ≡ record old { sockets = record old.sockets { poll = new.sockets.poll } }
    pub rounds : new.rounds ≡ old.rounds
    pub room : HasRoom old → HasRoom new
    pub events : after ≡ Quiet (Woke ports) ∷ Quiet (Slept millis) ∷ before

  -- each provisional deadline is set by the time that was read before a wait, the ports that it
  -- reported are marked, it is counted, and the clock is read
  pub record HasWoken (ports : List ℕ) (old : ServerLoop S F D) (before : List SocketEvent)
      (new : ServerLoop S F D) (after : List SocketEvent) : Type 0 where
    pub requests : new.sockets.requests.port ≡ old.sockets.requests.port
    pub range : new.sockets.pool.range ≡ old.sockets.pool.range
    pub longest : new.longest ≡ old.longest
    pub backoff : new.backoff ≡ old.backoff
    pub requests_only : new.requests_only ≡ old.requests_only
    pub per_client : new.per_client ≡ old.per_client
    pub server : new.server ≡ old.server
    pub pending : new.pending ≡ old.pending
    pub timers : timers_of new
        ≡ map (marked_by ports) (map (set_by old.sockets.watch.now) (timers_of old))
    pub reading : new.sockets.watch.now ≡ later_within old.sockets.watch
        new.sockets.watch.reading (round_end old.sockets.watch.now old.sockets.limit)
    pub now : old.sockets.watch.now ≤ new.sockets.watch.now
    pub soon : new.sockets.watch.now
        ≤ max old.sockets.watch.now (round_end old.sockets.watch.now old.sockets.limit)
    pub limit : new.sockets.limit ≡ round_end old.sockets.watch.now old.sockets.limit
    pub marked : new.sockets.is_ready
        ≡ (old.sockets.is_ready || is_among old.sockets.requests.port ports)
    pub asked : new.sockets.has_received ≡ false
    pub drain : new.drain ≡ old.drain
    pub left : new.left ≡ old.left
    pub rounds : new.rounds ≡ old.rounds - 1
    pub room : HasRoom old → HasRoom new
    pub events : after ≡ Watched new.sockets.watch ∷ before

  -- what a visit leaves of a port at this time: it was read, or it is not due unless it has closed
  abbrev pub leaves_read : PortState S F D → ℕ → Type 0
  leaves_read new now = IsRead new.events new.timer

  abbrev pub leaves_timed : PortState S F D → ℕ → Type 0
  leaves_timed new now =
      (taken_of (at new.timer.port new.server.held) ≡ None) → IsTimed now new.timer

  abbrev pub leaves_by : Pass → PortState S F D → ℕ → Type 0
  leaves_by passes.Ready = leaves_read
  leaves_by passes.Due = leaves_timed

  -- the transfer at this index has not closed
  abbrev pub IsOpenAt : ℕ → ServerLoop S F D → Type 0
  IsOpenAt index d = (t : Timer) → IsOpen d.server.held (slice_index_or (timers_of d) index t)

  module _ (meaning : StoreMeaning S D) (sources : SourceMeaning F) where
    -- a server waited once, and a round may follow
    pub record HasWaited (old : ServerLoop S F D) (before : List SocketEvent)
        (new : ServerLoop S F D) (after : List SocketEvent) : Type 0 where
      pub serves : OnlyServes meaning sources old before new after
      pub settled : IsSettled new
      pub few : HasFew 0 new
      pub first : new.sockets.has_received ≡ false
      pub rounds : new.rounds + 1 ≡ old.rounds
      pub room : HasRoom old → HasRoom new

    -- a visit of the port at this index
    pub record VisitsPort (leaves : PortState S F D → ℕ → Type 0) (index : ℕ)
        (old : ServerLoop S F D) (before : List SocketEvent) (new : ServerLoop S F D)
        (after : List SocketEvent) : Type 0 where
      pub port : Port TransferSocket
      pub next : Port TransferSocket
      pub within : index < length old.ports.items
      pub is_port : port ≡ slice_index_or old.ports.items index port
      pub serves : OnlyServesPort meaning sources old.sockets.watch.now old.server port before
          new.server next after
      pub leaves_it : leaves
          (record { server = new.server; timer = timer_of next; events = after })
          old.sockets.watch.now
      pub few : ReceivesAtMost MOST_AT_ONCE before after
      pub items : new.ports.items ≡ slice_set old.ports.items index next
      pub rest : new ≡ record old { server = new.server; ports = new.ports }

    -- the transfer at this index is removed if it has closed
    pub data Finishes (index : ℕ) (old : ServerLoop S F D) (before : List SocketEvent)
        (new : ServerLoop S F D) (after : List SocketEvent) : Type 0 where
      Stays : new ≡ old → after ≡ before → IsOpenAt index old
          → Finishes index old before new after
      Goes : ((buffer : List ℕ)
          → (closes : Closes meaning sources (state_of buffer old before)
          (state_of buffer new after)) × (closes.index ≡ index))
          → Finishes index old before new after

    -- what is done for a pending datagram before it is answered or lost: a note, or the store is
    -- set
    pub data Prepares (old new : LoopState S F D) : Type 0 where
      Notes_it : NotesRequest meaning sources old new → Prepares old new
      Sets_store : SetsStore meaning sources old new → Prepares old new

    -- then it is answered or lost
    pub record Concludes (old new : LoopState S F D) : Type 0 where
      pub middle : LoopState S F D
      pub prepares : Run Prepares old middle
      pub ends : AnswersRequest meaning sources middle new
          ⊎ LosesRequest meaning sources middle new

    -- the same, from one state of a server with this datagram pending to one without
    abbrev pub AnswersPending : Endpoint → List ℕ → ServerLoop S F D → List SocketEvent
        → ServerLoop S F D → List SocketEvent → Type 0
    AnswersPending from bytes old before new after =
        Concludes (loop_state (Some (from, bytes)) old before) (loop_state None new after)

    -- a received datagram is answered or lost, or stays pending
    pub data HandlesReceived (from : Endpoint) (count : ℕ) (buffer : List ℕ)
        (old : ServerLoop S F D) (before : List SocketEvent) (new : ServerLoop S F D)
        (after : List SocketEvent) : Type 0 where
      Concluded : AnswersPending from (take count buffer) old before new after → new.pending ≡ None
          → HandlesReceived from count buffer old before new after
      Kept : new ≡ record old { pending = Some (from, count) } → after ≡ before
          → HandlesReceived from count buffer old before new after
