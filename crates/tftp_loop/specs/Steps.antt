-- A run of a server over UDP: each step is followed at once by its answer, nothing else is sent or
-- printed, and the server waits only when its work is done (RFC 1350, sections 2 and 4).
use Rattle.std.specs.Prelude.{ℕ, ◌≡◌, ◌≢◌, ◌≤◌, ◌<◌, ◌-◌, ◌+◌, ◌==◌, ◌||◌, ◌&&◌, not, ◌⊎◌, min}
use Rattle.std.specs.Prelude.{max, Bool, true, false, nat_le}
use Rattle.std.specs.Prelude.{if◌then◌else◌, List, [], ◌∷◌, ◌++◌, length, map, All, IfSome}
use Rattle.std.specs.Prelude.{slice_set, slice_index_or, Option, Some, None, is_some}
use Rattle.std.specs.List.{swap_remove, list_any}
use Rattle.tftp_file.specs.Source.{SourceMeaning}
use Rattle.tftp_ends.specs.declared.endpoint.Endpoint.{Endpoint}
use Rattle.tftp_ends.specs.declared.outcome.Outcome.{Outcome}
use Rattle.tftp_ends.specs.declared.outgoing.Outgoing.{Outgoing}
use Rattle.tftp_ends.specs.declared.record.Record.{Record}
use Rattle.tftp_ends.specs.declared.record.Step.{Step}
use Rattle.tftp_ends.specs.declared.record.TheConstants.{DEFAULT_INTERVAL}
use Rattle.tftp_ends.specs.Action.{same_address}
use Rattle.tftp_ends.specs.Backoff.{wait_of}
use Rattle.tftp_ends.specs.declared.backoff.Backoff.{Backoff}
use Rattle.tftp_ends.specs.End.{interval_of, terms_of}
use Rattle.tftp_ends.specs.Shortage.{AppendsNothing}
use Rattle.tftp_ends.specs.Step.{timeout_turn}
use Rattle.tftp_store.specs.Store.{StoreMeaning}
use Rattle.tftp_server.specs.State.{TransferState, ServerState, at, is_open, taken_of, without}
use Rattle.tftp_server.specs.Steps.{TakesDatagramLent, TimesOutLent, DatagramFaultLent, KeepsHeld}
use Rattle.tftp_server.specs.declared.fault.ServerFault.{ServerFault}
use Rattle.tftp_server.specs.declared.fault.ServerFault.TheVariants.{Memory}
use Rattle.tftp_server.specs.Request.{RequestStep, Left}
use Rattle.tftp_server.specs.Shortage.{LacksMemoryAt}
use Rattle.tftp_server.specs.Work.{WorksAt}
use Rattle.tftp_sockets.specs.Watch.{deadline_of, last_moment, later_within}
use Rattle.tftp_sockets.specs.declared.watch.Watch.{Watch}
use Rattle.tftp_sockets.specs.declared.watch.TheConstants.{LONGEST_WAIT}
use Rattle.tftp_lines.specs.Printed.{line_text}
use Rattle.tftp_lines.specs.declared.printed.Printed.TheVariants.{Closed}
use Rattle.tftp_sockets.specs.Trace.{SocketEvent, QuietEvent, replied, answered}
use Rattle.tftp_sockets.specs.Trace.SocketEvent.{Received, Watched, Elapsed, Printed, Quiet}
use Rattle.tftp_sockets.specs.Trace.QuietEvent.{Empty, Failed, New_socket, No_socket}
use Rattle.tftp_sockets.specs.Trace.QuietEvent.{Out_of_memory, Drain_signalled}
use Rattle.tftp_sockets.specs.Trace.QuietEvent.{Slept, Woke}
use Rattle.tftp_sockets.specs.Quiet.{has_woken, is_among, was_tried}
use Rattle.tftp_loop.specs.MayOpen.{LacksMemoryToOpen, MayOpen}
use Rattle.tftp_loop.specs.OnlyRequests.{IsHandledBy, begins_as_request}
use Rattle.tftp_loop.specs.PortOrder.{IsOneOf}
use Rattle.tftp_loop.specs.PortPool.{AreAllMissed}
use Rattle.tftp_loop.specs.declared.drain.Drain.{Drain}
use Rattle.tftp_loop.specs.declared.drain.Drain.TheVariants.{Never, Awaited, Begun}
use Rattle.tftp_loop.specs.declared.port_order.PortRange.{PortRange}
use Rattle.tftp_loop.specs.declared.serving.LoopConfig.{LoopConfig}

-- ---- the state

-- the timer of a transfer: the port, which is its identifier, the peer that requested it (RFC 1350,
-- section 4), the interval in seconds and the deadline in milliseconds (RFC 2349, "Timeout Interval
-- Option Specification")
pub record Timer : Type 0 where
  pub port : ℕ
  pub peer : Endpoint
  pub interval : ℕ
  -- how long it waits after timeouts, and how many made it send again since the opening or the
  -- newest progress
  pub backoff : Backoff
  pub timeouts : ℕ
  pub deadline : ℕ
  -- whether a datagram may be at the port
  pub marked : Bool
  -- when the port is read again, marked or not
  pub look_at : ℕ
  -- whether the deadline is provisional: it counts from a time that was read before the newest
  -- opening, progress or timeout, and the next reading of the clock sets it
  pub provisional : Bool
  -- the time behind which the transfer is over age, and its datagrams are dropped
  pub age_limit : ℕ
  -- how many datagrams were received at the port since the newest wait
  pub received : ℕ

-- a server, the timer of one of its transfers, and the trace
pub record PortState (S F D : Type 0) : Type 0 where
  pub server : ServerState S F D
  pub timer : Timer
  pub events : List SocketEvent

-- a server at its ports
pub record LoopState (S F D : Type 0) : Type 0 where
  -- the request port
  pub requests : ℕ
  -- the range that the ports of transfers are of, if there is one
  pub range : Option PortRange
  -- the age behind which a transfer makes no progress, in seconds, if there is one
  pub longest : Option ℕ
  -- how long a transfer waits after timeouts
  pub backoff : Backoff
  -- whether only requests are handled at the request port
  pub requests_only : Bool
  -- how many transfers one address has open at most, if there is a limit
  pub per_client : Option ℕ
  pub server : ServerState S F D
  -- the datagram received there and not handled yet
  pub pending : Option (Endpoint × List ℕ)
  -- one for each transfer, in no order
  pub timers : List Timer
  -- the time of the watch, in milliseconds
  pub now : ℕ
  -- the newest reading of the clock, in milliseconds
  pub reading : ℕ
  -- up to which time this round lasts at most, by the clock of the program
  pub limit : ℕ
  -- whether the clock is yet to be read since the newest wait
  pub woken : Bool
  -- whether a datagram may be at the request port
  pub marked : Bool
  -- whether one was received there since the newest wait
  pub asked : Bool
  -- whether it takes no new request, and ends once what is open has closed
  pub drain : Drain
  -- how many transfers are yet to close, and how many waits may still begin
  pub left : ℕ
  pub rounds : ℕ
  -- the last event first
  pub events : List SocketEvent

-- how many of these transfers are of peers with the address of this endpoint
abbrev pub open_of : Endpoint → List Timer → ℕ
open_of from [] = 0
open_of from (timer ∷ timers) =
    (if same_address timer.peer from then 1 else 0) + open_of from timers

-- the address of an endpoint has as many open as one address may have, if there is a limit
abbrev pub has_most : Option ℕ → Endpoint → List Timer → Bool
has_most None from timers = false
has_most (Some most) from timers = nat_le most (open_of from timers)

-- the watch of a server
abbrev pub watch_of : {S F D : Type 0} → LoopState S F D → Watch
watch_of s = record { now = s.now; reading = s.reading }

-- whether a server drains: it takes no new request
abbrev pub is_draining : Drain → Bool
is_draining Never = false
is_draining Awaited = false
is_draining Begun = true

-- what a server begins with: it awaits a signal to drain, or none is given
abbrev pub drain_of : Bool → Drain
drain_of true = Awaited
drain_of false = Never

-- the time after an opening or progress at which a port is read again though no wait reported it,
-- in milliseconds: a second datagram that arrived with the first is reported only once
abbrev pub look_after : ℕ
look_after = 500

-- how many datagrams are received at the port of a transfer between two waits, at most
abbrev pub most_in_round : ℕ
most_in_round = 64

-- when a port is read again, if its transfer opens or advances now
abbrev pub next_look : ℕ → ℕ → ℕ
next_look now interval = min (deadline_of now interval) (min (now + look_after) last_moment)

-- the time behind which a transfer that opens now is over age: so many seconds from now, or never
abbrev pub age_limit_of : ℕ → Option ℕ → ℕ
age_limit_of now None = last_moment
age_limit_of now (Some seconds) = deadline_of now seconds

-- up to which time the watch advances in a round: to its limit, and by a second at most
abbrev pub round_end : ℕ → ℕ → ℕ
round_end now limit = min limit (min (now + LONGEST_WAIT) last_moment)

-- how long a transfer waits for its next timeout, in seconds (RFC 1123, section 4.2.3.2)
abbrev pub wait_in : Timer → ℕ
wait_in timer = wait_of timer.backoff timer.interval timer.timeouts

-- the timer with this number of timeouts, expiring one wait from now
abbrev pub expiring : ℕ → ℕ → Timer → Timer
expiring now timeouts timer =
    record timer {
      timeouts = timeouts;
      deadline = deadline_of now (wait_of timer.backoff timer.interval timeouts);
      look_at = deadline_of now (wait_of timer.backoff timer.interval timeouts);
      provisional = true;
    }

-- how many timeouts made a transfer send again after one more, which did, or did not: as many as a
-- byte counts
abbrev pub timeouts_after : Bool → ℕ → ℕ
timeouts_after true timeouts = min (timeouts + 1) 255
timeouts_after false timeouts = timeouts

-- whether a timeout made a transfer send again; if none is open, it did not
abbrev pub sends_again : Option Step → Bool
sends_again None = false
sends_again (Some step) = is_some step.to

-- the timer after a timeout that made the transfer send again, or did not
abbrev pub restarted : ℕ → Bool → Timer → Timer
restarted now again timer = expiring now (timeouts_after again timer.timeouts) timer

-- the timer whose port may have a datagram, or has none: it is read when it is marked, or when the
-- timer expires
abbrev pub marked_as : Bool → Timer → Timer
marked_as marked timer = record timer { marked = marked; look_at = timer.deadline }

-- the timer after a datagram, which is counted: progress restarts it, and the port is left for a
-- while; else more datagrams may be there
abbrev pub timer_after : ℕ → Bool → Timer → Timer
timer_after now true timer =
    record timer {
      timeouts = 0;
      deadline = deadline_of now (wait_of timer.backoff timer.interval 0);
      marked = false;
      look_at = next_look now (wait_of timer.backoff timer.interval 0);
      provisional = true;
      received = timer.received + 1;
    }
timer_after now false timer =
    record timer { marked = true; look_at = timer.deadline; received = timer.received + 1 }

-- the timer of a transfer that opens now, and is over age after so many seconds, if it ever is
abbrev pub started : ℕ → Option ℕ → Backoff → ℕ → Endpoint → ℕ → Timer
started now longest backoff port peer interval =
    record {
      port = port;
      peer = peer;
      interval = interval;
      backoff = backoff;
      timeouts = 0;
      deadline = deadline_of now (wait_of backoff interval 0);
      marked = false;
      look_at = next_look now (wait_of backoff interval 0);
      provisional = true;
      age_limit = age_limit_of now longest;
      received = 0;
    }

-- the deadline after a reading of the clock, if it was provisional or not: a wait from a time
-- that was read after the opening, the progress or the timeout that it counts from, and never
-- earlier than before (RFC 2349, "Timeout Interval Option Specification")
abbrev pub deadline_by : ℕ → Bool → Timer → ℕ
deadline_by time true timer = max timer.deadline (deadline_of time (wait_in timer))
deadline_by time false timer = timer.deadline

-- the timer after a reading of the clock: its deadline is set
abbrev pub set_by : ℕ → Timer → Timer
set_by time timer =
    record timer {
      deadline = deadline_by time timer.provisional timer;
      provisional = false;
    }

-- the timer after a wait that reported these ports
abbrev pub marked_by : List ℕ → Timer → Timer
marked_by ports timer =
    record timer { marked = timer.marked || is_among timer.port ports; received = 0 }

-- ---- at the port of a transfer

module _ {S F D : Type 0} where
  -- the transfer at the port makes the step of a timeout, and its datagram is sent at once, from
  -- that port to the endpoint that the step returns (RFC 1350, section 2)
  pub record AnswersTimeout (port : ℕ) (old new : ServerState S F D)
      (before after : List SocketEvent) (step : Step) : Type 0 where
    pub outgoing : Outgoing
    pub times_out : TimesOutLent port old.held new.held step outgoing
    pub rest : new ≡ record old { held = new.held }
    pub events : after ≡ answered port (timeout_turn times_out.transfer.end).reply before

module _ {S F D : Type 0} (meaning : StoreMeaning S D) (sources : SourceMeaning F) where
  -- the transfer at the port handles a datagram, and the answer is sent at once, from that port to
  -- the endpoint that the step returns (RFC 1350, section 4)
  pub record AnswersDatagram (port : ℕ) (from : Endpoint) (bytes : List ℕ)
      (old new : ServerState S F D) (before after : List SocketEvent) (step : Step) : Type 0 where
    pub outgoing : Outgoing
    pub takes : TakesDatagramLent meaning sources port from bytes old new step outgoing
    pub config : new.config ≡ old.config
    pub events : after ≡ answered port takes.takes.turn.reply before

  -- the datagram is lost, only if no transfer is open, or if a block is read or stored and memory
  -- was refused or the file answered `Memory`
  pub record LosesDatagram (port : ℕ) (from : Endpoint) (bytes : List ℕ)
      (old new : ServerState S F D) : Type 0 where
    pub fault : ServerFault
    pub why : DatagramFaultLent from bytes (at port old.held) fault
    -- what lacks memory
    pub lacks : fault ≡ Memory
        → LacksMemoryAt meaning sources AppendsNothing port from bytes old new
    pub keeps : KeepsHeld meaning sources port (at port old.held) old new
    pub config : new.config ≡ old.config

  -- a source reads ahead, or a draft is written back
  pub record WorksAtPort (port : ℕ) (old new : ServerState S F D) : Type 0 where
    pub works : WorksAt meaning sources port (at port old.held) old new
    pub config : new.config ≡ old.config

  module _ (now : ℕ) (old new : PortState S F D) where
    -- a datagram is received and handled, since the transfer is not over age; progress restarts the
    -- timer. Few datagrams were received there since the newest wait
    pub record ReceivesAndHandles : Type 0 where
      pub few : old.timer.received < most_in_round
      pub in_time : now ≤ old.timer.age_limit
      pub from : Endpoint
      pub bytes : List ℕ
      pub step : Step
      pub handles : AnswersDatagram old.timer.port from bytes old.server new.server
          (Received old.timer.port from bytes ∷ old.events) new.events step
      pub timer : new.timer ≡ timer_after now step.progress old.timer

    -- a datagram is received and lost
    pub record ReceivesAndLoses : Type 0 where
      pub few : old.timer.received < most_in_round
      pub in_time : now ≤ old.timer.age_limit
      pub from : Endpoint
      pub bytes : List ℕ
      pub loses : LosesDatagram old.timer.port from bytes old.server new.server
      pub timer : new.timer ≡ timer_after now false old.timer
      pub events : new.events ≡ Received old.timer.port from bytes ∷ old.events

    -- a datagram is received once the transfer is over age, and dropped
    pub record ReceivesLate : Type 0 where
      pub few : old.timer.received < most_in_round
      pub late : old.timer.age_limit < now
      pub from : Endpoint
      pub bytes : List ℕ
      pub server : new.server ≡ old.server
      pub timer : new.timer ≡ timer_after now false old.timer
      pub events : new.events ≡ Received old.timer.port from bytes ∷ old.events

    -- a receive finds nothing
    pub record FindsNothing : Type 0 where
      pub server : new.server ≡ old.server
      pub timer : new.timer ≡ marked_as false old.timer
      pub events : new.events ≡ Quiet (Empty old.timer.port) ∷ old.events

    -- a receive fails otherwise: the port stays marked
    pub record FailsToReceive : Type 0 where
      pub server : new.server ≡ old.server
      pub timer : new.timer ≡ marked_as true old.timer
      pub events : new.events ≡ Quiet (Failed old.timer.port) ∷ old.events

    -- a due timeout is delivered, once its port was read and is not left for a while, and the timer
    -- restarts (RFC 1350, section 2)
    pub record DeliversTimeout : Type 0 where
      pub step : Step
      pub due : old.timer.deadline ≤ now
      pub tried : was_tried old.timer.port old.events ≡ true
      pub looked : old.timer.look_at ≡ old.timer.deadline
      pub times_out : AnswersTimeout old.timer.port old.server new.server
          (Elapsed old.timer.port now ∷ old.events) new.events step
      pub timer : new.timer ≡ restarted now (is_some step.to) old.timer

    -- a due timeout finds no open transfer, and nothing is sent
    pub record MissesTimeout : Type 0 where
      pub due : old.timer.deadline ≤ now
      pub looked : old.timer.look_at ≡ old.timer.deadline
      pub closed : is_open (at old.timer.port old.server.held) ≡ false
      pub server : new.server ≡ old.server
      pub timer : new.timer ≡ restarted now false old.timer
      pub events : new.events ≡ Elapsed old.timer.port now ∷ old.events

    -- the file of the transfer reads ahead or is written back
    pub record FileWorks : Type 0 where
      pub works : WorksAtPort old.timer.port old.server new.server
      pub timer : new.timer ≡ old.timer
      pub events : new.events ≡ old.events

    -- what happens at the port of a transfer
    pub data PortStep : Type 0 where
      A_datagram : ReceivesAndHandles → PortStep
      A_lost_datagram : ReceivesAndLoses → PortStep
      A_late_datagram : ReceivesLate → PortStep
      Nothing_found : FindsNothing → PortStep
      A_failed_receive : FailsToReceive → PortStep
      A_timeout : DeliversTimeout → PortStep
      A_missed_timeout : MissesTimeout → PortStep
      Work : FileWorks → PortStep

-- ---- at all ports

-- the port that answers a datagram of the request port: the port of the transfer, if one opens
-- (RFC 1350, section 4)
abbrev pub answering_port : ℕ → Option ℕ → ℕ
answering_port requests None = requests
answering_port requests (Some port) = port

module _ {F D : Type 0} where
  -- the agreed interval of a transfer in seconds, or the default
  abbrev pub interval_at : Option (TransferState F D) → ℕ
  interval_at None = DEFAULT_INTERVAL
  interval_at (Some held) = interval_of (terms_of held.end.position.phase)

  -- the timers after a request: the timer of an opened transfer starts now
  abbrev pub with_timer : ℕ → Option ℕ → Backoff → Endpoint → Option ℕ
      → List (ℕ × TransferState F D) → List Timer → List Timer
  with_timer now longest backoff from None held timers = timers
  with_timer now longest backoff from (Some port) held timers =
      timers ++ started now longest backoff port from (interval_at (at port held)) ∷ []

module _ {S F D : Type 0} where
  -- the state at the port of a transfer with this timer
  abbrev pub port_state : LoopState S F D → Timer → PortState S F D
  port_state old timer = record { server = old.server; timer = timer; events = old.events }

  -- the server after a datagram of the request port and its answer
  abbrev pub after_request : LoopState S F D → Endpoint → Left S F D → LoopState S F D
  after_request old from left =
      record old {
        server = left.new;
        pending = None;
        timers = with_timer old.now old.longest old.backoff from left.opened.tid left.new.held
            old.timers;
        events = replied (answering_port old.requests left.opened.tid) left.opened.to left.sent
            old.events;
      }

-- ---- a datagram of the request port

-- the last event is this one
pub record IsLast (event : QuietEvent) (events : List SocketEvent) : Type 0 where
  pub earlier : List SocketEvent
  pub is : events ≡ Quiet event ∷ earlier

module _ {S F D : Type 0} where
  -- whether the port is that of a transfer, or the request port
  abbrev pub is_taken : LoopState S F D → ℕ → Bool
  is_taken s port = (port == s.requests) || is_some (at port s.server.held)

module _ {S F D : Type 0} (meaning : StoreMeaning S D) (sources : SourceMeaning F)
    (old : LoopState S F D) (from : Endpoint) (bytes : List ℕ) where
  -- what is noted of the pending datagram before it is answered or lost
  pub data RequestNote : Type 0 where
    -- it may open a transfer, and no socket could be bound to a port, one of the range, if there is
    -- one
    Found_no_port : MayOpen old.server from bytes → (port : ℕ) → IsOneOf old.range port
        → RequestNote
    -- it may open a transfer, and a new socket is bound to a port, one of the range, if there is
    -- one
    Found_port : MayOpen old.server from bytes → (port : ℕ) → IsOneOf old.range port → RequestNote
    -- memory was refused for its path, or for the transfer that it opens
    Found_no_memory : LacksMemoryToOpen meaning sources old.server from bytes → RequestNote

  -- why the pending datagram is lost
  pub data RequestLoss : Type 0 where
    -- no answer can come to its sender, which is at port 0
    No_answer : from.port ≡ 0 → RequestLoss
    -- only requests are handled, and it begins neither as RRQ nor as WRQ: it is dropped, as if the
    -- network had lost it (RFC 1350, section 5)
    No_request : old.requests_only ≡ true → begins_as_request bytes ≡ false → RequestLoss
    -- memory was refused for its path, or for the transfer that it opens, and the last event is
    -- that it was
    No_memory_to_open : LacksMemoryToOpen meaning sources old.server from bytes
        → IsLast Out_of_memory old.events → RequestLoss
    -- it may open a transfer, and the last event is that no socket could be bound to a port; if
    -- there is a range, none could be bound to any port of it by the newest events
    No_port : MayOpen old.server from bytes → (port : ℕ) → IsLast (No_socket port) old.events
        → AreAllMissed old.range old.events → RequestLoss
    -- it may open a transfer, and the last event is that the system bound a new socket to the port
    -- of another, or to the request port
    Same_port : MayOpen old.server from bytes → (port : ℕ) → IsLast (New_socket port) old.events
        → is_taken old port ≡ true → RequestLoss
    -- it may open a transfer, and the address of its sender has as many open as one may have: it is
    -- dropped, as if the network had lost it
    Too_many : MayOpen old.server from bytes
        → has_most old.per_client from old.timers ≡ true → RequestLoss

-- the event of a note
abbrev pub note_event : {S F D : Type 0} {meaning : StoreMeaning S D} {sources : SourceMeaning F}
    {old : LoopState S F D} {from : Endpoint} {bytes : List ℕ}
    → RequestNote meaning sources old from bytes → QuietEvent
note_event (Found_no_port opens port within) = No_socket port
note_event (Found_port opens port within) = New_socket port
note_event (Found_no_memory lacks) = Out_of_memory

-- what the search for a port and for memory finds is noted of the pending datagram
pub record NotesRequest {S F D : Type 0} (meaning : StoreMeaning S D) (sources : SourceMeaning F)
    (old new : LoopState S F D) : Type 0 where
  pub from : Endpoint
  pub bytes : List ℕ
  pub pending : old.pending ≡ Some (from, bytes)
  pub note : RequestNote meaning sources old from bytes
  pub is : new ≡ record old { events = Quiet (note_event note) ∷ old.events }

-- a store is set for the next transfer, its port and then its longest length: each call leaves of
-- it what writing a draft back leaves
pub record IsSet {S D : Type 0} (meaning : StoreMeaning S D) (old new : S) : Type 0 where
  pub between : S
  pub port : meaning.after_write_behind old between
  pub longest : meaning.after_write_behind between new

-- ---- waits

-- until the nearest time at which a port is read, at most a second, in milliseconds
abbrev pub until_look : ℕ → List Timer → ℕ
until_look now [] = LONGEST_WAIT
until_look now (timer ∷ timers) = min (timer.look_at - now) (until_look now timers)

module _ {S F D : Type 0} where
  -- whether the request port is read: it is marked, and the server does not drain
  abbrev pub reads_requests : LoopState S F D → Bool
  reads_requests old = not (is_draining old.drain) && old.marked

  -- whether the server has something to do at once: a port that is marked, or a pending datagram
  abbrev pub is_busy : LoopState S F D → Bool
  is_busy old =
      reads_requests old
      || (is_some old.pending || list_any (λ timer. timer.marked) old.timers)

  -- the longest wait, in milliseconds: none if there is something to do
  abbrev pub most_millis : LoopState S F D → ℕ
  most_millis old = if is_busy old then 0 else until_look old.now old.timers

  -- a transfer is served: its port is not marked, or was read since the last wait; it is not due,
  -- or its timer started at this moment; and if it closed it is removed
  pub record IsServed (old : LoopState S F D) (timer : Timer) : Type 0 where
    pub read : timer.marked ≡ true → was_tried timer.port old.events ≡ true
    pub due : (old.now < timer.deadline) ⊎ (timer.deadline ≡ deadline_of old.now (wait_in timer))
    pub look : (old.now < timer.look_at) ⊎ ((timer.look_at ≡ timer.deadline)
        ⊎ (timer.look_at ≡ next_look old.now (wait_in timer)))
    pub not_closed : taken_of (at timer.port old.server.held) ≡ None

  -- the state once the clock was read before a wait: each deadline is set
  abbrev pub read_at : Watch → LoopState S F D → LoopState S F D
  read_at watch old =
      record old {
        now = watch.now;
        reading = watch.reading;
        timers = map (set_by watch.now) old.timers;
        events = Watched watch ∷ old.events;
      }

  -- the watch after a reading of the clock: its time is what the reading makes of the watch before,
  -- in a round. So it never goes back, and a round lasts a second at most
  pub record IsReadBy (old : LoopState S F D) (watch : Watch) : Type 0 where
    pub time : watch.now ≡ later_within (watch_of old) watch.reading (round_end old.now old.limit)
    pub forward : old.now ≤ watch.now
    pub soon : watch.now ≤ max old.now (round_end old.now old.limit)

  -- a wait of at most so long, which reported these ports, is allowed, if the clock is read before
  -- it, and the watch is this then
  pub record MayWait (old : LoopState S F D) (watch : Watch) (millis : ℕ) (ports : List ℕ)
      : Type 0 where
    -- the clock was read after the newest wait
    pub read : old.woken ≡ false
    -- the loop goes on
    pub left : 1 ≤ old.left
    pub rounds : 1 ≤ old.rounds
    -- the request port was read since the last wait, if it is marked and the server does not drain,
    -- or its datagram is pending: so a datagram is pending at one wait at most, since it is not
    -- read while one is
    pub requests : (reads_requests old || is_some old.pending) ≡ true
        → was_tried old.requests old.events ≡ true
    pub transfers : All (IsServed old) old.timers
    -- it is no longer than there is nothing to do
    pub longest : millis ≤ most_millis (read_at watch old)
    -- it takes no time only if there is something to do, or ports were reported at once
    pub shortest : millis ≡ 0 → (most_millis (read_at watch old) ≡ 0) ⊎ (ports ≢ [])

module _ {S F D : Type 0} (meaning : StoreMeaning S D) (sources : SourceMeaning F)
    (old new : LoopState S F D) where
  -- the clock is read, which sets each provisional deadline; then the server waits, and marks the
  -- ports that were reported. The round up to the next wait ends a second after this one began
  pub record Waits : Type 0 where
    pub watch : Watch
    pub by : IsReadBy old watch
    pub millis : ℕ
    pub ports : List ℕ
    pub may : MayWait old watch millis ports
    pub is : new ≡ record old {
      marked = old.marked || is_among old.requests ports;
      asked = false;
      timers = map (marked_by ports) (map (set_by watch.now) old.timers);
      now = watch.now;
      reading = watch.reading;
      limit = min (old.now + LONGEST_WAIT) last_moment;
      woken = true;
      rounds = old.rounds - 1;
      events = Quiet (Woke ports) ∷ Quiet (Slept millis) ∷ Watched watch ∷ old.events;
    }

  -- a step at the port of a transfer
  pub record ServesPort : Type 0 where
    pub index : ℕ
    pub timer : Timer
    pub within : index < length old.timers
    pub is_timer : timer ≡ slice_index_or old.timers index timer
    pub next : PortState S F D
    pub does : PortStep meaning sources old.now (port_state old timer) next
    pub is : new ≡ record old {
      server = next.server;
      timers = slice_set old.timers index next.timer;
      events = next.events;
    }

  -- a datagram is received at the request port while none is pending, the first since the newest
  -- wait; the server does not drain
  pub record ReceivesRequest : Type 0 where
    pub from : Endpoint
    pub bytes : List ℕ
    pub none : old.pending ≡ None
    pub goes_on : is_draining old.drain ≡ false
    pub first : old.asked ≡ false
    pub is : new ≡ record old {
      pending = Some (from, bytes);
      marked = true;
      asked = true;
      events = Received old.requests from bytes ∷ old.events;
    }

  -- a receive at the request port finds nothing, while none is pending; the server does not drain
  pub record FindsNoRequest : Type 0 where
    pub none : old.pending ≡ None
    pub goes_on : is_draining old.drain ≡ false
    pub is : new ≡ record old {
      marked = false;
      events = Quiet (Empty old.requests) ∷ old.events;
    }

  -- a receive at the request port fails otherwise, while none is pending: it stays marked; the
  -- server does not drain
  pub record FailsToReceiveRequest : Type 0 where
    pub none : old.pending ≡ None
    pub goes_on : is_draining old.drain ≡ false
    pub is : new ≡ record old {
      marked = true;
      events = Quiet (Failed old.requests) ∷ old.events;
    }

  -- the server, as it is now, handles the pending datagram, and the answer is sent at once: an
  -- ERROR from the request port, or the first datagram of a transfer from a port that no transfer
  -- has, that is not the request port, and that is one of the range, if there is one (RFC 1350,
  -- section 4; RFC 2347, "Negotiation Protocol"). A draft that it stores in has the name of that
  -- port. If only requests are handled, it begins as one; if it opens a transfer, its sender's
  -- address has fewer open than one may have
  pub record AnswersRequest : Type 0 where
    pub from : Endpoint
    pub bytes : List ℕ
    pub pending : old.pending ≡ Some (from, bytes)
    pub handled : IsHandledBy old.requests_only bytes
    pub tid : ℕ
    pub free : at tid old.server.held ≡ None
    pub left : Left S F D
    pub port : IfSome left.opened.tid (IsOneOf old.range)
    pub own : IfSome left.opened.tid (λ port. port ≢ old.requests)
    pub set : IfSome left.opened.tid (λ _. meaning.is_set_to old.server.store tid)
    pub few : IfSome left.opened.tid
        (λ port. has_most old.per_client from old.timers ≡ false)
    pub steps : RequestStep meaning sources old.server from bytes tid left
    pub is : new ≡ after_request old from left

  -- the pending datagram is lost
  pub record LosesRequest : Type 0 where
    pub from : Endpoint
    pub bytes : List ℕ
    pub pending : old.pending ≡ Some (from, bytes)
    pub why : RequestLoss meaning sources old from bytes
    pub is : new ≡ record old { pending = None }

  -- the clock is read, directly after a wait: it never goes back, and a round lasts a second at
  -- most
  pub record ReadsClock : Type 0 where
    pub watch : Watch
    pub woken : has_woken old.events ≡ true
    pub by : IsReadBy old watch
    pub is : new ≡ record old {
      now = watch.now;
      reading = watch.reading;
      limit = round_end old.now old.limit;
      woken = false;
      events = Watched watch ∷ old.events;
    }

  -- the store is set for the next transfer; its stored files do not change
  pub record SetsStore : Type 0 where
    pub store : S
    pub same : meaning.stored store ≡ meaning.stored old.server.store
    pub behind : IsSet meaning old.server.store store
    pub is : new ≡ record old { server = record old.server { store = store } }

  -- a closed transfer is removed with its timer, and its line is printed at once, with its port,
  -- the peer's port and its outcome; its identifier is free
  pub record Closes : Type 0 where
    pub index : ℕ
    pub timer : Timer
    pub within : index < length old.timers
    pub is_timer : timer ≡ slice_index_or old.timers index timer
    pub taken : Record × Option D
    pub is_taken : taken_of (at timer.port old.server.held) ≡ Some taken
    pub outcome : Outcome
    pub has_outcome : taken.0.outcome ≡ Some outcome
    pub left : 1 ≤ old.left
    pub is : new ≡ record old {
      server = record old.server { held = without timer.port old.server.held };
      timers = swap_remove old.timers index timer;
      left = old.left - 1;
      events = Printed (line_text (Closed timer.port timer.peer.port outcome)) ∷ old.events;
    }

  -- a look found that the signal to drain was given: from now on no new request is taken
  pub record BeginsDrain : Type 0 where
    pub awaited : old.drain ≡ Awaited
    pub is : new ≡ record old {
      drain = Begun;
      events = Quiet Drain_signalled ∷ old.events;
    }

  -- the steps of the loop
  pub data LoopStep : Type 0 where
    Waited : Waits → LoopStep
    At_port : ServesPort → LoopStep
    Request_received : ReceivesRequest → LoopStep
    No_request_found : FindsNoRequest → LoopStep
    Request_not_received : FailsToReceiveRequest → LoopStep
    Request_noted : NotesRequest meaning sources old new → LoopStep
    Request_answered : AnswersRequest → LoopStep
    Request_lost : LosesRequest → LoopStep
    Clock_read : ReadsClock → LoopStep
    Store_set : SetsStore → LoopStep
    Transfer_closed : Closes → LoopStep
    Drain_begun : BeginsDrain → LoopStep

-- a server of this configuration with a bound request port that has received nothing: its transfers
-- have ports of the range, if there is one, and it ends after so many closed transfers or waits,
-- or once it has drained, if it awaits a signal for that. Its watch starts at this reading
abbrev pub at_start : {S F D : Type 0} → LoopConfig → ℕ → ServerState S F D → ℕ
    → List SocketEvent → LoopState S F D
at_start config requests server reading events =
    record {
      requests = requests;
      range = config.ports;
      longest = config.longest;
      backoff = config.backoff;
      requests_only = config.requests_only;
      per_client = config.per_client;
      server = server;
      pending = None;
      timers = [];
      now = 0;
      reading = reading;
      limit = LONGEST_WAIT;
      woken = false;
      marked = true;
      asked = false;
      drain = drain_of config.drains;
      left = config.ending.transfers;
      rounds = config.ending.rounds;
      events = events;
    }
