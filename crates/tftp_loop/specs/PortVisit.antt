-- What a visit of the port of a transfer leaves of its server, its port and the history.
use Rattle.std.specs.Prelude.{ℕ, ◌≡◌, true, List, ◌∷◌, IsSome}
use Rattle.tftp_file.specs.Source.{SourceMeaning}
use Rattle.tftp_store.specs.Store.{StoreMeaning}
use Rattle.tftp_server.specs.State.{at, taken_of}
use Rattle.tftp_sockets.specs.Trace.{SocketEvent}
use Rattle.tftp_sockets.specs.Trace.SocketEvent.{Received}
use Rattle.tftp_sockets.specs.Quiet.{was_tried}
use Rattle.tftp_loop.specs.declared.datagram.Datagram.{Datagram}
use Rattle.tftp_loop.specs.declared.port_visit.PortStatus.{PortStatus}
use Rattle.tftp_loop.specs.declared.port_visit.PortStatus.TheVariants as statuses
use Rattle.tftp_loop.specs.declared.port_visit.PortVisit.{PortVisit}
use Rattle.tftp_loop.specs.Fair.{ReceivesAtMost}
use Rattle.tftp_loop.specs.Run.{Run}
use Rattle.tftp_loop.specs.Steps.{PortStep, PortState}
use Rattle.tftp_loop.specs.LoopStates.{at_port, timer_of}
use Rattle.tftp_loop.specs.MayWait.{KeepsTries, LeavesTimer}

module _ {N S F D : Type 0} where
  -- two states of one visit: of the same server, port and device, at one time
  pub record IsSameVisit (old new : PortVisit N S F D) : Type 0 where
    pub server : new.server.ghost_name ≡ old.server.ghost_name
    pub port : new.port.ghost_name ≡ old.port.ghost_name
    pub net : new.net.ghost_name ≡ old.net.ghost_name
    pub now : new.now ≡ old.now
    pub active : new.active ≡ old.active

  -- what the result of a receive states of the visit: that its transfer has closed, or when its
  -- port is read
  pub record HasStatus (status : PortStatus) (visit : PortVisit N S F D) : Type 0 where
    pub closed : status ≡ statuses.Closed
        → IsSome (taken_of (at visit.port.now.socket.udp.port visit.server.now.held))
    pub timer : LeavesTimer status visit.now (timer_of visit.port.now)

  module _ (log : N → List SocketEvent) where
    -- the state at the port of a visit
    abbrev pub at_visit : PortVisit N S F D → PortState S F D
    at_visit visit = at_port visit.server.now visit.port.now (log visit.net.now)

    -- the port was read since the last wait
    abbrev pub IsTried : PortVisit N S F D → Type 0
    IsTried visit = was_tried visit.port.now.socket.udp.port (log visit.net.now) ≡ true

    module _ (meaning : StoreMeaning S D) (sources : SourceMeaning F) where
      -- a visit goes on by steps at its port, and receives at most so many datagrams
      pub record ServesVisit (most : ℕ) (old new : PortVisit N S F D) : Type 0 where
        pub same : IsSameVisit old new
        pub serves : Run (PortStep meaning sources old.now) (at_visit old) (at_visit new)
        pub received : ReceivesAtMost most (log old.net.now) (log new.net.now)

      -- a datagram that was received last is handled or lost, and its answer is sent
      pub record AnswersReceived (datagram : Datagram) (old new : PortVisit N S F D) : Type 0 where
        pub same : IsSameVisit old new
        pub serves : (events : List SocketEvent)
            → log old.net.now
            ≡ Received old.port.now.socket.udp.port datagram.from datagram.bytes.now ∷ events
            → Run (PortStep meaning sources old.now)
            (record { server = old.server.now; timer = timer_of old.port.now; events = events })
            (at_visit new)
        pub tries : KeepsTries (log old.net.now) (log new.net.now)
        pub received : ReceivesAtMost 0 (log old.net.now) (log new.net.now)
