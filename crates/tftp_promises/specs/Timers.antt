-- The timers of a server: one for each transfer that it holds, so that a datagram or a timeout at a
-- port is for one transfer only (RFC 1350, section 4).
use Rattle.std.specs.List.{Contains}
use Rattle.std.specs.Prelude.{ℕ, ◌≡◌, List, [], map, ◌↔◌}
use Rattle.tftp_promises.specs.Common.{SourceMeaning, StoreMeaning, LoopStep, LoopState}
use Rattle.tftp_promises.specs.Common.{SocketEvent, Run, at, at_start, ServerState, LoopConfig}
use Rattle.std.specs.Prelude.{IsSome}
use Rattle.std.specs.Map.{keys_of}
use Rattle.tftp_loop.specs.Steps.{Timer}
use Rattle.tftp_promises.specs.Ports.{AreDistinct}

-- the ports of the timers
abbrev pub timer_ports : List Timer → List ℕ
timer_ports timers = map (λ (timer : Timer). timer.port) timers

module _ {S F D : Type 0} where
  -- each transfer that the server holds has one timer, at its port, and no timer is of another
  pub record HasOneTimerEach (state : LoopState S F D) : Type 0 where
    -- no two timers have one port
    pub timers : AreDistinct (timer_ports state.timers)
    -- no two transfers have one port, so that the one that is found there is the only one
    pub transfers : AreDistinct (keys_of state.server.held)
    -- a port has a timer exactly if the server holds a transfer there
    pub same : (port : ℕ)
        → Contains (timer_ports state.timers) port ↔ IsSome (at port state.server.held)

  -- at each time of a run that began with no transfer
  abbrev pub EachHasOneTimer : StoreMeaning S D → SourceMeaning F → Type 0
  EachHasOneTimer stores sources =
      (config : LoopConfig) (port reading : ℕ) (first : ServerState S F D)
      (before : List SocketEvent) (now : LoopState S F D)
      → first.held ≡ []
      → Run (LoopStep stores sources) (at_start config port first reading before) now
      → HasOneTimerEach now
