-- A whole run of a server over UDP, from one trace to the other (RFC 1350, section 4).
use Rattle.std.specs.Prelude.{ℕ, ◌≡◌, ◌⊎◌, List, [], ◌∷◌, None, Result, Ok, Err}
use Rattle.tftp_file.specs.Source.{SourceMeaning}
use Rattle.tftp_store.specs.Store.{StoreMeaning}
use Rattle.tftp_server.specs.State.{ServerState}
use Rattle.tftp_lines.specs.Printed.{line_text}
use Rattle.tftp_lines.specs.declared.printed.Printed.TheVariants.{Listening}
use Rattle.tftp_sockets.specs.Bound.{IsBoundTo}
use Rattle.tftp_sockets.specs.Trace.{SocketEvent}
use Rattle.tftp_sockets.specs.Trace.SocketEvent.{Printed}
use Rattle.tftp_loop.specs.Run.{Run}
use Rattle.tftp_loop.specs.Steps.{LoopStep, LoopState, at_start}
use Rattle.tftp_loop.specs.LoopStates.{FailsToBind, StopsServing, noted_at_end}
use Rattle.tftp_loop.specs.declared.drain.Drain.TheVariants.{Begun}
use Rattle.tftp_loop.specs.declared.serving.LoopConfig.{LoopConfig}
use Rattle.tftp_loop.specs.declared.serving.LoopFault.{LoopFault}

-- the trace after the line of the request port was printed
abbrev pub listening : List ℕ → ℕ → List SocketEvent → List SocketEvent
listening ip port events =
    Printed (line_text (Listening (record { ip = ip; port = port }))) ∷ events

module _ {S F D : Type 0} where
  -- a server that drains has nothing left to do: no datagram is pending, and no transfer is open
  pub record HasDrained (last : LoopState S F D) : Type 0 where
    pub begun : last.drain ≡ Begun
    pub none : last.pending ≡ None
    pub closed : last.timers ≡ []

  -- a run to its end: so many transfers closed, or so many waits are over, or it has drained
  abbrev pub IsOver : LoopState S F D → Type 0
  IsOver last = (last.left ≡ 0) ⊎ ((last.rounds ≡ 0) ⊎ HasDrained last)

  -- how a run with this result ended, from this trace on: without a fault it is over, and with
  -- one it stopped for it
  abbrev pub EndsBy : {A : Type 0} → List SocketEvent → Result A LoopFault → LoopState S F D
      → Type 0
  EndsBy before (Ok done) last = IsOver last
  EndsBy before (Err fault) last = StopsServing before fault last.events

-- only a port that could not be bound ended it
abbrev pub EndsUnbound : {A : Type 0} → Result A LoopFault → List SocketEvent → List SocketEvent
    → Type 0
EndsUnbound (Ok done) before after = ⊥
EndsUnbound (Err fault) before after = FailsToBind fault before after

module _ {S F D A : Type 0} (meaning : StoreMeaning S D) (sources : SourceMeaning F)
    (config : LoopConfig) where
  -- a server with a bound request port serves there, from one trace to the other, and ends with
  -- this result
  pub record RunsServerFrom (port : ℕ) (server : ServerState S F D) (result : Result A LoopFault)
      (before after : List SocketEvent) : Type 0 where
    -- the reading of the clock at which its watch starts
    pub reading : ℕ
    pub last : LoopState S F D
    pub run : Run (LoopStep meaning sources) (at_start config port server reading before) last
    pub noted : after ≡ noted_at_end result last.events
    pub ends : EndsBy before result last

  -- a whole run of this configuration, from one trace to the other: the request port could not be
  -- bound; or it is at the address and the port that it was to listen at, any port for 0, its line
  -- is printed, and then the server serves
  pub data RunsServer (server : ServerState S F D) (result : Result A LoopFault)
      (before after : List SocketEvent) : Type 0 where
    Unbound : EndsUnbound result before after → RunsServer server result before after
    Bound : (port : ℕ) → IsBoundTo config.listen config.listen.ip port
        → RunsServerFrom port server result (listening config.listen.ip port before) after
        → RunsServer server result before after
