-- What a server drops at its request port.
use Rattle.std.specs.Prelude.{ℕ, ◌≡◌, ◌⊎◌, ⊤, true, false, List}
use Rattle.tftp_wire.specs.Spelling.{Spells}
use Rattle.tftp_wire.specs.declared.packet.Packet.TheVariants.{Read, Write}
use Rattle.tftp_wire.specs.declared.packet.Request.{Request}
use Rattle.tftp_file.specs.Source.{SourceMeaning}
use Rattle.tftp_ends.specs.declared.endpoint.Endpoint.{Endpoint}
use Rattle.tftp_store.specs.Store.{StoreMeaning}
use Rattle.tftp_server.specs.State.{ServerState}
use Rattle.tftp_sockets.specs.Trace.{SocketEvent}
use Rattle.tftp_loop.specs.OnlyRequests.{begins_as_request}
use Rattle.tftp_loop.specs.Run.{Run}
use Rattle.tftp_loop.specs.Steps.{LoopState, LoopStep, AnswersRequest, LosesRequest, at_start}
use Rattle.tftp_loop.specs.Steps.{RequestLoss, No_request}
use Rattle.tftp_loop.specs.declared.serving.LoopConfig.{LoopConfig}

module _ {S F D : Type 0} (meaning : StoreMeaning S D) (sources : SourceMeaning F) where
  -- a datagram is lost because it is dropped
  abbrev pub IsDropped : {old : LoopState S F D} {from : Endpoint} {bytes : List ℕ}
      → RequestLoss meaning sources old from bytes → Type 0
  IsDropped (No_request only begins) = ⊤
  IsDropped why = ⊥

  -- what spells an RRQ or a WRQ is never dropped (RFC 1350, section 5)
  abbrev pub DropsNoRequest : Type 0
  DropsNoRequest =
      (old new : LoopState S F D) (loses : LosesRequest meaning sources old new) (request : Request)
      → Spells (Read request) loses.bytes ⊎ Spells (Write request) loses.bytes
      → IsDropped loses.why → ⊥

  -- a server that handles all datagrams drops none
  abbrev pub DropsOnlyIfTold : Type 0
  DropsOnlyIfTold =
      (config : LoopConfig) (port reading : ℕ) (server : ServerState S F D)
      (before : List SocketEvent) (old new : LoopState S F D)
      → config.requests_only ≡ false
      → Run (LoopStep meaning sources) (at_start config port server reading before) old
      → (loses : LosesRequest meaning sources old new) → IsDropped loses.why → ⊥

  -- one that handles only requests answers nothing else
  abbrev pub AnswersOnlyRequests : Type 0
  AnswersOnlyRequests =
      (config : LoopConfig) (port reading : ℕ) (server : ServerState S F D)
      (before : List SocketEvent) (old new : LoopState S F D)
      → config.requests_only ≡ true
      → Run (LoopStep meaning sources) (at_start config port server reading before) old
      → (answers : AnswersRequest meaning sources old new)
      → begins_as_request answers.bytes ≡ true
