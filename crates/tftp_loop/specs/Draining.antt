-- What a server does once it drains (ours).
use Rattle.std.specs.Prelude.{ℕ, ◌≡◌, ⊤, false, List}
use Rattle.tftp_file.specs.Source.{SourceMeaning}
use Rattle.tftp_store.specs.Store.{StoreMeaning}
use Rattle.tftp_server.specs.State.{ServerState}
use Rattle.tftp_sockets.specs.Trace.{SocketEvent}
use Rattle.tftp_loop.specs.Run.{Run}
use Rattle.tftp_loop.specs.Steps.{LoopState, LoopStep, BeginsDrain, at_start}
use Rattle.tftp_loop.specs.Steps.LoopStep.{Request_received, No_request_found, Request_not_received}
use Rattle.tftp_loop.specs.Steps.LoopStep.{Drain_begun}
use Rattle.tftp_loop.specs.declared.drain.Drain.TheVariants.{Begun, Never}
use Rattle.tftp_loop.specs.declared.serving.LoopConfig.{LoopConfig}

module _ {S F D : Type 0} (meaning : StoreMeaning S D) (sources : SourceMeaning F) where
  -- a step that receives nothing at the request port, and that begins no drain
  abbrev pub IsFinishing : {old new : LoopState S F D} → LoopStep meaning sources old new → Type 0
  IsFinishing (Request_received receives) = ⊥
  IsFinishing (No_request_found finds) = ⊥
  IsFinishing (Request_not_received fails) = ⊥
  IsFinishing (Drain_begun begins) = ⊥
  IsFinishing does = ⊤

  pub data FinishesWork (old new : LoopState S F D) : Type 0 where
    Finishes_by : (does : LoopStep meaning sources old new) → IsFinishing does
        → FinishesWork old new

  -- once it drains nothing is received at the request port, whatever comes there
  abbrev pub OnlyFinishes : Type 0
  OnlyFinishes =
      (old drains last : LoopState S F D) → BeginsDrain meaning sources old drains
      → Run (LoopStep meaning sources) drains last
      → Run FinishesWork drains last × (last.drain ≡ Begun)

  -- a server that awaits no signal never drains
  abbrev pub DrainsByASignal : Type 0
  DrainsByASignal =
      (config : LoopConfig) (port reading : ℕ) (server : ServerState S F D)
      (before : List SocketEvent) (last : LoopState S F D)
      → config.drains ≡ false
      → Run (LoopStep meaning sources) (at_start config port server reading before) last
      → last.drain ≡ Never
