-- What a server does with what a wait reported.
use Rattle.std.specs.Prelude.{ℕ, ◌≡◌, ⊤, true, List, map}
use Rattle.std.specs.List.{Contains}
use Rattle.tftp_file.specs.Source.{SourceMeaning}
use Rattle.tftp_store.specs.Store.{StoreMeaning}
use Rattle.tftp_server.specs.State.{ServerState}
use Rattle.tftp_sockets.specs.Trace.{SocketEvent}
use Rattle.tftp_sockets.specs.Quiet.{is_among, was_tried}
use Rattle.tftp_loop.specs.Run.{Run}
use Rattle.tftp_loop.specs.declared.serving.LoopConfig.{LoopConfig}
use Rattle.tftp_loop.specs.Steps.{Timer, LoopState, LoopStep, Waits, at_start}
use Rattle.tftp_loop.specs.Steps.LoopStep.{Waited}

-- a timer has the port
abbrev pub HasTimer : ℕ → List Timer → Type 0
HasTimer port timers = Contains (map (λ (timer : Timer). timer.port) timers) port

module _ {S F D : Type 0} (meaning : StoreMeaning S D) (sources : SourceMeaning F) where
  -- a step that is no wait
  abbrev pub IsNoWait : {old new : LoopState S F D} → LoopStep meaning sources old new → Type 0
  IsNoWait (Waited waits) = ⊥
  IsNoWait does = ⊤

  pub data GoesOn (old new : LoopState S F D) : Type 0 where
    Goes_by : (does : LoopStep meaning sources old new) → IsNoWait does → GoesOn old new

  -- a port that a wait reported, and that had a transfer then, was read by the next wait
  abbrev pub ReadsWhatIsReported : Type 0
  ReadsWhatIsReported =
      (config : LoopConfig) (requests reading : ℕ) (server : ServerState S F D)
      (before : List SocketEvent) (old woken last new : LoopState S F D)
      → Run (LoopStep meaning sources) (at_start config requests server reading before) old
      → (waits : Waits meaning sources old woken) → Run GoesOn woken last
      → Waits meaning sources last new
      → (port : ℕ) → is_among port waits.ports ≡ true → HasTimer port old.timers
      → was_tried port last.events ≡ true
