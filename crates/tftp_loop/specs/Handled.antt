-- What a server has done with each datagram of its request port before it sleeps (RFC 1350,
-- section 4).
use Rattle.std.specs.Prelude.{ℕ, ◌≡◌, ◌≤◌, true, false, List}
use Rattle.tftp_file.specs.Source.{SourceMeaning}
use Rattle.tftp_ends.specs.declared.endpoint.Endpoint.{Endpoint}
use Rattle.tftp_store.specs.Store.{StoreMeaning}
use Rattle.tftp_server.specs.State.{ServerState}
use Rattle.tftp_sockets.specs.Trace.{SocketEvent}
use Rattle.tftp_sockets.specs.Quiet.{is_among, was_tried}
use Rattle.tftp_loop.specs.Run.{Run}
use Rattle.tftp_loop.specs.Steps.{LoopState, LoopStep, Waits, ReceivesRequest, AnswersRequest}
use Rattle.tftp_loop.specs.Steps.{LosesRequest, at_start, is_draining}
use Rattle.tftp_loop.specs.Reported.{GoesOn}
use Rattle.tftp_loop.specs.declared.serving.LoopConfig.{LoopConfig}

module _ {S F D : Type 0} (meaning : StoreMeaning S D) (sources : SourceMeaning F) where
  -- this datagram is answered, or lost for a reason
  pub data Resolves (from : Endpoint) (bytes : List ℕ) (old new : LoopState S F D) : Type 0 where
    By_answer : (answers : AnswersRequest meaning sources old new) → answers.from ≡ from
        → answers.bytes ≡ bytes → Resolves from bytes old new
    By_loss : (loses : LosesRequest meaning sources old new) → loses.from ≡ from
        → loses.bytes ≡ bytes → Resolves from bytes old new

  -- and that is a step of the run from the one state to the other
  pub record IsResolved (from : Endpoint) (bytes : List ℕ) (first last : LoopState S F D)
      : Type 0 where
    pub old : LoopState S F D
    pub new : LoopState S F D
    pub earlier : Run (LoopStep meaning sources) first old
    pub resolves : Resolves from bytes old new
    pub later : Run (LoopStep meaning sources) new last

  -- a datagram that was received at the request port is answered or lost before a wait that takes
  -- time
  abbrev pub HandlesBeforeItSleeps : Type 0
  HandlesBeforeItSleeps =
      (old received last new : LoopState S F D)
      → (receives : ReceivesRequest meaning sources old received)
      → Run (LoopStep meaning sources) received last
      → (waits : Waits meaning sources last new) → 1 ≤ waits.millis
      → IsResolved receives.from receives.bytes received last

  -- and before the second wait after its receipt, whether that takes time or not: the first one
  -- finds it pending, and receives none
  abbrev pub HandlesByTheNextWait : Type 0
  HandlesByTheNextWait =
      (config : LoopConfig) (port reading : ℕ) (server : ServerState S F D)
      (before : List SocketEvent) (old received waiting woken last new : LoopState S F D)
      → Run (LoopStep meaning sources) (at_start config port server reading before) old
      → (receives : ReceivesRequest meaning sources old received)
      → Run (LoopStep meaning sources) received waiting → Waits meaning sources waiting woken
      → Run (GoesOn meaning sources) woken last
      → Waits meaning sources last new
      → IsResolved receives.from receives.bytes received last

  -- the request port is read by the next wait after the one that reported it, unless it drains
  abbrev pub ReadsTheRequestPort : Type 0
  ReadsTheRequestPort =
      (old woken last new : LoopState S F D)
      → (waits : Waits meaning sources old woken) → is_among old.requests waits.ports ≡ true
      → Run (GoesOn meaning sources) woken last → Waits meaning sources last new
      → is_draining last.drain ≡ false → was_tried last.requests last.events ≡ true
