-- What a server has done before a wait that may sleep.
use Rattle.std.specs.Prelude.{ℕ, ◌≡◌, ◌≤◌, ◌+◌, ◌⊎◌, true, false, List, None, All}
use Rattle.tftp_file.specs.Source.{SourceMeaning}
use Rattle.tftp_store.specs.Store.{StoreMeaning}
use Rattle.tftp_server.specs.State.{ServerState}
use Rattle.tftp_sockets.specs.declared.watch.TheConstants.{LONGEST_WAIT}
use Rattle.tftp_sockets.specs.Trace.{SocketEvent}
use Rattle.tftp_sockets.specs.Quiet.{is_drained}
use Rattle.tftp_loop.specs.Run.{Run}
use Rattle.tftp_loop.specs.declared.serving.LoopConfig.{LoopConfig}
use Rattle.tftp_loop.specs.Steps.{Timer, LoopState, LoopStep, Waits, at_start, is_draining}
use Rattle.tftp_loop.specs.Steps.{look_after, read_at}

-- a port of a transfer is not marked, and a wait of so long is over when it is read again, which is
-- at its deadline at the latest; the last event of the port is that a receive found nothing there,
-- or else the port is left for a while, and read again soon
pub record Rests (events : List SocketEvent) (now millis : ℕ) (timer : Timer) : Type 0 where
  pub unmarked : timer.marked ≡ false
  pub drained : (is_drained timer.port events ≡ true) ⊎ (timer.look_at ≤ now + look_after)
  pub ends : now + millis ≤ timer.look_at
  pub look : timer.look_at ≤ timer.deadline

module _ {S F D : Type 0} (meaning : StoreMeaning S D) (sources : SourceMeaning F) where
  -- the server may sleep for so long
  pub record MaySleep (old : LoopState S F D) (millis : ℕ) : Type 0 where
    -- the last event of the request port is that a receive found nothing there, unless it drains
    pub requests : is_draining old.drain ≡ false → is_drained old.requests old.events ≡ true
    pub pending : old.pending ≡ None
    pub transfers : All (Rests old.events old.now millis) old.timers
    pub longest : millis ≤ LONGEST_WAIT

  -- at each wait of a run that takes time, once the clock was read before it
  abbrev pub RestsBeforeItSleeps : Type 0
  RestsBeforeItSleeps =
      (config : LoopConfig) (port reading : ℕ) (server : ServerState S F D)
      (before : List SocketEvent) (old new : LoopState S F D)
      → Run (LoopStep meaning sources) (at_start config port server reading before) old
      → (waits : Waits meaning sources old new) → 1 ≤ waits.millis
      → MaySleep (read_at waits.watch old) waits.millis
