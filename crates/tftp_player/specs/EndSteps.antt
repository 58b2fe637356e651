-- The step of one end of a world at an event.
use Rattle.std.specs.Prelude.{ℕ, ◌≡◌, ◌&&◌, not, Bool, List}
use Rattle.tftp_player.specs.Common.{Files, Holding, is_client, Turn, timeout_turn, OpenEnd}
use Rattle.tftp_player.specs.Common.{files_of, end_after, Effect, Endpoint}
use Rattle.tftp_player.specs.Effect.{effect_of, no_effect}
use Rattle.tftp_player.specs.World.{StoredFile, ClosedEnd, WorldEnd, Open_end, Closed_end, file_at}
use Rattle.tftp_player.specs.World.{in_the_way, has_committed, standing}
use Rattle.tftp_player.specs.WorldSteps.{EndStep, FilesAfter}

-- an open end made this turn, and is `y` then; `held` is its file after it
pub record EndTurns (x : OpenEnd) (turn : Turn) (held : Files (List ℕ) Holding) (y : WorldEnd)
    (effect : Effect) : Type 0 where
  pub effects : effect ≡ effect_of x.address turn
  pub next : y ≡ standing (end_after x turn held)

-- an end that is closed did nothing
pub record EndStays (x : ClosedEnd) (y : WorldEnd) (effect : Effect) : Type 0 where
  pub effects : effect ≡ no_effect x.address
  pub next : y ≡ Closed_end x

-- a timeout
abbrev pub EndTimesOut : WorldEnd → WorldEnd → Effect → Type 0
EndTimesOut (Open_end x) y effect = EndTurns x (timeout_turn x.state) (files_of x) y effect
EndTimesOut (Closed_end x) y effect = EndStays x y effect

-- a datagram at an open end; `files` and `files'` are the server's before and after it
pub record EndHandles (overwrite : Bool) (from : Endpoint) (bytes : List ℕ) (x : OpenEnd)
    (y : WorldEnd) (files files' : List StoredFile) (effect : Effect) : Type 0 where
  pub turn : Turn
  pub held : Files (List ℕ) Holding
  pub steps : EndStep (is_client x.state.role.side) (in_the_way overwrite (file_at files x.path))
      from bytes x.state (files_of x) turn held
  pub commits : FilesAfter overwrite
      (not (is_client x.state.role.side) && has_committed x (end_after x turn held)) x.path
      (end_after x turn held).stored files files'
  pub turns : EndTurns x turn held y effect

-- a datagram at an end
abbrev pub EndTakes : Bool → Endpoint → List ℕ → WorldEnd → WorldEnd → List StoredFile
    → List StoredFile → Effect → Type 0
EndTakes overwrite from bytes (Open_end x) y files files' effect =
    EndHandles overwrite from bytes x y files files' effect
EndTakes overwrite from bytes (Closed_end x) y files files' effect =
    EndStays x y effect × (files' ≡ files)
