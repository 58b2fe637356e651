-- A world is what was played, and so it is safe.
use Rattle.tftp_player.proofs.Common.{subst, IsHome, WasPlayed, IsSafe, PlayedWorld}
use Rattle.tftp_player.proofs.PlayedKeeps.{home_of}
use Rattle.tftp_player.proofs.WorldSafe.{kept_is_safe}
use Rattle.tftp_player.proofs.world.World.records.Goals as goal

pub returns-clause-safe : goal.returns-clause-safe
returns-clause-safe c =
    subst (λ (w : PlayedWorld). IsSafe w.state) c.self.view_is
    (kept_is_safe c.self.inside.strayed c.self.inside.simulation c.self.invariant.0)

pub returns-clause-home : goal.returns-clause-home
returns-clause-home c =
    subst IsHome c.self.view_is (home_of c.self.inside.strayed c.self.inside.simulation c.self.invariant.0)

pub returns-clause-played : goal.returns-clause-played
returns-clause-played c = subst WasPlayed c.self.view_is c.self.invariant.0
