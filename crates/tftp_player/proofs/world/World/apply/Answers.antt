-- A world keeps its invariant after an event, and so it is safe.
use Rattle.tftp_player.proofs.Common.{subst, sym, rules, WorldState, Refines}
use Rattle.std.proofs.Common.{◌||◌}
use Rattle.tftp_player.proofs.SentLemmas.{sends_each}
use Rattle.tftp_player.proofs.PlayedKeeps.{home_of, played_keeps}
use Rattle.tftp_player.proofs.WorldSafe.{kept_is_safe}
use Rattle.tftp_player.proofs.world.World.apply.Goals as goal

pub invariant_of-self : goal.invariant_of-self
invariant_of-self c = search (rules, played_keeps, sends_each)

pub returns-in-Ok-clause-safe : goal.returns-in-Ok-clause-safe
returns-in-Ok-clause-safe c =
    kept_is_safe (c.self.inside.strayed || c.is_stray-stray.result) c.step.new.self (invariant_of-self c).0

pub returns-in-Ok-clause-home : goal.returns-in-Ok-clause-home
returns-in-Ok-clause-home c =
    home_of (c.self.inside.strayed || c.is_stray-stray.result) c.step.new.self (invariant_of-self c).0

pub returns-in-Err-clause-safe : goal.returns-in-Err-clause-safe
returns-in-Err-clause-safe c =
    kept_is_safe c.self.inside.strayed c.step.new.self
    (subst (λ (w : WorldState). Refines c.self.inside.strayed w) (sym c.in-Err.ensures.err) c.self.invariant.0)

pub returns-in-Err-clause-home : goal.returns-in-Err-clause-home
returns-in-Err-clause-home c =
    home_of c.self.inside.strayed c.step.new.self
    (subst (λ (w : WorldState). Refines c.self.inside.strayed w) (sym c.in-Err.ensures.err) c.self.invariant.0)

pub returns-in-Ok-clause-played : goal.returns-in-Ok-clause-played
returns-in-Ok-clause-played c = (invariant_of-self c).0

pub returns-in-Err-clause-played : goal.returns-in-Err-clause-played
returns-in-Err-clause-played c = search rules
