-- A world in which nothing has happened has the invariant.
use Rattle.tftp_player.proofs.Common.{false, rules}
use Rattle.tftp_player.proofs.PlayedKeeps.{home_of}
use Rattle.tftp_player.proofs.WorldRuns.{new_ok}
use Rattle.tftp_player.proofs.WorldSafe.{kept_is_safe}
use Rattle.tftp_player.proofs.world.World.new.Goals as goal

pub invariant_of-result : goal.invariant_of-result
invariant_of-result c = search (rules, new_ok)

pub returns-clause-safe : goal.returns-clause-safe
returns-clause-safe c = kept_is_safe false c.in_ok-simulation.simulation (invariant_of-result c).0

pub returns-clause-home : goal.returns-clause-home
returns-clause-home c = home_of false c.in_ok-simulation.simulation (invariant_of-result c).0

pub returns-clause-played : goal.returns-clause-played
returns-clause-played c = (invariant_of-result c).0
