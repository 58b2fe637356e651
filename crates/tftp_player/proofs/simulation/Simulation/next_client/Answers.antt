-- The next client has the next port of the world, and its limits.
use Rattle.tftp_player.proofs.Common.{◌<◌, subst, rules, WorldState, next_port}
use Rattle.tftp_player.proofs.simulation.Simulation.next_client.Goals as goal

pub returns-in-Some-clause-some : goal.returns-in-Some-clause-some
returns-in-Some-clause-some c = search rules

pub returns-in-None-clause-none : goal.returns-in-None-clause-none
returns-in-None-clause-none c =
    subst (λ (w : WorldState). 65535 < next_port w) c.self.view_is c.in-None.ensures.none
