-- Another client and its request are the step of an opening.
use Rattle.tftp_player.proofs.Common.{ap, ◌∙◌, sym, rules, next_port}
use Rattle.tftp_player.proofs.simulation.Simulation.enter.Goals as goal

pub enter-requires-clause-port : goal.enter-requires-clause-port
enter-requires-clause-port c = c.requires.port ∙ sym (ap next_port c.self.view_is)

pub returns-in-Ok-enter-clause-enters : goal.returns-in-Ok-enter-clause-enters
returns-in-Ok-enter-clause-enters c = search rules
