-- Each event is its step.
use Rattle.tftp_player.proofs.Common.{rules}
use Rattle.tftp_player.proofs.simulation.Simulation.step.Goals as goal

pub returns-in-Stray-clause-steps : goal.returns-in-Stray-clause-steps
returns-in-Stray-clause-steps c = search rules
