-- A client that writes a file opens, or returns the first fault that applies.
use Rattle.tftp_player.proofs.Common.{rules}
use Rattle.tftp_player.proofs.simulation.Simulation.put.Goals as goal

pub enter-requires-clause-port : goal.enter-requires-clause-port
enter-requires-clause-port c = c.in-Some.ensures.some.port

pub returns-in-Ok-clause-steps : goal.returns-in-Ok-clause-steps
returns-in-Ok-clause-steps c = search rules

pub returns-in-Ok-clause-refused : goal.returns-in-Ok-clause-refused
returns-in-Ok-clause-refused c = search rules

pub returns-in-Err-clause-refused : goal.returns-in-Err-clause-refused
returns-in-Err-clause-refused c = search rules
