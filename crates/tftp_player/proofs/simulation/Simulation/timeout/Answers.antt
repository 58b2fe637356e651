-- A timeout of the end at the port is its step, if there is one.
use Rattle.tftp_player.proofs.Common.{rules}
use Rattle.tftp_player.proofs.PlayLemmas.{timeout_result}
use Rattle.tftp_player.proofs.simulation.Simulation.timeout.Goals as goal

pub returns-in_default-clause-refused : goal.returns-in_default-clause-refused
returns-in_default-clause-refused c = search rules

pub returns-in-Ok-on_timeout-clause-steps : goal.returns-in-Ok-on_timeout-clause-steps
returns-in-Ok-on_timeout-clause-steps c =
    timeout_result c.self.inside.config _ _ _ _ _ _ _ _ _ _ _ _ c.self.view_is c.in-Some.ensures.some.0
    c.in-Ok-on_timeout.ensures.times_out c.on_timeout.ensures.server
    c.in-Ok.ensures.items c.write_down.ensures.sent c.write_down.ensures.report

pub returns-in_default-reserve-clause-refused : goal.returns-in_default-reserve-clause-refused
returns-in_default-reserve-clause-refused c = search rules

pub returns-in-Err-clause-refused : goal.returns-in-Err-clause-refused
returns-in-Err-clause-refused c = search rules
