-- What is sent is recorded, and the event adds just that.
use Rattle.tftp_player.proofs.Common.{rules}
use Rattle.tftp_player.proofs.ArrivalLemmas.{arrives_reported}
use Rattle.tftp_player.proofs.simulation.Simulation.arrive.Goals as goal

pub returns-in-Ok-take-clause-arrives : goal.returns-in-Ok-take-clause-arrives
returns-in-Ok-take-clause-arrives c =
    arrives_reported c.self.inside.config c.self.inside.sent.items c.args.from c.args.to c.args.bytes.now
    c.self.inside.ends.server c.take.new.self.server c.self.inside.ends.players.items c.take.new.self.players.items
    c.in-Ok-take.effect
    c.args.self.now c.reserve.new.self.items _ c.write_down.result c.self.invariant.0 c.self.view_is
    c.in-Ok-take.ensures.arrives c.in-Ok.ensures.items c.write_down.ensures.sent c.write_down.ensures.report

pub returns-in-Err-clause-refused : goal.returns-in-Err-clause-refused
returns-in-Err-clause-refused c = search rules

pub returns-then-lacks_port-clause-refused : goal.returns-then-lacks_port-clause-refused
returns-then-lacks_port-clause-refused c = search rules

pub returns-in_default-clause-refused : goal.returns-in_default-clause-refused
returns-in_default-clause-refused c = search rules
