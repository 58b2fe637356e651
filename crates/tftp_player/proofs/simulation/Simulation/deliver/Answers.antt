-- A datagram of the list arrives as it was sent.
use Rattle.tftp_player.proofs.Common.{◌<◌, length, refl, rules}
use Rattle.tftp_player.specs.declared.fault.WorldFault.TheVariants.{NoPort, Memory}
use Rattle.tftp_player.proofs.ArrivalLemmas.{delivers_reported, delivery_fault}
use Rattle.tftp_player.proofs.simulation.Simulation.deliver.Goals as goal

pub returns-in-Ok-take-clause-steps : goal.returns-in-Ok-take-clause-steps
returns-in-Ok-take-clause-steps c =
    let within : c.args.index < length c.reserve.new.self.items = search rules in
    delivers_reported c.self.inside.config c.self.inside.sent.items c.args.index c.index-datagram.result.now
    c.as_slice-bytes.result.now c.self.inside.ends.server c.take.new.self.server c.self.inside.ends.players.items
    c.take.new.self.players.items c.in-Ok-take.effect
    c.args.self.now c.reserve.new.self.items _ c.write_down.result within c.index-datagram.ensures
    c.as_slice-bytes.ensures c.self.invariant.0 c.self.view_is c.in-Ok-take.ensures.arrives c.in-Ok.ensures.items
    c.write_down.ensures.sent c.write_down.ensures.report

pub returns-in-Err-clause-refused : goal.returns-in-Err-clause-refused
returns-in-Err-clause-refused c =
    let within : c.args.index < length c.reserve.new.self.items = search rules in
    delivery_fault c.self.inside.config c.self.inside.sent.items c.reserve.new.self.items c.args.index
    c.index-datagram.result.now c.self.inside.ends.server c.self.inside.ends.players.items c.args.self.now
    c.in-Err.fault within c.index-datagram.ensures c.in-Ok.ensures.items c.self.view_is c.in-Err.ensures.refused

pub returns-then-lacks_port-clause-refused : goal.returns-then-lacks_port-clause-refused
returns-then-lacks_port-clause-refused c =
    let within : c.args.index < length c.self.inside.sent.items = search rules in
    delivery_fault c.self.inside.config c.self.inside.sent.items c.self.inside.sent.items c.args.index
    c.index.result.now c.self.inside.ends.server c.self.inside.ends.players.items c.args.self.now NoPort within
    c.index.ensures refl c.self.view_is
    (c.lacks_port.ensures.lacks c.if-lacks_port.true)

pub returns-in_default-clause-refused : goal.returns-in_default-clause-refused
returns-in_default-clause-refused c =
    let within : c.args.index < length c.self.inside.sent.items = search rules in
    delivery_fault c.self.inside.config c.self.inside.sent.items c.self.inside.sent.items c.args.index
    c.index.result.now c.self.inside.ends.server c.self.inside.ends.players.items c.args.self.now Memory within
    c.index.ensures refl c.self.view_is
    (c.lacks_port.ensures.has c.if-lacks_port.false)
