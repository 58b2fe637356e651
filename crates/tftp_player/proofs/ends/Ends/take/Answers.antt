-- A datagram arrives at the request port, at an end, or nowhere.
use Rattle.tftp_player.proofs.Common.{refl, rules, IfOk-weaker}
use Rattle.tftp_player.proofs.ArrivalLemmas.{step_arrives, nobody_arrives}
use Rattle.tftp_player.proofs.ends.Ends.take.Goals as goal

pub returns-then-not-differs-clause-arrives : goal.returns-then-not-differs-clause-arrives
returns-then-not-differs-clause-arrives c = search rules

pub returns-in-Some-clause-arrives : goal.returns-in-Some-clause-arrives
returns-in-Some-clause-arrives c =
    IfOk-weaker c.on_datagram.result _ _
    (λ effect h.
    step_arrives c.args.from c.args.to c.args.bytes.now c.args.self.now.server c.on_datagram.new.self.server
    c.args.self.now.players.items c.on_datagram.new.self.players.items effect
    (c.differs.ensures.differs c.if-not-differs.false) c.requires.consistent.ports
    c.in-Some.index c.in-Some.ensures.some.0 h)
    c.on_datagram.ensures.steps

pub returns-in-None-clause-arrives : goal.returns-in-None-clause-arrives
returns-in-None-clause-arrives c =
    nobody_arrives c.args.from c.args.to c.args.bytes.now c.args.self.now.server c.args.self.now.server
    c.args.self.now.players.items c.args.self.now.players.items c.no_effect.result
    (c.differs.ensures.differs c.if-not-differs.false) c.requires.consistent.ports
    c.in-None.ensures.none refl refl c.no_effect.ensures
