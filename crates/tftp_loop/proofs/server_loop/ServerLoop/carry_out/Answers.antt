use Rattle.tftp_loop.proofs.Common.{arith, map, refl, ap, subst, inl, ◌∙◌, length-map, loop_state, timer_of}
use Rattle.tftp_loop.proofs.Common.{List, Option, ErrorReply, SocketEvent, replied}
use Rattle.std.specs.Prelude.{None, Some, vec_capacity}
use Rattle.tftp_loop.specs.RequestActions.{IsActionOn, refused_bytes, refused_to}
use Rattle.tftp_loop.proofs.RequestRuns.{ignores_as, loses_for_memory, loses_too_many, refuses_as}
use Rattle.tftp_loop.proofs.Reserving.{has_reserved}
use Rattle.tftp_loop.proofs.server_loop.ServerLoop.carry_out.Goals as goal

pub returns-in-Ignore-clause-answers : goal.returns-in-Ignore-clause-answers
returns-in-Ignore-clause-answers g c =
    let d = c.args.datagram in
    ignores_as g.S.Store.meaning g.S.Source.Source.meaning
    (loop_state (Some (d.from, d.bytes.now)) c.args.self.now (g.N.Udp.log c.args.net.now)) _ d.from d.bytes.now refl
    (subst (IsActionOn c.args.self.now d.from d.bytes.now) c.in-Ignore.is c.requires.action)
    (ap (loop_state None c.args.self.now) c.refuse.ensures.events)

pub returns-in-NoMemory-clause-answers : goal.returns-in-NoMemory-clause-answers
returns-in-NoMemory-clause-answers g c =
    let d = c.args.datagram in
    loses_for_memory g.S.Store.meaning g.S.Source.Source.meaning
    (loop_state (Some (d.from, d.bytes.now)) c.args.self.now (g.N.Udp.log c.args.net.now)) _ d.from d.bytes.now refl
    (inl (subst (IsActionOn c.args.self.now d.from d.bytes.now) c.in-NoMemory.is c.requires.action))
    (ap (loop_state None c.args.self.now) c.lose_for_memory.ensures.events)

pub returns-in-TooMany-clause-answers : goal.returns-in-TooMany-clause-answers
returns-in-TooMany-clause-answers g c =
    let d = c.args.datagram in
    let many = subst (IsActionOn c.args.self.now d.from d.bytes.now) c.in-TooMany.is c.requires.action in
    loses_too_many g.S.Store.meaning g.S.Source.Source.meaning
    (loop_state (Some (d.from, d.bytes.now)) c.args.self.now (g.N.Udp.log c.args.net.now)) _ d.from d.bytes.now refl
    many.0 many.1 (ap (loop_state None c.args.self.now) c.lose.ensures.events)

pub returns-in-Refuse-clause-answers : goal.returns-in-Refuse-clause-answers
returns-in-Refuse-clause-answers g c =
    let d = c.args.datagram in
    let old = c.args.self.now in
    let before = g.N.Udp.log c.args.net.now in
    let refused = subst (IsActionOn old d.from d.bytes.now) c.in-Refuse.is c.requires.action in
    let reply : Option ErrorReply → List SocketEvent = λ reply. replied old.sockets.requests.port
    (refused_to d.from reply) (refused_bytes reply) before in
    refuses_as g.S.Store.meaning g.S.Source.Source.meaning (loop_state (Some (d.from, d.bytes.now)) old before) _ d.from
    d.bytes.now refused.ask refl refused.handled refused.admits refused.opens_none
    (ap (loop_state None old) (c.refuse-in-Refuse.ensures.events ∙ ap reply refused.is_reply))

pub open_request-requires-clause-reserved : goal.open_request-requires-clause-reserved
open_request-requires-clause-reserved g c =
    let d = c.args.datagram in
    let ports = c.args.self.now.ports in
    let opens = subst (IsActionOn c.args.self.now d.from d.bytes.now) c.in-Open.is c.requires.action in
    let long = length-map ports.items timer_of in
    let fewer =
    has_reserved c.args.self.now.server d.from d.bytes.now c.in-Open.admission.ask (map timer_of ports.items)
    (vec_capacity ports) opens.admitted.admits opens.may_open c.requires.settled.kept c.requires.room.each in
    omega (arith, ports.ok.0, long, fewer)
