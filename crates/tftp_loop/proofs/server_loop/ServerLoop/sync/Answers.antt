use Rattle.std.proofs.Common.{rules}
use Rattle.tftp_loop.proofs.Common.{◌<◌, length, arith, Start, timer_of}
use Rattle.tftp_loop.proofs.ListLemmas.{map_is, map_within}
use Rattle.tftp_loop.proofs.LoopRuns.{works}
use Rattle.tftp_loop.proofs.Reserving.{room_same}
use Rattle.tftp_loop.proofs.Visits.{works_settled}
use Rattle.tftp_loop.proofs.server_loop.ServerLoop.sync.Goals as goal

pub returns-in_default-clause-works : goal.returns-in_default-clause-works
returns-in_default-clause-works g c = λ events buffer. Start

pub returns-then-index-len-clause-works : goal.returns-then-index-len-clause-works
returns-then-index-len-clause-works g c = λ events buffer. Start

pub returns-clause-works : goal.returns-clause-works
returns-clause-works g c =
    let ports = c.args.self.now.ports in
    let port = c.index-port.result.now in
    let within : c.in-Some.index < length ports.items =
    omega (arith, ports.ok.0, c.len.ensures, c.if-index-len.false) in
    λ events buffer. works _ _ _ _ _ _ (map_within timer_of ports.items c.in-Some.index within) (map_is timer_of
    ports.items c.in-Some.index port c.index-port.ensures) c.work_at.ensures

pub returns-clause-settled : goal.returns-clause-settled
returns-clause-settled g c =
    let ports = c.args.self.now.ports in
    let port = c.index-port.result.now in
    let within : c.in-Some.index < length ports.items =
    omega (arith, ports.ok.0, c.len.ensures, c.if-index-len.false) in
    search (rules, works_settled)

pub returns-clause-room : goal.returns-clause-room
returns-clause-room g c = λ room. room_same c.work_at.ensures.config room
