use Rattle.std.proofs.Common.{rules}
use Rattle.tftp_loop.proofs.Common.{◌≡◌, ◌-◌, arith}
use Rattle.tftp_loop.proofs.OrderLemmas.{next_listed}
use Rattle.tftp_loop.proofs.port_order.listed.Goals as goal

pub loop-port-preserved : goal.loop-port-preserved
loop-port-preserved c = search (rules, next_listed)

pub returns : goal.returns
returns c =
    let range = c.args.range in
    let before = c.loop-port.invariant in
    let ended : c.loop-port.port - range.first ≡ range.last - range.first =
    omega (arith, before.1, before.2, c.loop-port-test.false) in
    search rules
