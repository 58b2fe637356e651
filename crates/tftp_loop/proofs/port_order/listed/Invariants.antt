use Rattle.tftp_loop.proofs.Common.{◌≡◌, ◌≤◌, ◌-◌, range_with_len}
use Rattle.tftp_loop.proofs.port_order.listed.Given as goal

abbrev pub invariant-loop-port : goal.invariant-loop-port
invariant-loop-port l =
    (l.ports.items ≡ range_with_len l.fn.range.first (l.port - l.fn.range.first))
    × (l.fn.range.first ≤ l.port) × (l.port - l.fn.range.first ≤ l.fn.range.last - l.fn.range.first)
