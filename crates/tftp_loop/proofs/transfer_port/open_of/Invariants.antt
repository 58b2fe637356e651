use Rattle.tftp_loop.proofs.Common.{◌≡◌, ◌≤◌, ◌+◌, drop, length, map, timer_of}
use Rattle.tftp_loop.specs.Steps.{open_of}
use Rattle.tftp_loop.proofs.transfer_port.open_of.Given as goal

-- the ports from the index on were counted, and each of the others can be, too
abbrev pub invariant-loop-index : goal.invariant-loop-index
invariant-loop-index l =
    (l.index ≤ length l.fn.ports) × (l.count ≡ open_of l.fn.from (map timer_of (drop l.index l.fn.ports)))
    × (l.count + l.index ≤ 18446744073709551615)

abbrev pub decreases-loop-index : goal.decreases-loop-index
decreases-loop-index l = l.index
