-- The count of the ranges so far.
use Rattle.std.proofs.Common.{◌≡◌, map, min, sum_by}
use Rattle.tftp_daemon.specs.Processors.{in_range}
use Rattle.tftp_daemon.proofs.processors.in_list.Given as goal

abbrev pub invariant-loop-range : goal.invariant-loop-range
invariant-loop-range l = l.count ≡ min (sum_by in_range (map (λ range. range.now) l.yielded)) 255
