-- The count of the bytes so far.
use Rattle.std.proofs.Common.{◌≡◌, min, sum_by, take}
use Rattle.tftp_daemon.specs.Processors.{ones_of}
use Rattle.tftp_daemon.proofs.processors.in_mask.Given as goal

abbrev pub invariant-loop-byte : goal.invariant-loop-byte
invariant-loop-byte l = l.count ≡ min (sum_by ones_of (take l.byte-index l.byte-items)) 255
