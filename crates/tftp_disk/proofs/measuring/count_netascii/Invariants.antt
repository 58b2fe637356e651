-- The total is the length of the text of the bytes that were read.
use Rattle.std.proofs.Common.{◌+◌, ◌-◌, ◌≤◌}
use Rattle.tftp_file.specs.declared.length.TheConstants.{MAX_WIRE}
use Rattle.tftp_disk.specs.declared.measuring.TheConstants.{MOST_IN_CHUNK}
use Rattle.tftp_disk.specs.Measuring.{StaysOpen}
use Rattle.tftp_disk.proofs.MeasuringLemmas.{Counted}
use Rattle.tftp_disk.proofs.measuring.count_netascii.Given as goal

abbrev pub invariant-loop-total : goal.invariant-loop-total
invariant-loop-total g l = record {
  same : StaysOpen l.fn.file l.file;
  small : l.total.wire_bytes ≤ MAX_WIRE + MOST_IN_CHUNK;
  few : l.total.bytes ≤ l.total.wire_bytes;
  counted : Counted l.fn.file.trace.events l.file.trace.events l.total;
}

abbrev pub decreases-loop-total : goal.decreases-loop-total
decreases-loop-total g l = MAX_WIRE + 1 - l.total.wire_bytes
