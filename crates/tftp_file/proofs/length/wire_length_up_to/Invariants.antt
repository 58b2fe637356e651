-- The total is the length of the wire text of the bytes read.
use Rattle.std.proofs.Common.{◌+◌, ◌-◌, ◌*◌, ◌≤◌, length, ◌≡◌}
use Rattle.tftp_file.specs.declared.length.TheConstants.{MAX_WIRE, CHUNK}
use Rattle.tftp_file.proofs.LengthLemmas.{Leaves}
use Rattle.tftp_file.proofs.length.wire_length_up_to.Given as goal

abbrev pub invariant-loop-total : goal.invariant-loop-total
invariant-loop-total g l = record {
  known : Leaves l.mode (g.R.Read.remaining l.initial.reader) (g.R.Read.remaining l.reader) l.total;
  bound : l.limit ≤ MAX_WIRE;
  small : l.total ≤ MAX_WIRE + 2 * CHUNK;
  chunk : length l.chunk ≡ CHUNK;
}

abbrev pub decreases-loop-total : goal.decreases-loop-total
decreases-loop-total g l = l.limit + 1 - l.total
