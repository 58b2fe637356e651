-- The appended text and the text of the rest are the whole wire text.
use Rattle.std.proofs.Common.{◌≡◌, ◌≤◌, ◌+◌, ◌++◌, length, vec_len, vec_capacity}
use Rattle.tftp_file.specs.Netascii.{netascii_text}
use Rattle.tftp_file.proofs.netascii.append_wire.Given as goal

abbrev pub invariant-loop-left : goal.invariant-loop-left
invariant-loop-left l = record {
  whole : l.out.items ++ netascii_text l.left ≡ l.initial.out.items ++ netascii_text l.bytes;
  room : vec_len l.out + length (netascii_text l.left) ≤ vec_capacity l.out;
}

abbrev pub decreases-loop-left : goal.decreases-loop-left
decreases-loop-left l = length l.left
