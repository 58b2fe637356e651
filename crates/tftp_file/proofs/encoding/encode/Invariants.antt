-- The appended text and the text left are the whole wire text.
use Rattle.std.proofs.Common.{◌-◌, ◌≡◌, ◌+◌, ◌≤◌, ◌++◌, length, take, drop, vec_len, vec_capacity}
use Rattle.tftp_file.specs.Encoding.{netascii_left}
use Rattle.tftp_file.proofs.encoding.encode.Given as goal

abbrev pub invariant-loop-count : goal.invariant-loop-count
invariant-loop-count l = record {
  within : l.taken ≤ length l.bytes;
  count : l.count ≤ l.want;
  some : l.count ≤ length (netascii_left l.fn.held l.bytes);
  given : l.out.items ≡ l.fn.out.items ++ take l.count (netascii_left l.fn.held l.bytes);
  rest : netascii_left l.held (drop l.taken l.bytes) ≡ drop l.count (netascii_left l.fn.held l.bytes);
  len : vec_len l.out ≡ vec_len l.fn.out + l.count;
  capacity : vec_capacity l.out ≡ vec_capacity l.fn.out;
}

abbrev pub decreases-loop-count : goal.decreases-loop-count
decreases-loop-count l = l.want - l.count
