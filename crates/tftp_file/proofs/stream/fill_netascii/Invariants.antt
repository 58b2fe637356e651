-- The bytes after the start were given, and the rest fits the capacity.
use Rattle.std.proofs.Common.{◌-◌, ◌≡◌, ◌≤◌, ◌+◌, vec_len, vec_capacity, option_map}
use Rattle.tftp_file.specs.Encoding.{netascii_left}
use Rattle.tftp_file.specs.Stream.{Gives}
use Rattle.tftp_file.proofs.stream.fill_netascii.Given as goal

abbrev pub invariant-loop-count : goal.invariant-loop-count
invariant-loop-count g l = record {
  within : l.count ≤ l.want;
  start : l.start ≡ vec_len l.fn.out;
  capacity : vec_capacity l.fn.out ≤ vec_capacity l.out;
  room : vec_len l.out + (l.want - l.count) ≤ vec_capacity l.out;
  gives : Gives (option_map (netascii_left l.fn.held) (g.R.Read.remaining l.fn.reader))
      (option_map (netascii_left l.held) (g.R.Read.remaining l.reader)) l.fn.out.items l.out.items l.count;
}

abbrev pub decreases-loop-count : goal.decreases-loop-count
decreases-loop-count g l = l.want - l.count
