-- The bytes so far were moved, and the rest fits the capacity.
use Rattle.std.proofs.Common.{◌-◌, ◌≡◌, ◌≤◌, ◌+◌, vec_len, vec_capacity}
use Rattle.tftp_disk.specs.DiskSource.{Passes}
use Rattle.tftp_disk.proofs.disk_source.fill_from.Given as goal

abbrev pub invariant-loop-count : goal.invariant-loop-count
invariant-loop-count g l = record {
  within : l.count ≤ l.want;
  start : l.start ≡ vec_len l.fn.out;
  capacity : vec_capacity l.fn.out ≤ vec_capacity l.out;
  room : vec_len l.out + (l.want - l.count) ≤ vec_capacity l.out;
  passes : Passes l.mode l.fn.buffer l.buffer l.fn.file.trace.events l.file.trace.events l.fn.out.items l.out.items
      l.count;
}

abbrev pub decreases-loop-count : goal.decreases-loop-count
decreases-loop-count g l = l.want - l.count
