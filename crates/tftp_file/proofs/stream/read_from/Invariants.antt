-- The bytes between the start and the offset were read.
use Rattle.std.proofs.Common.{◌≡◌, length, take, drop, ◌-◌, ◌≤◌}
use Rattle.std.specs.Io.KnownBytes.{Consumes}
use Rattle.tftp_file.proofs.stream.read_from.Given as goal

abbrev pub invariant-loop-at : goal.invariant-loop-at
invariant-loop-at g l = record {
  after : l.start ≤ l.at;
  within : l.at ≤ length l.buffer;
  front : take l.start l.buffer ≡ take l.start l.fn.buffer;
  consumed : Consumes (g.R.Read.remaining l.fn.reader) (g.R.Read.remaining l.reader)
      (take (l.at - l.start) (drop l.start l.buffer));
}

abbrev pub decreases-loop-at : goal.decreases-loop-at
decreases-loop-at g l = length l.initial.buffer - l.at
