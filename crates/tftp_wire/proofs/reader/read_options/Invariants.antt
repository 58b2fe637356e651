-- The first fault of the options is that of the rest, which gets shorter.
use Rattle.std.proofs.Common.{◌≡◌, ◌≤◌, ◌+◌, ◌-◌, length}
use Rattle.tftp_wire.specs.Parts.{bytes_fault}
use Rattle.tftp_wire.proofs.reader.read_options.Given as goal

abbrev pub invariant-loop-rest : goal.invariant-loop-rest
invariant-loop-rest l = record {
  same : bytes_fault l.at l.bytes ≡ bytes_fault (l.at + (length l.bytes - length l.rest)) l.rest;
  shorter : length l.rest ≤ length l.bytes;
}

abbrev pub decreases-loop-rest : goal.decreases-loop-rest
decreases-loop-rest l = length l.rest
