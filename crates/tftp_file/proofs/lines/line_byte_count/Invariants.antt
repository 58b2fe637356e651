-- The LF and CR so far and those from the index on are all.
use Rattle.std.proofs.Common.{◌≡◌, ◌≤◌, ◌+◌, drop}
use Rattle.std.specs.Prelude.{count_by}
use Rattle.tftp_file.specs.Lines.{is_line_byte}
use Rattle.tftp_file.proofs.lines.line_byte_count.Given as goal

abbrev pub invariant-loop-byte : goal.invariant-loop-byte
invariant-loop-byte l = record {
  all : l.count + count_by is_line_byte (drop l.byte-index l.bytes) ≡ count_by is_line_byte l.bytes;
  few : l.count ≤ l.byte-index;
}
