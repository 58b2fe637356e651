-- No byte so far is LF or CR.
use Rattle.std.proofs.Common.{◌≡◌, ◌+◌, drop}
use Rattle.std.specs.List.{position_or_len}
use Rattle.tftp_file.specs.Lines.{is_line_byte}
use Rattle.tftp_file.proofs.lines.run_length.Given as goal

abbrev pub invariant-loop-byte : goal.invariant-loop-byte
invariant-loop-byte l = record {
  index : l.at ≡ l.byte-index;
  none : l.at + position_or_len is_line_byte (drop l.byte-index l.text) ≡ position_or_len is_line_byte l.text;
}
