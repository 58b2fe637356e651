-- What is written of the bytes before the index.
use Rattle.std.proofs.Common.{◌≡◌, take}
use Rattle.tftp_lines.specs.WholeLine.{with_bytes}
use Rattle.tftp_lines.proofs.whole_line.LineText.push_all.Given as goal

abbrev pub invariant-loop-byte : goal.invariant-loop-byte
invariant-loop-byte l = l.self ≡ with_bytes l.initial.self (take l.byte-index l.bytes)
