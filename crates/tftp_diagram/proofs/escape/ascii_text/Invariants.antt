-- The bytes before the index are written.
use Rattle.std.proofs.Common.{◌≡◌, map, take}
use Rattle.std.specs.String.{string_bytes}
use Rattle.tftp_diagram.specs.Escape.{ascii_byte}
use Rattle.tftp_diagram.proofs.escape.ascii_text.Given as goal

abbrev pub invariant-loop-byte : goal.invariant-loop-byte
invariant-loop-byte l = string_bytes l.text ≡ map ascii_byte (take l.byte-index l.bytes)
