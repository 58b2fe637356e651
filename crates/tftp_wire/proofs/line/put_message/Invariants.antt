-- The bytes before the index are written, and the capacity is enough for the others.
use Rattle.std.proofs.Common.{◌≡◌, ◌≤◌, ◌+◌, ◌++◌, length, take, drop}
use Rattle.std.specs.List.{flat_map}
use Rattle.std.specs.String.{string_bytes, string_len, string_capacity}
use Rattle.tftp_wire.specs.Line.{shown_message_byte}
use Rattle.tftp_wire.proofs.line.put_message.Given as goal

abbrev pub invariant-loop-byte : goal.invariant-loop-byte
invariant-loop-byte l = record {
  written : string_bytes l.out ≡ string_bytes l.initial.out ++ flat_map shown_message_byte (take l.byte-index l.text);
  len : string_len l.out + length (flat_map shown_message_byte (drop l.byte-index l.text))
      ≡ string_len l.initial.out + length (flat_map shown_message_byte l.text);
  room : string_len l.out + length (flat_map shown_message_byte (drop l.byte-index l.text)) ≤ string_capacity l.out;
  grown : string_capacity l.initial.out ≤ string_capacity l.out;
}
