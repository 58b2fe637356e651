-- The options before the index are written, and the capacity is enough for the others.
use Rattle.std.proofs.Common.{◌≡◌, ◌≤◌, ◌+◌, ◌++◌, length, take, drop}
use Rattle.std.specs.List.{flat_map}
use Rattle.std.specs.String.{string_bytes, string_len, string_capacity}
use Rattle.tftp_wire.specs.Line.{option_words}
use Rattle.tftp_wire.proofs.line.put_options.Given as goal

abbrev pub invariant-loop-option : goal.invariant-loop-option
invariant-loop-option l = record {
  written : string_bytes l.out ≡ string_bytes l.initial.out ++ flat_map option_words (take l.option-index l.options);
  len : string_len l.out + length (flat_map option_words (drop l.option-index l.options))
      ≡ string_len l.initial.out + length (flat_map option_words l.options);
  room : string_len l.out + length (flat_map option_words (drop l.option-index l.options)) ≤ string_capacity l.out;
  grown : string_capacity l.initial.out ≤ string_capacity l.out;
}
