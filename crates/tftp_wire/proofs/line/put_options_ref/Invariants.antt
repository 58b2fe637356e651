-- The text written and the text of the options left are the whole, and it fits the capacity.
use Rattle.std.proofs.Common.{◌≡◌, ◌≤◌, ◌+◌, ◌++◌, length}
use Rattle.std.specs.List.{flat_map}
use Rattle.std.specs.String.{string_bytes, string_len, string_capacity}
use Rattle.tftp_wire.specs.Line.{option_words}
use Rattle.tftp_wire.proofs.line.put_options_ref.Given as goal

abbrev pub invariant-loop-option : goal.invariant-loop-option
invariant-loop-option l = record {
  written : string_bytes l.out ++ flat_map option_words l.option-iterator
      ≡ string_bytes l.initial.out ++ flat_map option_words l.options;
  len : string_len l.out + length (flat_map option_words l.option-iterator)
      ≡ string_len l.initial.out + length (flat_map option_words l.options);
  room : string_len l.out + length (flat_map option_words l.option-iterator) ≤ string_capacity l.out;
  grown : string_capacity l.initial.out ≤ string_capacity l.out;
}
