-- The options before the index are written, and the capacity is enough for the others.
use Rattle.std.proofs.Common.{◌≡◌, ◌≤◌, ◌+◌, ◌++◌, length, take, drop, vec_len, vec_capacity}
use Rattle.tftp_wire.specs.Options.{options_bytes}
use Rattle.tftp_wire.proofs.writer.put_options.Given as goal

abbrev pub invariant-loop-option : goal.invariant-loop-option
invariant-loop-option l = record {
  written : l.out.items ≡ l.initial.out.items ++ options_bytes (take l.option-index l.options);
  room : vec_len l.out + length (options_bytes (drop l.option-index l.options)) ≤ vec_capacity l.out;
}
