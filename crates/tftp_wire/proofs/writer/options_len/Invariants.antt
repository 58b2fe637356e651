-- The length of the options before the index, saturated at the greatest `usize`.
use Rattle.std.proofs.Common.{◌≡◌, ◌-◌, ◌^◌, min, length, take}
use Rattle.tftp_wire.specs.Options.{options_bytes}
use Rattle.tftp_wire.proofs.writer.options_len.Given as goal

abbrev pub invariant-loop-option : goal.invariant-loop-option
invariant-loop-option l = l.len ≡ min (length (options_bytes (take l.option-index l.options))) (2 ^ 64 - 1)
