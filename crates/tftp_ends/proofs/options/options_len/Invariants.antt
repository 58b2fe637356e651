-- The length so far is that of the options before the index.
use Rattle.tftp_ends.proofs.Common.{◌≡◌, length, take, options_bytes, agreed_options}
use Rattle.std.proofs.Common.{◌-◌, ◌^◌, min}
use Rattle.tftp_ends.proofs.options.options_len.Given as goal

abbrev pub invariant-loop-option : goal.invariant-loop-option
invariant-loop-option l =
    l.len ≡ min (length (options_bytes (agreed_options (take l.option-index l.options)))) (2 ^ 64 - 1)
