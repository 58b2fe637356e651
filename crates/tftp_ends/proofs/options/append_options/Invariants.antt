-- The bytes so far are those of the options before the index.
use Rattle.tftp_ends.proofs.Common.{◌≡◌, ◌≤◌, ◌*◌, ◌++◌, length, take, options_bytes, agreed_options}
use Rattle.std.proofs.Common.{vec_capacity}
use Rattle.tftp_ends.proofs.options.append_options.Given as goal

abbrev pub invariant-loop-option : goal.invariant-loop-option
invariant-loop-option l = record {
  written : l.out.items ≡ l.initial.out.items ++ options_bytes (agreed_options (take l.option-index l.options));
  short : length (options_bytes (agreed_options (take l.option-index l.options))) ≤ 49 * l.option-index;
  grown : vec_capacity l.initial.out ≤ vec_capacity l.out;
}
