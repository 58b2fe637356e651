-- The options copied and the options left are all options.
use Rattle.std.proofs.Common.{◌≡◌, ◌++◌}
use Rattle.tftp_wire.proofs.options.OptionsRef.to_options.Given as goal

abbrev pub invariant-loop-option : goal.invariant-loop-option
invariant-loop-option l = l.items.items ++ l.option-iterator ≡ l.self
