-- No option so far is a tsize.
use Rattle.std.proofs.Common.{◌≡◌}
use Rattle.tftp_negotiate.specs.Agreement.{stated_tsize}
use Rattle.tftp_negotiate.proofs.oack.stated_tsize.Given as goal

abbrev pub invariant-loop-option : goal.invariant-loop-option
invariant-loop-option l = stated_tsize l.option-iterator ≡ stated_tsize l.options
