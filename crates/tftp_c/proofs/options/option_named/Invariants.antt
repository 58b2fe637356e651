-- The option is the first of its name among those that are left.
use Rattle.tftp_c.proofs.Common.{◌≡◌}
use Rattle.std.proofs.Common.{length}
use Rattle.tftp_c.specs.Listed.{option_named}
use Rattle.tftp_c.proofs.options.option_named.Given as goal

abbrev pub invariant-loop-option : goal.invariant-loop-option
invariant-loop-option l = option_named l.name l.options ≡ option_named l.name l.fn.options

abbrev pub decreases-loop-option : goal.decreases-loop-option
decreases-loop-option l = length l.options
