-- The option is among those that are left, at the index that is left.
use Rattle.tftp_c.proofs.Common.{◌≡◌}
use Rattle.std.proofs.Common.{length}
use Rattle.tftp_c.specs.Listed.{option_at}
use Rattle.tftp_c.proofs.options.option_at.Given as goal

abbrev pub invariant-loop-option : goal.invariant-loop-option
invariant-loop-option l = option_at l.left l.options ≡ option_at l.fn.index l.fn.options

abbrev pub decreases-loop-option : goal.decreases-loop-option
decreases-loop-option l = length l.options
