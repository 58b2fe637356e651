-- No option so far is a timeout.
use Rattle.std.proofs.Common.{◌≡◌, drop}
use Rattle.tftp_negotiate.specs.Agreed.{timeout_of}
use Rattle.tftp_negotiate.proofs.agreed.Agreed.timeout.Given as goal

abbrev pub invariant-loop-option : goal.invariant-loop-option
invariant-loop-option l = timeout_of (drop l.option-index l.option-items) ≡ timeout_of l.option-items
