-- No option so far is a block size.
use Rattle.std.proofs.Common.{◌≡◌, drop}
use Rattle.tftp_negotiate.specs.Agreed.{size}
use Rattle.tftp_negotiate.proofs.agreed.Agreed.block_size.Given as goal

abbrev pub invariant-loop-option : goal.invariant-loop-option
invariant-loop-option l = size (drop l.option-index l.option-items) ≡ size l.option-items
