-- Options are appended last.
use Rattle.std.proofs.lemmas.Grind.{common_steps}
use Rattle.std.proofs.Common.{arith}
use Rattle.tftp_wire.proofs.laws.options_follow.Goals as goal

pub returns : goal.returns
returns c = grind (arith, common_steps)
