-- The line of a fault has forty bytes at most.
use Rattle.std.proofs.Common.{arith}
use Rattle.std.proofs.lemmas.Grind.{common_steps}
use Rattle.tftp_wire.proofs.LineLemmas.{fault_fits}
use Rattle.tftp_wire.proofs.datagram.show_fault.Goals as goal

pub put_number-requires : goal.put_number-requires
put_number-requires c = grind (arith, common_steps, fault_fits c.args.kind c.args.at)
