use Rattle.std.proofs.Common.{arith as std_arith}
use Rattle.std.proofs.lemmas.Grind.{common_steps}
use Rattle.tftp_loop.proofs.server_loop.ServerLoop.read_clock.Goals as goal

pub returns-clause-reads : goal.returns-clause-reads
returns-clause-reads g c = grind (std_arith, common_steps)
