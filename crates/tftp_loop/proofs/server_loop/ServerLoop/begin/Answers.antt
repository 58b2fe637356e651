-- Without an answer the search takes seconds.
use Rattle.std.proofs.lemmas.Grind.{common_steps}
use Rattle.std.proofs.Common.{arith}
use Rattle.tftp_loop.proofs.server_loop.ServerLoop.begin.Goals as goal

pub returns-clause-answers : goal.returns-clause-answers
returns-clause-answers g c = grind (arith, common_steps)
