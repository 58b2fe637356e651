use Rattle.tftp_loop.proofs.Common.{refl}
use Rattle.tftp_loop.specs.MayWait.{Concluded}
use Rattle.tftp_loop.proofs.server_loop.ServerLoop.take_received.Goals as goal

pub returns-clause-handles : goal.returns-clause-handles
returns-clause-handles g c = Concluded c.carry_out.ensures.answers refl
