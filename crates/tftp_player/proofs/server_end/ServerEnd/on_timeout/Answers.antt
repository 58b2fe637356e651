-- The end's datagram fits the reserved capacity. Without an answer the search takes seconds.
use Rattle.tftp_player.proofs.Common.{arith, common_steps}
use Rattle.tftp_player.proofs.server_end.ServerEnd.on_timeout.Goals as goal

pub copied-out-requires-clause-room : goal.copied-out-requires-clause-room
copied-out-requires-clause-room c = grind (arith, common_steps)
