-- The ends that are counted are the open ends of the server.
use Rattle.tftp_player.proofs.Common.{rules}
use Rattle.tftp_player.proofs.ends.asking.count_transfers.Goals as goal

pub returns : goal.returns
returns c = search rules
