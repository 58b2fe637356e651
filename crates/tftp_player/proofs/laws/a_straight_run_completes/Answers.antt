-- The lemmas that are the law.
use Rattle.tftp_player.proofs.SettledLemmas.{reads_settle, writes_settle}
use Rattle.tftp_player.proofs.StraightOpenings.{reads_complete, writes_complete}
use Rattle.tftp_player.proofs.Witnesses.{blocks_are_straight, netascii_is_straight, oack_is_straight, read_is_straight}
use Rattle.tftp_player.proofs.Witnesses.{write_is_straight}
use Rattle.tftp_player.proofs.laws.a_straight_run_completes.Goals as goal

pub returns : goal.returns
returns g = record {
  reads = reads_complete;
  writes = writes_complete;
  reads_settle = reads_settle;
  writes_settle = writes_settle;
  read = read_is_straight;
  write = write_is_straight;
  netascii = netascii_is_straight;
  blocks = blocks_are_straight;
  oack = oack_is_straight;
}
