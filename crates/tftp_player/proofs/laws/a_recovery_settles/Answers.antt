-- The lemmas that are the law.
use Rattle.tftp_player.proofs.RecoveriesSettled.{transfers_settle, answered_reads_settle, answered_writes_settle}
use Rattle.tftp_player.proofs.RecoveriesSettled.{read_requests_settle, write_requests_settle}
use Rattle.tftp_player.proofs.laws.a_recovery_settles.Goals as goal

pub returns : goal.returns
returns g = record {
  transfers = transfers_settle;
  reads = answered_reads_settle;
  writes = answered_writes_settle;
  read_requests = read_requests_settle;
  write_requests = write_requests_settle;
}
