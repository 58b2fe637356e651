-- The lemmas that are the law.
use Rattle.tftp_player.proofs.AnsweringWitness.{read_recovers, write_recovers}
use Rattle.tftp_player.proofs.RecoveringAnswers.{reads_recover, writes_recover}
use Rattle.tftp_player.proofs.RecoveringRuns.{transfers_recover}
use Rattle.tftp_player.proofs.RecoveringWitness.{oack_recovers, data_recovers, ack_recovers}
use Rattle.tftp_player.proofs.laws.a_transfer_recovers.Goals as goal

pub returns-clause-transfers : goal.returns-clause-transfers
returns-clause-transfers c = transfers_recover

pub returns-clause-reads : goal.returns-clause-reads
returns-clause-reads c = reads_recover

pub returns-clause-writes : goal.returns-clause-writes
returns-clause-writes c = writes_recover

pub returns-clause-oack : goal.returns-clause-oack
returns-clause-oack c = oack_recovers

pub returns-clause-data : goal.returns-clause-data
returns-clause-data c = data_recovers

pub returns-clause-ack : goal.returns-clause-ack
returns-clause-ack c = ack_recovers

pub returns-clause-read : goal.returns-clause-read
returns-clause-read c = read_recovers

pub returns-clause-write : goal.returns-clause-write
returns-clause-write c = write_recovers
