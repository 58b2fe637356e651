-- The lemmas that are the law.
use Rattle.tftp_player.proofs.Witnesses.{netascii_transfers, options_transfer, read_transfers, write_transfers}
use Rattle.tftp_player.proofs.laws.some_worlds_transfer.Goals as goal

pub returns : goal.returns
returns g = record {
  read = read_transfers;
  write = write_transfers;
  netascii = netascii_transfers;
  options = options_transfer;
}
