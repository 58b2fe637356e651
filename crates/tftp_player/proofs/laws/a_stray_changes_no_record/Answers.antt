-- The lemmas that are the law.
use Rattle.tftp_player.proofs.StrangerLemmas.{strays_change_no_record, clients_have_servers}
use Rattle.tftp_player.proofs.laws.a_stray_changes_no_record.Goals as goal

pub returns : goal.returns
returns g = record {
  records = strays_change_no_record;
  clients = clients_have_servers;
}
