-- The lemmas that are the law.
use Rattle.tftp_player.proofs.WorldSafe.{worlds_are_safe, peers_stay_home}
use Rattle.tftp_player.proofs.laws.every_world_is_safe.Goals as goal

pub returns : goal.returns
returns g = record {
  safe = worlds_are_safe;
  home = peers_stay_home;
}
