-- The lemmas that are the law.
use Rattle.tftp_player.proofs.WorldRuns.{new_ok, step_keeps, steps_are_rules}
use Rattle.tftp_player.proofs.WorldSafe.{kept_is_safe}
use Rattle.tftp_player.proofs.laws.a_step_keeps_a_world.Goals as goal

pub returns : goal.returns
returns g = record {
  begins = new_ok;
  kept = step_keeps;
  rules = steps_are_rules;
  safe = kept_is_safe;
}
