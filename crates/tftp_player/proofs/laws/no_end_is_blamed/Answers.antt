-- The lemmas that are the law.
use Rattle.tftp_player.proofs.Blameless.{none_is_blamed}
use Rattle.tftp_player.proofs.ErrorsHeard.{established_ends_close_so}
use Rattle.tftp_player.proofs.ErrorsKnown.{only_refusals_are_told}
use Rattle.tftp_player.proofs.RefusedWitness.{an_end_is_refused}
use Rattle.tftp_player.proofs.laws.no_end_is_blamed.Goals as goal

pub returns : goal.returns
returns g = record {
  none = none_is_blamed;
  told = only_refusals_are_told;
  closes = established_ends_close_so;
  refused = an_end_is_refused;
}
