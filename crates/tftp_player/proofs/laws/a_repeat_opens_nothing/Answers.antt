-- The lemmas that are the law.
use Rattle.tftp_player.proofs.RepeatingLemmas.{repeats_open_nothing, only_new_requests_open, requests_last}
use Rattle.tftp_player.proofs.laws.a_repeat_opens_nothing.Goals as goal

pub returns : goal.returns
returns g = record {
  ignored = repeats_open_nothing;
  new_only = only_new_requests_open;
  lasts = requests_last;
}
