-- The lemmas that are the law.
use Rattle.tftp_player.proofs.EndsHeard.{senders_hear_the_end}
use Rattle.tftp_player.proofs.HeardWitness.{sender_hears_the_end}
use Rattle.tftp_player.proofs.laws.a_sender_hears_the_end.Goals as goal

pub returns : goal.returns
returns g = record {
  ends = senders_hear_the_end;
  some = sender_hears_the_end;
}
