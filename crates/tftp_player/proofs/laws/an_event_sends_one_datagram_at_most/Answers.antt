-- The lemma that is the law.
use Rattle.tftp_player.proofs.OneLemmas.{events_add_one_at_most}
use Rattle.tftp_player.proofs.laws.an_event_sends_one_datagram_at_most.Goals as goal

pub returns : goal.returns
returns g = record { events = events_add_one_at_most }
