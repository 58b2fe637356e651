-- The lemma that is the law.
use Rattle.tftp_loop.proofs.Sleeping.{rests_before_it_sleeps}
use Rattle.tftp_loop.proofs.laws.a_server_rests_before_it_sleeps.Goals as goal

pub returns : goal.returns
returns g c = rests_before_it_sleeps g.T.Store.meaning g.T.Source.Source.meaning
