-- The lemma that is the law.
use Rattle.tftp_loop.proofs.Reflecting.{reflects_few}
use Rattle.tftp_loop.proofs.laws.a_server_reflects_few.Goals as goal

pub returns : goal.returns
returns g c = reflects_few g.T.Store.meaning g.T.Source.Source.meaning
