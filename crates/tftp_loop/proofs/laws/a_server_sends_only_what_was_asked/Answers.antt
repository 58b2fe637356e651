-- The lemma that is the law.
use Rattle.tftp_loop.proofs.Leaving.{sends_only_given}
use Rattle.tftp_loop.proofs.laws.a_server_sends_only_what_was_asked.Goals as goal

pub returns : goal.returns
returns g c = sends_only_given g.T.Store.meaning g.T.Source.Source.meaning c.answers_within_request.ensures
