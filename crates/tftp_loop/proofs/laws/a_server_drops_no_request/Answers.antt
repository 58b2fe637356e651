-- The lemmas that are the law.
use Rattle.tftp_loop.proofs.Dropping.{answers_only_requests, drops_no_request, drops_only_if_told}
use Rattle.tftp_loop.proofs.laws.a_server_drops_no_request.Goals as goal

pub returns-clause-requests : goal.returns-clause-requests
returns-clause-requests g c = drops_no_request g.T.Store.meaning g.T.Source.Source.meaning

pub returns-clause-told : goal.returns-clause-told
returns-clause-told g c = drops_only_if_told g.T.Store.meaning g.T.Source.Source.meaning

pub returns-clause-only : goal.returns-clause-only
returns-clause-only g c = answers_only_requests g.T.Store.meaning g.T.Source.Source.meaning
