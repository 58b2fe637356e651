use Rattle.tftp_loop.proofs.RunLemmas.{onward}
use Rattle.tftp_loop.proofs.server_loop.ServerLoop.take_request.Goals as goal

pub returns-clause-works : goal.returns-clause-works
returns-clause-works g c = onward c.take_pending.ensures.works c.receive_request.ensures.works

pub returns-clause-few : goal.returns-clause-few
returns-clause-few g c = λ few. c.receive_request.ensures.few (c.take_pending.ensures.few few)
