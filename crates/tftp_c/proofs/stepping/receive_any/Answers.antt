-- The step over the buffer is reported.
use Rattle.tftp_c.proofs.Common.{refl, sym}
use Rattle.tftp_c.proofs.ReplyLemmas.{received}
use Rattle.tftp_c.proofs.StoredLemmas.{stored_made}
use Rattle.tftp_c.proofs.stepping.receive_any.Goals as goal

pub returns-in-Ok-clause-ok : goal.returns-in-Ok-clause-ok
returns-in-Ok-clause-ok c = λ _.
    rw (c.conclude.ensures.end)
    (received c.args.from.now c.endpoint.result c.args.datagram.now c.args.client.now.end c.handle_any_as_receiver.new.self
    c.args.file.now _ c.in-Ok.step c.in-Ok.outgoing c.count.result _ _ c.endpoint.ensures
    (stored_made _ _ _ _ _ c.handle_any_as_receiver.new.sink _ _ _ _ _ refl
    (c.file-1.given.1.1 (sym c.handle_any_as_receiver.ensures.same.0)) c.count.ensures c.in-Ok.ensures.steps)
    c.conclude.ensures.sends c.conclude.ensures.file c.conclude.ensures.progress c.conclude.ensures.reports)
