-- The step over the buffer is reported.
use Rattle.tftp_c.proofs.Common.{refl, sym}
use Rattle.tftp_c.proofs.ReplyLemmas.{received}
use Rattle.tftp_c.proofs.StoredLemmas.{stored_made}
use Rattle.tftp_c.proofs.stepping.receive.Goals as goal

pub returns-in-Ok-clause-ok : goal.returns-in-Ok-clause-ok
returns-in-Ok-clause-ok c = λ _.
    rw (c.conclude.ensures.end)
    (received c.args.from.now c.endpoint-origin.result c.args.datagram.now c.args.client.now.end c.store_next.new.self
    c.args.file.now _ c.in-Ok.step c.in-Ok.outgoing c.count.result _ _ c.endpoint-origin.ensures
    (stored_made _ _ _ _ _ c.store_next.new.sink _ _ _ _ _ refl
    (c.file-in-Ok-1.given.1.1 (sym c.store_next.ensures.same.0)) c.count.ensures c.in-Ok.ensures.steps)
    c.conclude.ensures.sends c.conclude.ensures.file c.conclude.ensures.progress c.conclude.ensures.reports)
