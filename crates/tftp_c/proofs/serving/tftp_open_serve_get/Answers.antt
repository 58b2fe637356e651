-- A read request is not served, or its end is not held.
use Rattle.tftp_c.proofs.Common.{length, sym}
use Rattle.tftp_c.specs.declared.event.TftpOptions.{TftpOptions}
use Rattle.tftp_c.specs.Faults.{GetUnserved}
use Rattle.tftp_c.proofs.FaultLemmas.{fails_with, get_refused}
use Rattle.tftp_c.proofs.serving.tftp_open_serve_get.Goals as goal

pub returns-in-Ok-serve_get-clause-fault : goal.returns-in-Ok-serve_get-clause-fault
returns-in-Ok-serve_get-clause-fault c = λ failed.
    fails_with c.args.options.now c.in-Ok.options
    (λ (o : TftpOptions). GetUnserved c.args.request.now c.args.length c.args.next.now o (length c.args.reply.now)
    c.open.result)
    c.open.result c.in-Ok.ensures.allowed c.in-Ok.ensures.ok
    (get_refused c.args.client.now c.args.request.now c.args.length c.args.next.now c.in-Ok.options
    (length c.args.reply.now) c.in-Ok-serve_get.field-0.end c.in-Ok-serve_get.field-0.count c.open.result
    c.in-Ok-serve_get.ensures.ok (rw (sym c.client_of-served.ensures.end) (c.open.ensures.fault failed)))

pub returns-in-Err-serve_get-clause-fault : goal.returns-in-Err-serve_get-clause-fault
returns-in-Err-serve_get-clause-fault c = λ _.
    fails_with c.args.options.now c.in-Ok.options
    (λ (o : TftpOptions). GetUnserved c.args.request.now c.args.length c.args.next.now o (length c.args.reply.now)
    c.in-Err-serve_get.fault)
    c.in-Err-serve_get.fault c.in-Ok.ensures.allowed c.in-Ok.ensures.ok c.in-Err-serve_get.ensures.err
