-- A write request has no end.
use Rattle.tftp_c.proofs.Common.{inr, length}
use Rattle.tftp_c.specs.declared.event.TftpOptions.{TftpOptions}
use Rattle.tftp_c.specs.Faults.{PutUnserved}
use Rattle.tftp_c.proofs.FaultLemmas.{fails_with}
use Rattle.tftp_c.proofs.serving.tftp_open_serve_put.Goals as goal

pub returns-in-Err-serve_put-clause-fault : goal.returns-in-Err-serve_put-clause-fault
returns-in-Err-serve_put-clause-fault c = λ _.
    fails_with c.args.options.now c.in-Ok.options
    (λ (o : TftpOptions). PutUnserved c.args.request.now o (length c.args.reply.now) c.in-Err-serve_put.fault)
    c.in-Err-serve_put.fault c.in-Ok.ensures.allowed c.in-Ok.ensures.ok (inr c.in-Err-serve_put.ensures.err)
