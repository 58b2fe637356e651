-- The step over the buffer that the server is lent is one of the transfer, which is reported.
use Rattle.tftp_c.proofs.Common.{refl, sym}
use Rattle.tftp_c.proofs.TransferLemmas.{held_after, received_at, stored_at}
use Rattle.tftp_c.proofs.transfers.receive.Goals as goal

pub report_at-requires : goal.report_at-requires
report_at-requires c = held_after c.args.tid _ _ _ _ c.in-Ok.ensures.steps.found c.in-Ok.ensures.steps.held

pub returns-in-Ok-clause-ok : goal.returns-in-Ok-clause-ok
returns-in-Ok-clause-ok c = λ _.
    record {
      steps =
          received_at c.args.tid _ c.lend_sink.new.self c.in-Ok.step c.in-Ok.outgoing c.count-count.result _
          c.report_at.new.event c.report_at.ensures.sends c.report_at.ensures.reports
          c.report_at.ensures.file c.report_at.ensures.progress c.args.from.now c.endpoint.result _ _ _
          c.endpoint.ensures
          (stored_at c.args.tid _ _ _ _ c.in-Ok.ensures.rest _ _ _ c.lend_sink.new.sink _ _ _ refl
          (c.file-1.given.1.1 (sym c.lend_sink.ensures.same.0)) c.count-count.ensures c.in-Ok.ensures.steps);
    }
