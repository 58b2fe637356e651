-- The step over the bytes that the server is lent is one of the transfer, which is reported.
use Rattle.std.proofs.Common.{rules}
use Rattle.tftp_c.proofs.TransferLemmas.{held_after, sent_at, taken_at}
use Rattle.tftp_c.proofs.transfers.send.Goals as goal

pub report_at-requires : goal.report_at-requires
report_at-requires c = held_after c.args.tid _ _ _ _ c.in-Ok.ensures.steps.found c.in-Ok.ensures.steps.held

pub returns-in-Ok-clause-ok : goal.returns-in-Ok-clause-ok
returns-in-Ok-clause-ok c = λ _.
    record {
      steps =
          sent_at c.args.tid _ c.lend_source.new.self c.in-Ok.step c.in-Ok.outgoing c.taken_of-count.result _
          c.report_at.new.event c.report_at.ensures.sends c.report_at.ensures.reports
          c.report_at.ensures.file c.report_at.ensures.progress c.args.from.now c.endpoint.result _ _
          c.endpoint.ensures
          (taken_at c.args.tid _ _ _ _ c.in-Ok.ensures.rest _ _ c.args.next.now c.of-source.result
          c.lend_source.new.source _ c.of-source.ensures (search rules) c.in-Ok.ensures.steps);
    }
