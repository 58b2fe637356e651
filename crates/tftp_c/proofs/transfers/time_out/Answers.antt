-- The transfer that had the timeout is reported.
use Rattle.tftp_c.proofs.Common.{refl}
use Rattle.tftp_c.proofs.TransferLemmas.{lent_at, timed_out_at}
use Rattle.tftp_c.proofs.transfers.time_out.Goals as goal

pub returns-in-Ok-clause-ok : goal.returns-in-Ok-clause-ok
returns-in-Ok-clause-ok c = λ _.
    record {
      steps =
          timed_out_at c.args.tid c.args.server.now c.handle_timeout.new.self c.in-Ok.step
          c.in-Ok.outgoing 0 _ c.report_at.new.event c.report_at.ensures.sends
          c.report_at.ensures.reports c.report_at.ensures.file c.report_at.ensures.progress
          (lent_at c.args.tid c.args.server.now c.handle_timeout.new.self c.in-Ok.step c.in-Ok.outgoing
          c.in-Ok.ensures.rest c.in-Ok.ensures.steps)
          refl;
    }
