-- Without options, once these were refused.
use Rattle.tftp_client.proofs.Common.{sym, ◌∙◌, true≢false, IfOk-weaker}
use Rattle.tftp_client.proofs.Concluding.{finishes_again, finishes_first}
use Rattle.tftp_client.proofs.LeftBytes.{leaves_again, leaves_first}
use Rattle.tftp_client.proofs.Running.{if_err}
use Rattle.tftp_client.proofs.transfer.transfer.Goals as goal

pub returns-in-Ok-clause-ok : goal.returns-in-Ok-clause-ok
returns-in-Ok-clause-ok g c =
    let ended = rw c.in-Ok.is at c.transfer_once-ended.ensures.ok in
    finishes_first _ _ c.args.job.now ended

pub returns-then-not-falls_back-clause-err : goal.returns-then-not-falls_back-clause-err
returns-then-not-falls_back-clause-err g c =
    let left = rw c.in-Err.is at c.transfer_once-ended.ensures.err in
    leaves_first _ _ _ c.args.job.now _ _ _ c.in-Err.failure.end
    (λ may. absurd (true≢false (sym (c.falls_back.ensures.1 may) ∙ c.if-not-falls_back.true))) left

pub returns-clause-ok : goal.returns-clause-ok
returns-clause-ok g c =
    let left = rw c.in-Err.is at c.transfer_once-ended.ensures.err in
    let counted = rw c.in-Err.is at c.transfer_once-ended.ensures.counts.counted in
    let allowed = c.falls_back.ensures.0 c.if-not-falls_back.false in
    IfOk-weaker c.transfer_once.result.0 _ _ (λ status ended. finishes_again _ _ c.args.job.now c.plain.result _ (record {
      end = c.in-Err.failure.end;
      fails = left.0;
      allowed = allowed;
    }) c.plain.ensures counted ended) c.transfer_once.ensures.ok

pub returns-clause-err : goal.returns-clause-err
returns-clause-err g c =
    let left = rw c.in-Err.is at c.transfer_once-ended.ensures.err in
    let counted = rw c.in-Err.is at c.transfer_once-ended.ensures.counts.counted in
    let allowed = c.falls_back.ensures.0 c.if-not-falls_back.false in
    if_err c.transfer_once.result.0 _ _ (λ failure again. leaves_again _ _ _ _ _ _ _ _ _ (record {
      end = c.in-Err.failure.end;
      fails = left.0;
      allowed = allowed;
    }) c.plain.ensures counted again) c.transfer_once.ensures.err
