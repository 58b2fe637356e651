-- A transfer that is complete, or failed.
use Rattle.tftp_client.proofs.Common.{arith, inl, inr, refl, held_of}
use Rattle.tftp_client.proofs.HeldBytes.{is_whole}
use Rattle.tftp_client.proofs.ReadFile.{was_read}
use Rattle.tftp_client.proofs.SameKind.{is_file_of}
use Rattle.tftp_client.proofs.StaysComplete.{moves_nothing, stays_complete}
use Rattle.tftp_client.proofs.program.run_job.Goals as goal

pub returns-in-Ok-clause-runs : goal.returns-in-Ok-clause-runs
returns-in-Ok-clause-runs g c =
    let done = rw c.in-Ok.is at c.transfer-ended.ensures.ok in (
      inl (
        done.ends,
        record {
          port = done.port;
          last = done.last;
          files = done.files;
          count = done.count;
          transfers = done.transfers.0;
          complete = done.complete;
          side = is_file_of _ _ done.transfers.0;
          whole = is_whole _ _ (λ local. (held_of local.part.written local.committed, refl)) done.transfers.0 done.complete;
          stays = done.stays;
          stayed = stays_complete _ _ done.stays done.complete;
          still = moves_nothing _ _ done.stays done.complete;
          over = done.over;
          within = omega (arith, c.transfer-ended.ensures.within);
        },
      ),
      done.stored,
      c.transfer-ended.ensures.keeps,
      was_read _ _ c.gives_in_order.ensures done.transfers.0 done.transfers.1 done.complete,
    )

pub returns-in-Err-clause-runs : goal.returns-in-Err-clause-runs
returns-in-Err-clause-runs g c = let left = rw c.in-Err.is at c.transfer-ended.ensures.err in (
  inr (
    c.report.ensures.fails.0,
    c.in-Err.failure.end,
    c.report.ensures.status,
    left.0,
  ),
  left.1,
  c.transfer-ended.ensures.keeps,
  tt,
)
