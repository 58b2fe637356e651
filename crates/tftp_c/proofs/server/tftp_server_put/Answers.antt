-- The end that was held is that which serves the request; else the request is not served.
use Rattle.tftp_c.proofs.Common.{inl, inr, sym}
use Rattle.tftp_c.proofs.FaultLemmas.{put_fails}
use Rattle.tftp_c.proofs.HoldingLemmas.{opens_as}
use Rattle.tftp_c.proofs.server.tftp_server_put.Goals as goal

pub returns-in-Ok-clause-ok : goal.returns-in-Ok-clause-ok
returns-in-Ok-clause-ok c = rw (sym c.server-held.ensures.value) (λ opened.
    record {
      opens =
          opens_as _ _ _ c.in-Ok.end _ _ _ (c.open.ensures.ok opened)
          (record {
            answers = c.in-Ok.ensures.ok;
            file = c.open.ensures.file opened;
            sent = c.open.ensures.sent opened;
          });
    })

pub returns-in-Ok-clause-fault : goal.returns-in-Ok-clause-fault
returns-in-Ok-clause-fault c = rw (sym c.server-held.ensures.value) (λ failed.
    put_fails _ _ _ _ _ _ _ _ c.in-Ok.ensures.ok (c.open.ensures.fault failed))

pub returns-in-Err-clause-fault : goal.returns-in-Err-clause-fault
returns-in-Err-clause-fault c = rw (sym c.server-held.ensures.value) (λ _. inl (inr c.in-Err.ensures.err))
