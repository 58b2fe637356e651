-- The end that was held is that which serves the request; else the request is not served.
use Rattle.tftp_c.proofs.Common.{inl, subst, sym}
use Rattle.std.proofs.Common.{ℕ}
use Rattle.tftp_c.specs.ServerOpens.{AnswersGet}
use Rattle.tftp_c.proofs.FaultLemmas.{get_fails}
use Rattle.tftp_c.proofs.HoldingLemmas.{opens_as}
use Rattle.tftp_c.proofs.server.tftp_server_get.Goals as goal

pub returns-in-Ok-clause-ok : goal.returns-in-Ok-clause-ok
returns-in-Ok-clause-ok c = rw (sym c.server-held.ensures.value) (λ opened.
    record {
      opens =
          opens_as _ _ _ c.in-Ok.field-0.end _ _ _ (c.open.ensures.ok opened)
          (record {
            count = c.in-Ok.field-0.count;
            answers =
                subst
                (λ (room : ℕ). AnswersGet c.args.from.now c.args.request.now c.args.length c.args.next.now
                c.server-held.result.now.options room c.in-Ok.field-0.end c.in-Ok.field-0.count)
                (sym c.open.auto.reply)
                c.in-Ok.ensures.ok;
            taken = c.open.ensures.file opened;
            sent = c.open.ensures.sent opened;
          });
    })

pub returns-in-Ok-clause-fault : goal.returns-in-Ok-clause-fault
returns-in-Ok-clause-fault c = rw (sym c.server-held.ensures.value) (λ failed.
    get_fails _ _ _ _ _ _ _ _ _ _ _ c.in-Ok.ensures.ok (c.open.ensures.fault failed))

pub returns-in-Err-clause-fault : goal.returns-in-Err-clause-fault
returns-in-Err-clause-fault c = rw (sym c.server-held.ensures.value) (λ _. inl c.in-Err.ensures.err)
