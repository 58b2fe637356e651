-- What the transfer at the identifier does is what the server does; its fault is the server's.
use Rattle.std.proofs.Common.{refl}
use Rattle.tftp_server.proofs.CallersLemmas.{lent_step}
use Rattle.tftp_server.proofs.StepsLemmas.{no_such_tid, nothing_changed, when_fault}
use Rattle.tftp_server.proofs.server.Server.lend_source.Goals as goal

pub returns-clause-steps : goal.returns-clause-steps
returns-clause-steps g c =
    rw (← c.self.view_is, c.by_end.ensures)
    (lent_step c.args.tid _ c.in-Some.transfer.now _ c.in-Some.ensures.value _ c.lend_source.result c.lend_source.ensures.steps)

pub returns-clause-no_such_tid : goal.returns-clause-no_such_tid
returns-clause-no_such_tid g c =
    rw (← c.self.view_is, ← c.in-Some.ensures.value, c.by_end.ensures)
    (no_such_tid c.lend_source.result c.lend_source.ensures.closed)

pub returns-clause-err : goal.returns-clause-err
returns-clause-err g c =
    rw (← c.self.view_is, c.by_end.ensures) (when_fault c.lend_source.result
    (λ h. (nothing_changed c.args.tid c.in-Some.ensures.value (h.0, refl), h.1)) c.lend_source.ensures.err)
