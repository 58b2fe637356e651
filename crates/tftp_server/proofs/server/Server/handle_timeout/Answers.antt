-- What the transfer at the identifier does is what the server does; its fault is the server's.
use Rattle.std.proofs.Common.{refl}
use Rattle.tftp_server.specs.Steps.{lends}
use Rattle.tftp_server.proofs.HeldLemmas.{still_held}
use Rattle.tftp_server.proofs.StepsLemmas.{not_open, nothing_changed, times_out, when_fault, never_memory}
use Rattle.tftp_server.proofs.server.Server.handle_timeout.Goals as goal

pub returns-clause-steps : goal.returns-clause-steps
returns-clause-steps g c =
    rw (← c.self.view_is, c.by_end.ensures) (times_out c.args.tid _ c.in-Some.transfer.now _ c.in-Some.ensures.value (λ answer. lends answer.1)
    (λ answer. answer.0) c.handle_timeout.result c.handle_timeout.ensures.closed c.handle_timeout.ensures.steps)

pub returns-clause-no_such_tid : goal.returns-clause-no_such_tid
returns-clause-no_such_tid g c =
    rw (← c.self.view_is, ← c.in-Some.ensures.value, c.by_end.ensures)
    (not_open c.in-Some.transfer.now c.handle_timeout.result c.handle_timeout.ensures.closed)

pub returns-clause-fault : goal.returns-clause-fault
returns-clause-fault g c =
    rw c.by_end.ensures (never_memory c.handle_timeout.result c.handle_timeout.ensures.memory)

pub returns-clause-err : goal.returns-clause-err
returns-clause-err g c =
    rw (← c.self.view_is, c.by_end.ensures) (when_fault c.handle_timeout.result
    (λ h. nothing_changed c.args.tid c.in-Some.ensures.value (h, refl)) c.handle_timeout.ensures.err)

pub returns-clause-held : goal.returns-clause-held
returns-clause-held g c =
    still_held c.args.tid _ c.in-Some.transfer.now c.handle_timeout.new.self c.by_end.result c.in-Some.ensures.value
