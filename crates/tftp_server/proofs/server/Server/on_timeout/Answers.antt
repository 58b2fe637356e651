-- What the transfer at the identifier does is what the server does; its fault is the server's.
use Rattle.std.proofs.Common.{refl, sym}
use Rattle.tftp_server.specs.Steps.{appends}
use Rattle.tftp_server.proofs.StepsLemmas.{not_open, nothing_changed, timeout_fault, times_out, when_fault, when_memory}
use Rattle.tftp_server.proofs.server.Server.on_timeout.Goals as goal

pub returns-clause-steps : goal.returns-clause-steps
returns-clause-steps g c =
    rw (← c.self.view_is, c.by_end.ensures) (times_out c.args.tid _ c.in-Some.transfer.now _ c.in-Some.ensures.value
    (λ step. appends c.args.out.now.items c.on_timeout.new.out.items) (λ step. step) c.on_timeout.result
    c.on_timeout.ensures.closed c.on_timeout.ensures.steps)

pub returns-clause-no_such_tid : goal.returns-clause-no_such_tid
returns-clause-no_such_tid g c =
    rw (← c.self.view_is, ← c.in-Some.ensures.value, c.by_end.ensures)
    (not_open c.in-Some.transfer.now c.on_timeout.result c.on_timeout.ensures.closed)

pub returns-clause-fault : goal.returns-clause-fault
returns-clause-fault g c =
    rw (← c.self.view_is, ← c.in-Some.ensures.value, c.by_end.ensures)
    (timeout_fault c.in-Some.transfer.now c.on_timeout.result c.on_timeout.ensures.closed c.on_timeout.ensures.memory)

pub returns-clause-err : goal.returns-clause-err
returns-clause-err g c =
    rw (← c.self.view_is, c.by_end.ensures) (when_fault c.on_timeout.result
    (λ h. (nothing_changed c.args.tid c.in-Some.ensures.value (h.0, refl), h.1)) c.on_timeout.ensures.err)

pub returns-clause-why : goal.returns-clause-why
returns-clause-why g c =
    rw (← c.self.view_is, c.by_end.ensures) (λ e. search (
      sym c.in-Some.ensures.value,
      when_memory c.on_timeout.result c.on_timeout.ensures.why e,
    ))
