-- What the transfer at the identifier does is what the server does; its fault is the server's.
use Rattle.std.proofs.Common.{refl, sym}
use Rattle.tftp_ends.specs.Step.{IsAnswered}
use Rattle.tftp_server.specs.Steps.{appends}
use Rattle.tftp_server.proofs.StepsLemmas.{datagram_fault, not_open, nothing_changed, takes_datagram, when_closed}
use Rattle.tftp_server.proofs.StepsLemmas.{when_fault, when_memory}
use Rattle.tftp_server.proofs.server.Server.on_datagram.Goals as goal

pub returns-clause-takes : goal.returns-clause-takes
returns-clause-takes g c =
    rw (← c.self.view_is, c.by_end.ensures) (takes_datagram _ _ c.args.tid c.args.from c.args.bytes.now _ _
    c.in-Some.transfer.now _ c.in-Some.ensures.value (λ step. appends c.args.out.now.items c.on_datagram.new.out.items) (λ step. step) c.on_datagram.result c.on_datagram.ensures.closed
    c.on_datagram.ensures.takes)

pub returns-clause-no_such_tid : goal.returns-clause-no_such_tid
returns-clause-no_such_tid g c =
    rw (← c.self.view_is, ← c.in-Some.ensures.value, c.by_end.ensures)
    (not_open c.in-Some.transfer.now c.on_datagram.result c.on_datagram.ensures.closed)

pub returns-clause-fault : goal.returns-clause-fault
returns-clause-fault g c =
    rw (← c.self.view_is, ← c.in-Some.ensures.value, c.by_end.ensures)
    (datagram_fault c.in-Some.transfer.now IsAnswered c.args.from c.args.bytes.now c.on_datagram.result
    c.on_datagram.ensures.closed c.on_datagram.ensures.memory)

pub returns-clause-err : goal.returns-clause-err
returns-clause-err g c =
    rw (← c.self.view_is, ← c.in-Some.ensures.value, c.by_end.ensures)
    (when_fault c.on_datagram.result (λ h. ((c.on_datagram.new.self, h.0, refl), h.1)) c.on_datagram.ensures.err)

pub returns-clause-unmoved : goal.returns-clause-unmoved
returns-clause-unmoved g c =
    rw (← c.self.view_is, c.by_end.ensures) (λ e. nothing_changed c.args.tid c.in-Some.ensures.value
    (when_closed c.on_datagram.result c.on_datagram.ensures.unmoved e))

pub returns-clause-why : goal.returns-clause-why
returns-clause-why g c =
    rw (← c.self.view_is, c.by_end.ensures) (λ e. search (
      sym c.in-Some.ensures.value,
      when_memory c.on_datagram.result c.on_datagram.ensures.why e,
    ))
