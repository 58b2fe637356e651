-- What the transfer at the identifier does is what the server does; its fault is the server's.
use Rattle.std.proofs.Common.{refl, sym}
use Rattle.tftp_ends.specs.Step.{UsesFile}
use Rattle.tftp_server.proofs.HeldLemmas.{still_held}
use Rattle.tftp_server.specs.Steps.{lends}
use Rattle.tftp_server.proofs.StepsLemmas.{datagram_fault, not_open, nothing_changed, takes_datagram, when_closed}
use Rattle.tftp_server.proofs.StepsLemmas.{when_fault, when_memory}
use Rattle.tftp_server.proofs.server.Server.handle_datagram.Goals as goal

pub returns-clause-takes : goal.returns-clause-takes
returns-clause-takes g c =
    rw (← c.self.view_is, c.by_end.ensures) (takes_datagram _ _ c.args.tid c.args.from c.args.bytes.now _ _
    c.in-Some.transfer.now _ c.in-Some.ensures.value (λ answer. lends answer.1) (λ answer. answer.0) c.handle_datagram.result c.handle_datagram.ensures.closed
    c.handle_datagram.ensures.takes)

pub returns-clause-no_such_tid : goal.returns-clause-no_such_tid
returns-clause-no_such_tid g c =
    rw (← c.self.view_is, ← c.in-Some.ensures.value, c.by_end.ensures)
    (not_open c.in-Some.transfer.now c.handle_datagram.result c.handle_datagram.ensures.closed)

pub returns-clause-fault : goal.returns-clause-fault
returns-clause-fault g c =
    rw (← c.self.view_is, ← c.in-Some.ensures.value, c.by_end.ensures)
    (datagram_fault c.in-Some.transfer.now UsesFile c.args.from c.args.bytes.now c.handle_datagram.result
    c.handle_datagram.ensures.closed c.handle_datagram.ensures.memory)

pub returns-clause-err : goal.returns-clause-err
returns-clause-err g c =
    rw (← c.self.view_is, ← c.in-Some.ensures.value, c.by_end.ensures)
    (when_fault c.handle_datagram.result (λ h. (c.handle_datagram.new.self, h, refl)) c.handle_datagram.ensures.err)

pub returns-clause-unmoved : goal.returns-clause-unmoved
returns-clause-unmoved g c =
    rw (← c.self.view_is, c.by_end.ensures) (λ e. nothing_changed c.args.tid c.in-Some.ensures.value
    (when_closed c.handle_datagram.result c.handle_datagram.ensures.unmoved e))

pub returns-clause-why : goal.returns-clause-why
returns-clause-why g c =
    rw (← c.self.view_is, c.by_end.ensures) (λ e. search (
      sym c.in-Some.ensures.value,
      when_memory c.handle_datagram.result c.handle_datagram.ensures.why e,
    ))

pub returns-clause-held : goal.returns-clause-held
returns-clause-held g c =
    still_held c.args.tid _ c.in-Some.transfer.now c.handle_datagram.new.self c.by_end.result c.in-Some.ensures.value
