-- A step over the store and the draft as a sink is the transfer's.
use Rattle.std.proofs.Common.{refl, rules}
use Rattle.std.proofs.lemmas.Result.{IfOk-weaker}
use Rattle.tftp_ends.specs.OneFile.{sender_lacks}
use Rattle.tftp_ends.specs.Step.{UsesFile}
use Rattle.tftp_server.proofs.ShortageLemmas.{draft_lacked, draft_stays}
use Rattle.tftp_server.proofs.StepsLemmas.{source_taken, draft_taken, drafting_now, handled_alike}
use Rattle.tftp_server.proofs.transfer.Transfer.handle_datagram.Goals as goal

pub returns-in-Source-clause-takes : goal.returns-in-Source-clause-takes
returns-in-Source-clause-takes g c =
    rw (← c.self.view_is, c.in-Source.is) (IfOk-weaker c.handle_datagram_as_sender.result _ _
    (λ answer h. source_taken _ g.F.Source.meaning h) c.handle_datagram_as_sender.ensures.steps)

pub returns-in-Source-clause-memory : goal.returns-in-Source-clause-memory
returns-in-Source-clause-memory g c = λ memory.
    handled_alike UsesFile c.args.from c.args.bytes.now c.self.view_is
    (c.handle_datagram_as_sender.ensures.memory memory)

pub returns-in-Source-clause-why : goal.returns-in-Source-clause-why
returns-in-Source-clause-why g c = λ memory.
    rw (← c.self.view_is, c.in-Source.is)
    (sender_lacks _ _ _ _ _ _ _ _ (c.handle_datagram_as_sender.ensures.why memory))

pub returns-in-Sink-clause-takes : goal.returns-in-Sink-clause-takes
returns-in-Sink-clause-takes g c =
    rw (← c.self.view_is, c.in-Sink.is) (IfOk-weaker c.handle_datagram_as_receiver.result _ _ (λ answer h. draft_taken _
    g.F.Source.meaning _ _ refl (drafting_now c.handle_datagram_as_receiver.new.sink c.store-1.given.1
    c.handle_datagram_as_receiver.ensures.same) h) c.handle_datagram_as_receiver.ensures.steps)

pub returns-in-Sink-clause-memory : goal.returns-in-Sink-clause-memory
returns-in-Sink-clause-memory g c = λ memory.
    handled_alike UsesFile c.args.from c.args.bytes.now c.self.view_is
    (c.handle_datagram_as_receiver.ensures.memory memory)

pub returns-in-Sink-clause-why : goal.returns-in-Sink-clause-why
returns-in-Sink-clause-why g c = λ memory.
    rw (← c.self.view_is, c.in-Sink.is) (draft_lacked _ _ _ _ _ refl (drafting_now c.handle_datagram_as_receiver.new.sink
    c.store-1.given.1 c.handle_datagram_as_receiver.ensures.same) (c.handle_datagram_as_receiver.ensures.why memory))

pub returns-in-Sink-clause-err : goal.returns-in-Sink-clause-err
returns-in-Sink-clause-err g c =
    rw (← c.self.view_is, c.in-Sink.is) (draft_stays _ _ _ _ _ refl (drafting_now c.handle_datagram_as_receiver.new.sink
    c.store-1.given.1 c.handle_datagram_as_receiver.ensures.same) _ c.handle_datagram_as_receiver.ensures.unmoved
    c.handle_datagram_as_receiver.ensures.why (λ h. (h.0, h.1)) (λ h stays. stays)
    c.handle_datagram_as_receiver.ensures.err)

pub returns-in-Source-clause-room : goal.returns-in-Source-clause-room
returns-in-Source-clause-room g c = search rules

pub returns-in-Sink-clause-room : goal.returns-in-Sink-clause-room
returns-in-Sink-clause-room g c = search rules
