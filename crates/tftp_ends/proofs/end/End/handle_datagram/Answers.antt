-- A step over the one file of the end is the step over its files.
use Rattle.tftp_ends.specs.OneFile.{sender_step, sender_lacks, receiver_step, receiver_lacks}
use Rattle.tftp_ends.specs.Shortage.{AppendsNothing}
use Rattle.tftp_ends.proofs.OneFileLemmas.{steps_over}
use Rattle.tftp_ends.proofs.end.End.handle_datagram.Goals as goal

pub returns-in-Source-clause-steps : goal.returns-in-Source-clause-steps
returns-in-Source-clause-steps g c =
    rw (c.in-Source.is) (steps_over _ _ _ _ _ _ _ _ _ _ _ (λ turn. sender_step g.S.Source.meaning g.K.Sink.meaning
    c.args.from c.args.bytes.now c.args.self.now c.in-Source.source turn c.handle_datagram_as_sender.new.source)
    c.handle_datagram_as_sender.ensures.steps)

pub returns-in-Sink-clause-steps : goal.returns-in-Sink-clause-steps
returns-in-Sink-clause-steps g c =
    rw (c.in-Sink.is) (steps_over _ _ _ _ _ _ _ _ _ _ _ (λ turn. receiver_step g.S.Source.meaning g.K.Sink.meaning
    c.args.from c.args.bytes.now c.args.self.now c.in-Sink.sink turn c.handle_datagram_as_receiver.new.sink)
    c.handle_datagram_as_receiver.ensures.steps)

pub returns-in-Source-clause-why : goal.returns-in-Source-clause-why
returns-in-Source-clause-why g c = λ memory.
    rw (c.in-Source.is)
    (sender_lacks g.S.Source.meaning g.K.Sink.meaning AppendsNothing c.args.from c.args.bytes.now c.args.self.now _ _
    (c.handle_datagram_as_sender.ensures.why memory))

pub returns-in-Sink-clause-why : goal.returns-in-Sink-clause-why
returns-in-Sink-clause-why g c = λ memory.
    rw (c.in-Sink.is)
    (receiver_lacks g.S.Source.meaning g.K.Sink.meaning AppendsNothing c.args.from c.args.bytes.now c.args.self.now _ _
    (c.handle_datagram_as_receiver.ensures.why memory))
