-- The iterator yields the options of the datagram's list.
use Rattle.std.proofs.lemmas.Iterator.Consumers.{YieldsList-from_first}
use Rattle.tftp_wire.specs.Borrowed.{owned_option}
use Rattle.tftp_negotiate.proofs.answer.accept_ref.Goals as goal

pub returns-clause-answers : goal.returns-clause-answers
returns-clause-answers c =
    c.negotiate.ensures.agreed c.args.options.now
    (YieldsList-from_first owned_option (λ s. s) c.args.options.now c.iter.ensures).runs
