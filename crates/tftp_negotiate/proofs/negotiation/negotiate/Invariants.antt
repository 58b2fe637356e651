-- The names seen and the outcome are those of the options so far.
use Rattle.std.proofs.Common.{map}
use Rattle.tftp_wire.specs.Borrowed.{owned_option}
use Rattle.tftp_negotiate.specs.Policy.{judged}
use Rattle.tftp_negotiate.proofs.NegotiationLemmas.{Reads}
use Rattle.tftp_negotiate.proofs.negotiation.negotiate.Given as goal

abbrev pub invariant-loop-option : goal.invariant-loop-option
invariant-loop-option g l = Reads (judged l.policy) (map owned_option l.yielded) l.seen l.outcome
