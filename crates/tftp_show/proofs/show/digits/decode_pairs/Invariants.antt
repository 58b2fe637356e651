-- The pairs before the index are decoded.
use Rattle.tftp_show.proofs.DigitsLemmas.{PairsSoFar}
use Rattle.tftp_show.proofs.show.digits.decode_pairs.Given as goal

abbrev pub invariant-loop-i : goal.invariant-loop-i
invariant-loop-i l = PairsSoFar l.digits l.bytes l.i
