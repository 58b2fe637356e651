-- One more pair of digits follows those before it.
use Rattle.std.proofs.Common.{arith}
use Rattle.tftp_show.proofs.DigitsLemmas.{pairs_begin, pairs_go_on, pairs_end}
use Rattle.tftp_show.proofs.show.digits.decode_pairs.Goals as goal

pub loop-i-init : goal.loop-i-init
loop-i-init c = pairs_begin _ _ c.requires

pub loop-i-preserved : goal.loop-i-preserved
loop-i-preserved c = pairs_go_on _ _ _ _ (omega arith) c.loop-i.invariant c.byte_of.ensures

pub returns : goal.returns
returns c = pairs_end _ _ _ (omega arith) c.loop-i.invariant
