-- One more digit follows those before it.
use Rattle.std.proofs.Common.{◌∙◌, get_or}
use Rattle.tftp_show.proofs.DigitsLemmas.{all_go_on, all_end, same_digits}
use Rattle.tftp_show.proofs.show.digits.are_digits.Goals as goal

pub loop-byte-preserved : goal.loop-byte-preserved
loop-byte-preserved c =
    all_go_on _ _ _ _ c.loop-byte-test.true c.loop-byte.invariant (c.is_ascii_hexdigit-all.ensures.value
    ∙ same_digits (get_or c.args.bytes.now c.loop-byte.byte-index 0))

pub returns : goal.returns
returns c = all_end _ _ _ c.loop-byte-test.false c.loop-byte.invariant
