-- An even number of digits decodes.
use Rattle.std.proofs.Common.{◌∙◌, sym}
use Rattle.tftp_show.proofs.DigitsLemmas.{even_ok}
use Rattle.tftp_show.proofs.show.digits.is_hex.Goals as goal

pub returns-then-digits-eq0 : goal.returns-then-digits-eq0
returns-then-digits-eq0 c = c.are_digits.ensures ∙ sym (even_ok _ c.if-digits-eq0.true)
