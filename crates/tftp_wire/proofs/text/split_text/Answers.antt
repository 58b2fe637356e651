-- The first zero byte ends the first text.
use Rattle.std.proofs.Common.{sym, ◌∙◌}
use Rattle.tftp_wire.proofs.TextsLemmas.{text_from_none, text_from_some}
use Rattle.tftp_wire.proofs.text.split_text.Goals as goal

pub returns-in_err-end : goal.returns-in_err-end
returns-in_err-end c = rw c.from_residual.ensures (text_from_none _ (sym c.first_zero.ensures ∙ c.in_err-end.was))

pub returns : goal.returns
returns c = text_from_some _ _ (sym c.first_zero.ensures ∙ c.in_ok-end.was)
