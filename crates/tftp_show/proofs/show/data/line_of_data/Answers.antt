-- The digits are those of a DATA.
use Rattle.std.proofs.Common.{sym, arith}
use Rattle.std.specs.Cmp.Lexicographic.{same_text}
use Rattle.tftp_show.proofs.DataLemmas.{data_shown, half_length, with_opcode}
use Rattle.tftp_show.proofs.show.data.line_of_data.Goals as goal

pub returns : goal.returns
returns c =
    let rest = c.in_ok-strip_prefix.field-0.now in
    let found = c.in_ok-strip_prefix.ensures.cases in
    let long = c.in-len4-up.len_at_least in
    data_shown c.args.digits.now rest _ _ c.requires (with_opcode _ rest (same_text _ _ (sym found.0)) found.1) long
    (omega (arith, c.from.ensures, c.from-2.ensures, c.byte_of.ensures, c.byte_of-2.ensures))
    (omega (arith, c.if-block-eq0.false))
    (half_length rest long) (omega (arith, c.if-length-from.false, c.from-else-block-eq0.ensures))
