-- A text is a number exactly if it is the number's decimal digits.
use Rattle.std.proofs.Common.{rules}
use Rattle.tftp_negotiate.proofs.OptionsLemmas.{begins-decimal, number_of-read, number_of_none}
use Rattle.tftp_negotiate.proofs.number.number_of.Goals as goal

pub returns-then-not-begins_number : goal.returns-then-not-begins_number
returns-then-not-begins_number c = search (rules, number_of_none, begins-decimal)

pub returns : goal.returns
returns c =
    number_of-read c.args.text.now c.value_of.result (c.begins_number.ensures.0 c.if-not-begins_number.false)
    c.value_of.ensures.value c.value_of.ensures.digits c.value_of.ensures.small c.value_of.ensures.none
