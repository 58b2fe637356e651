-- The number of a text of digits: if it is a number's own, no step loses anything.
use Rattle.std.proofs.lemmas.Grind.{common_steps}
use Rattle.std.proofs.Common.{arith, rules}
use Rattle.std.proofs.lemmas.Str.{digit_value_digit}
use Rattle.std.proofs.lemmas.Int.Digits.{digits_more, digits_value_more}
use Rattle.std.proofs.lemmas.Str.Parse.{digit_from_value}
use Rattle.tftp_negotiate.proofs.OptionsLemmas.{digit_of-decimal, first_digits-decimal}
use Rattle.tftp_negotiate.proofs.number.value_of.Goals as goal

-- a number has no byte that is no digit
pub returns-then-not-is_ascii_digit-clause-none : goal.returns-then-not-is_ascii_digit-clause-none
returns-then-not-is_ascii_digit-clause-none c = search (rules, digit_of-decimal)

pub returns-in_err-checked_mul-clause-none : goal.returns-in_err-checked_mul-clause-none
returns-in_err-checked_mul-clause-none c = search (rules, first_digits-decimal)

pub returns-in_err-number-clause-none : goal.returns-in_err-number-clause-none
returns-in_err-number-clause-none c = search (rules, first_digits-decimal, digit_value_digit, digit_of-decimal) steps
    1000000

pub loop-byte-preserved : goal.loop-byte-preserved
loop-byte-preserved c = grind (
  arith,
  common_steps,
  digit_value_digit,
  digit_from_value,
  digits_value_more,
  digits_more,
)
