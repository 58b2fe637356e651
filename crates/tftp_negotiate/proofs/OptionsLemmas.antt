-- A name by its letters, and a number by its decimal digits. For `Name::of`, `number_of`, KeptLemmas and LawsLemmas.
use Rattle.std.proofs.Common.{◌≡◌, ℕ, ◌^◌, ◌<◌, Bool, true, false, ◌&&◌, cond, List, Some, None, decimal}
use Rattle.std.proofs.Common.{nat_lt, bytes_eq, refl, sym, ◌∙◌, ap, arith, ◌*◌, ◌+◌, IfSome, Option, get_or, length}
use Rattle.std.proofs.Common.{take, rules}
use Rattle.std.specs.Char.{digit_value}
use Rattle.std.specs.Int.{IsInRange}
use Rattle.std.proofs.lemmas.Int.Digits.{digits_value_more}
use Rattle.std.proofs.lemmas.Str.Parse.{digit_at, digits_value-take-le, numerals_by_value, tells_digits}
use Rattle.std.specs.Str.Parse.{AllDigits, digits_value}
use Rattle.std.proofs.lemmas.Fmt.{decimal_is_IsNumeral, decimal_digit, first_decimal, decimal_nonempty, decimal-digits_value}
use Rattle.std.proofs.lemmas.Slice.Eq.{bytes_eq-Decides}
use Rattle.std.proofs.lemmas.Bool.{cond-true, cond-false}
use Rattle.std.proofs.lemmas.Bool.Decides.{nat_tests}
use Rattle.std.specs.Cmp.Derive.{both_true}
use Rattle.std.proofs.lemmas.Option.{cond_some}
use Rattle.tftp_negotiate.specs.declared.name.Name.TheVariants.{Blksize, Timeout, Tsize}
use Rattle.tftp_negotiate.specs.Options.{name_of, number_of, means}

-- the name `blksize`, in any case
pub name_of-blksize : (text : List ℕ) → means text Blksize ≡ true → name_of text ≡ Some Blksize
unfolding name_of
name_of-blksize text h = cond-true _ _ _ h

-- the name `timeout`
pub name_of-timeout : (text : List ℕ) → means text Blksize ≡ false → means text Timeout ≡ true
    → name_of text ≡ Some Timeout
unfolding name_of
name_of-timeout text a h = cond-false _ _ _ a ∙ cond-true _ _ _ h

-- the name `tsize`
pub name_of-tsize : (text : List ℕ) → means text Blksize ≡ false → means text Timeout ≡ false → means text Tsize ≡ true
    → name_of text ≡ Some Tsize
unfolding name_of
name_of-tsize text a b h = cond-false _ _ _ a ∙ (cond-false _ _ _ b ∙ cond-true _ _ _ h)

-- another name is unknown
pub name_of-none : (text : List ℕ) → means text Blksize ≡ false → means text Timeout ≡ false → means text Tsize ≡ false
    → name_of text ≡ None
unfolding name_of
name_of-none text a b h = cond-false _ _ _ a ∙ (cond-false _ _ _ b ∙ cond-false _ _ _ h)

-- the number of a text, by the value of its digits
number_by : (text : List ℕ) (n : ℕ) → digits_value 10 text ≡ n
    → number_of text ≡ cond (bytes_eq (decimal n) text && nat_lt n (2 ^ 64)) (Some n) None
unfolding number_of
number_by text n e = ap (λ m. cond (bytes_eq (decimal m) text && nat_lt m (2 ^ 64)) (Some m) None) e

-- both tests passed
pub both_parts : (a b : Bool) → (a && b) ≡ true → (a ≡ true) × (b ≡ true)
both_parts true b h = (refl, h)
both_parts false b h = (h, cc)

-- the decimal digits of a number are that number
pub number_of-decimal : (n : ℕ) → n < 2 ^ 64 → number_of (decimal n) ≡ Some n
number_of-decimal n small =
    number_by (decimal n) n (decimal_is_IsNumeral n small).1
    ∙ cond-true _ _ _ (both_true ((bytes_eq-Decides (decimal n) (decimal n)).1 refl) (grind (arith, nat_tests)))

-- a text that is a number is the number's decimal digits
pub decimal-number_of : (text : List ℕ) (n : ℕ) → number_of text ≡ Some n → (text ≡ decimal n) × (n < 2 ^ 64)
decimal-number_of text n h =
    let s =
    cond_some (bytes_eq (decimal (digits_value 10 text)) text && nat_lt (digits_value 10 text) (2 ^ 64)) (digits_value
    10 text) n (sym (number_by text (digits_value 10 text) refl) ∙ h) in
    let p = both_parts (bytes_eq (decimal (digits_value 10 text)) text) (nat_lt (digits_value 10 text) (2 ^ 64)) s.0 in
    let e : text ≡ decimal (digits_value 10 text) = search rules in
    (e ∙ ap decimal s.1, let m = p.1 in let k = s.1 in grind (arith, nat_tests))

-- a text that is not the decimal digits of a number is not a number
pub number_of_none : (text : List ℕ) → ((n : ℕ) → n < 2 ^ 64 → text ≡ decimal n → ⊥) → None ≡ number_of text
number_of_none text none =
    let v = digits_value 10 text in
    let e = number_by text v refl in
    let no : (bytes_eq (decimal v) text && nat_lt v (2 ^ 64)) ≡ false = search rules in
    sym (e ∙ cond-false _ _ _ no)

-- a number has a first digit, which is 0 only if it is the only one
pub begins-decimal : (text : List ℕ) (n : ℕ) → n < 2 ^ 64 → text ≡ decimal n
    → (0 < length text) × (get_or text 0 0 ≡ 48 → length text ≡ 1)
begins-decimal text n small e = search (rules, decimal_digit, first_decimal, decimal_nonempty)

-- what was read of a text that begins as a number
pub number_of-read : (text : List ℕ) (r : Option ℕ)
    → (0 < length text) × (get_or text 0 0 ≡ 48 → length text ≡ 1)
    → IfSome r (λ n. n ≡ digits_value 10 text) → IfSome r (λ _. AllDigits 10 text) → IfSome r (λ n. n < 2 ^ 64)
    → (r ≡ None → (n : ℕ) → n < 2 ^ 64 → text ≡ decimal n → ⊥) → r ≡ number_of text
number_of-read text None begins value digits small none = number_of_none text (none refl)
number_of-read text (Some n) begins value digits small none =
    let own = numerals_by_value (AllDigits 10) tells_digits in
    let below : digits_value 10 text < 2 ^ 64 = omega arith in
    let same : decimal n ≡ text = ap decimal value ∙ decimal-digits_value own text digits begins.0 begins.1 below in
    sym (ap number_of (sym same) ∙ number_of-decimal n small)

-- each byte of a number is a digit
pub digit_of-decimal : (text : List ℕ) (n i : ℕ) → n < 2 ^ 64 → text ≡ decimal n → i < length text
    → IsInRange 48 57 (get_or text i 0)
digit_of-decimal text n i small e within = digit_at text i (rw e ((decimal_is_IsNumeral n small).0.1)) within

-- the first digits of a number write a number that is no greater
pub first_digits-decimal : (text : List ℕ) (n i : ℕ) → n < 2 ^ 64 → text ≡ decimal n → i < length text
    → digits_value 10 (take i text) * 10 + digit_value (get_or text i 0) < 2 ^ 64
first_digits-decimal text n i small e within =
    let more = digits_value_more 10 text i within in
    let part = digits_value-take-le 10 text (i + 1) (omega arith) in
    let whole : digits_value 10 text ≡ n = ap (digits_value 10) e ∙ (decimal_is_IsNumeral n small).1 in
    omega arith
