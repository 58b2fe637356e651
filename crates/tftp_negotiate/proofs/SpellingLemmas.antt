-- Known options as they are sent are options of a packet. For `options_are_spelled` and the crate tftp_rules.
use Rattle.std.proofs.Common.{◌≡◌, ℕ, ◌+◌, ◌^◌, ◌<◌, ◌≤◌, List, [], ◌∷◌, ◌++◌, length, map, Option, Some, None, IfSome}
use Rattle.std.proofs.Common.{decimal, arith, rules}
use Rattle.std.specs.Prelude.{◌≢◌}
use Rattle.std.specs.List.{AllByRecursion}
use Rattle.std.proofs.lemmas.Bool.{cases_eq}
use Rattle.std.proofs.lemmas.List.{length-append}
use Rattle.std.proofs.lemmas.Fmt.{length-decimal-le, decimal-digits_of, decimal_digit}
use Rattle.tftp_wire.specs.declared.options.RawOption.{RawOption}
use Rattle.tftp_wire.specs.Options.{IsOption, option_bytes, options_bytes}
use Rattle.tftp_wire.specs.Texts.{IsText}
use Rattle.tftp_negotiate.specs.declared.known.Kind.{Kind}
use Rattle.tftp_negotiate.specs.declared.known.Kind.TheVariants.{Read, Write}
use Rattle.tftp_negotiate.specs.declared.known.Known.{Known}
use Rattle.tftp_negotiate.specs.declared.known.Known.TheVariants as known
use Rattle.tftp_negotiate.specs.declared.name.Name.{Name}
use Rattle.tftp_negotiate.specs.declared.name.Name.TheVariants.{Blksize, Timeout, Tsize}
use Rattle.tftp_negotiate.specs.Agreed.{agreed_options, known_option}
use Rattle.tftp_negotiate.specs.Asked.{option_of, option_if, request_tsize}
use Rattle.tftp_negotiate.specs.Laws.{HasWord, KnownAreOptions, AskedAreOptions}
use Rattle.tftp_negotiate.specs.Options.{name_text}

-- the digits of a number are not zero bytes
digits_text : (digits : List ℕ) → IsText (map (λ d. 48 + d) digits)
digits_text [] = tt
digits_text (d ∷ digits) = ((let z : 48 + d ≢ 0 = omega arith in z), digits_text digits)

number_text : (n : ℕ) → n < 2 ^ 64 → IsText (decimal n)
number_text n fits = search (rules, cases_eq, decimal_digit, decimal-digits_of, digits_text)

name_is : (name : Name) → (name_text name ≢ []) × IsText (name_text name) × (length (name_text name) ≤ 7)
name_is name = search rules

-- an option as it is sent with its number
record Spelled (o : RawOption) : Type 0 where
  pub option : IsOption o
  pub short : length (option_bytes o) ≤ 29

spelled_option : (name : Name) (n : ℕ) → n < 2 ^ 64 → Spelled (option_of name n)
spelled_option name n fits =
    let h = name_is name in
    let l : length (decimal n) ≤ 20 = length-decimal-le 20 n (omega arith) (omega (arith, fits)) fits in
    let a = length-append (name_text name) (0 ∷ []) in
    let b = length-append (decimal n) (0 ∷ []) in
    let c = length-append (name_text name ++ 0 ∷ []) (decimal n ++ 0 ∷ []) in
    let short = h.2 in
    search (rules, number_text)

spelled_known : (k : Known) → HasWord k → Spelled (known_option k)
spelled_known (known.Blksize n) f = spelled_option Blksize n f
spelled_known (known.Timeout n) f = spelled_option Timeout n f
spelled_known (known.Tsize n) f = spelled_option Tsize n f

-- the server's can be sent
pub known_are_options : KnownAreOptions
known_are_options [] h = (tt, omega arith)
known_are_options (k ∷ ks) h =
    let one = spelled_known k h.0 in
    let others = known_are_options ks h.1 in
    let a = length-append (option_bytes (known_option k)) (options_bytes (agreed_options ks)) in
    let b = one.short in
    let c = others.1 in
    ((one.option, others.0), omega (arith, a, b, c))

-- the number, if there is one, fits 64 bits
word_if : (P : ℕ → Type 0) → ((n : ℕ) → P n → n < 2 ^ 64) → (value : Option ℕ) → IfSome value P
    → IfSome value (λ n. n < 2 ^ 64)
word_if P fits None h = tt
word_if P fits (Some n) h = fits n h

-- an option, if there is a number, and others after it
options_if : (name : Name) (value : Option ℕ) (others : List RawOption) → IfSome value (λ n. n < 2 ^ 64)
    → AllByRecursion IsOption others → AllByRecursion IsOption (option_if name value ++ others)
options_if name None others h rest = rest
options_if name (Some n) others h rest = (let s = spelled_option name n h in s.option, rest)

last_if : (name : Name) (value : Option ℕ) → IfSome value (λ n. n < 2 ^ 64)
    → AllByRecursion IsOption (option_if name value)
last_if name None h = tt
last_if name (Some n) h = (let s = spelled_option name n h in s.option, tt)

request_word : (kind : Kind) (length n : ℕ) → length < 2 ^ 64 → n ≡ request_tsize kind length → n < 2 ^ 64
request_word Read length n fits e = omega (arith, e)
request_word Write length n fits e = omega (arith, e)

-- and the client's
pub asked_are_options : AskedAreOptions
asked_are_options asked kind mode length fits is = search (rules, options_if, word_if, last_if, request_word) steps
    1000000
