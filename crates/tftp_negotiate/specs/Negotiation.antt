-- A list of options, judged one by one (RFC 2347, "Negotiation Protocol").
use Rattle.std.specs.Prelude.{ℕ, ◌≤◌, Bool, false, true, ◌||◌, List, [], ◌∷◌, ◌++◌, Option, Some}
use Rattle.std.specs.Prelude.{None, Result, Ok, Err, count_by, nat_lt, if◌then◌else◌}
use Rattle.tftp_wire.specs.declared.options.RawOption.{RawOption}
use Rattle.tftp_negotiate.specs.declared.name.Name.{Name}
use Rattle.tftp_negotiate.specs.declared.name.Name.TheVariants.{Blksize, Timeout, Tsize}
use Rattle.tftp_negotiate.specs.declared.known.Known.{Known}
use Rattle.tftp_negotiate.specs.declared.refusal.Refusal.{Refusal}
use Rattle.tftp_negotiate.specs.declared.refusal.Refusal.TheVariants.{Repeated}
use Rattle.tftp_negotiate.specs.Options.{name_of}

-- both names are the same
abbrev pub same_name : Name → Name → Bool
same_name Blksize Blksize = true
same_name Timeout Timeout = true
same_name Tsize Tsize = true
same_name _ _ = false

-- there is a name, and it is this one
abbrev pub is_name : Name → Option Name → Bool
is_name name None = false
is_name name (Some other) = same_name name other

-- how often a name occurs in a list, by the name of each element
abbrev pub occurrences : {A : Type 0} → (A → Option Name) → Name → List A → ℕ
occurrences named name xs = count_by (λ x. is_name name (named x)) xs

-- a known name is repeated, by the number of occurrences of each (RFC 2347, "Negotiation Protocol")
abbrev pub occurs_twice : (Name → ℕ) → Bool
occurs_twice occurrences =
    nat_lt 1 (occurrences Blksize)
    || (nat_lt 1 (occurrences Timeout) || nat_lt 1 (occurrences Tsize))

-- how often a name occurs in a request or an OACK
unfoldable pub occurrences_of : Name → List RawOption → ℕ
occurrences_of name options = occurrences (λ o. name_of o.name) name options

-- a known name is repeated in a request or an OACK, whatever its values
abbrev pub repeats : List RawOption → Bool
repeats options = occurs_twice (λ name. occurrences_of name options)

-- no known name is repeated
abbrev pub AreOnce : List RawOption → Type 0
AreOnce options = (name : Name) → occurrences_of name options ≤ 1

-- the result of one option precedes the results of the others, and so does its refusal
abbrev pub kept_before : Result (Option Known) Refusal → Result (List Known) Refusal
    → Result (List Known) Refusal
kept_before (Err refusal) others = Err refusal
kept_before (Ok None) others = others
kept_before (Ok (Some known)) (Err refusal) = Err refusal
kept_before (Ok (Some known)) (Ok others) = Ok (known ∷ others)

-- the results of the options, in their order, or the first refusal from the left
abbrev pub each_judged : (RawOption → Result (Option Known) Refusal) → List RawOption
    → Result (List Known) Refusal
each_judged judgement [] = Ok []
each_judged judgement (o ∷ os) = kept_before (judgement o) (each_judged judgement os)

-- a repeated name is refused before any option is judged
abbrev pub negotiated : (RawOption → Result (Option Known) Refusal) → List RawOption
    → Result (List Known) Refusal
negotiated judgement options =
    if repeats options then Err Repeated else each_judged judgement options

-- the result of one option follows the results before it, and the first refusal stays
abbrev pub kept_after : Result (List Known) Refusal → Result (Option Known) Refusal
    → Result (List Known) Refusal
kept_after (Err refusal) judgement = Err refusal
kept_after (Ok known) (Err refusal) = Err refusal
kept_after (Ok known) (Ok None) = Ok known
kept_after (Ok known) (Ok (Some one)) = Ok (known ++ one ∷ [])
