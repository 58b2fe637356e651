-- The state of a negotiation after each of its options. For `negotiate`, KeptLemmas, LawsLemmas and PolicyLemmas.
use Rattle.std.proofs.lemmas.Grind.{common_steps}
use Rattle.std.proofs.Common.{◌≡◌, ℕ, ◌+◌, ◌<◌, ◌≤◌, Bool, true, false, not, ◌||◌, cond, nat_lt, length, get_or, take}
use Rattle.std.proofs.Common.{drop, List, [], ◌∷◌, ◌++◌, Option, Some, None, Result, Ok, Err, IfOk, refl, sym, ◌∙◌, ap}
use Rattle.std.proofs.Common.{subst, arith, rules}
use Rattle.std.specs.List.{AllByRecursion}
use Rattle.std.proofs.lemmas.Bool.{cond-true, cond-false, ltb-true, ltb-false}
use Rattle.std.proofs.lemmas.Bool.Decides.{nat_tests}
use Rattle.std.proofs.lemmas.List.Sums.{sum_by-append}
use Rattle.tftp_wire.specs.declared.options.RawOption.{RawOption}
use Rattle.tftp_negotiate.specs.declared.name.Name.{Name}
use Rattle.tftp_negotiate.specs.declared.name.Name.TheVariants.{Blksize, Timeout, Tsize}
use Rattle.tftp_negotiate.specs.declared.name.Names.{Names}
use Rattle.tftp_negotiate.specs.declared.known.Known.{Known}
use Rattle.tftp_negotiate.specs.declared.refusal.Refusal.{Refusal}
use Rattle.tftp_negotiate.specs.declared.refusal.Refusal.TheVariants.{Repeated}
use Rattle.tftp_negotiate.specs.Options.{name_of}
use Rattle.tftp_negotiate.specs.Names.{has, has_name, with_name}
use Rattle.tftp_negotiate.specs.Negotiation.{same_name, is_name, occurrences_of, AreOnce, repeats, kept_before}
use Rattle.tftp_negotiate.specs.Negotiation.{kept_after, each_judged, negotiated}
use Rattle.tftp_negotiate.specs.Agreed.{name_of_known, IsAgreeable, IsAgreement, count_of}

-- whether the option has the name: 1 or 0
abbrev pub occurrence : Name → RawOption → ℕ
occurrence name o = cond (is_name name (name_of o.name)) 1 0

-- no option is of any name
pub occurrences_of-nil : (name : Name) → occurrences_of name [] ≡ 0
unfolding occurrences_of
occurrences_of-nil name = refl

-- one option more counts if it has the name
pub occurrences_of-cons : (name : Name) (o : RawOption) (os : List RawOption)
    → occurrences_of name (o ∷ os) ≡ occurrence name o + occurrences_of name os
unfolding occurrences_of
occurrences_of-cons name o os = grind (arith, common_steps)

-- one known option more counts if it has the name
pub count_of-cons : (name : Name) (k : Known) (ks : List Known)
    → count_of name (k ∷ ks) ≡ cond (same_name name (name_of_known k)) 1 0 + count_of name ks
count_of-cons name k ks = grind (arith, common_steps)

-- the options of two lists are counted together
pub occurrences_of-append : (name : Name) (os others : List RawOption)
    → occurrences_of name (os ++ others) ≡ occurrences_of name os + occurrences_of name others
unfolding occurrences_of
occurrences_of-append name os others = sum_by-append (λ x. occurrence name x) os others

-- the order in which two judgements are joined makes no difference
join_assoc : (first : Result (Option Known) Refusal) (middle : Result (List Known) Refusal)
    (last : Result (Option Known) Refusal)
    → kept_before first (kept_after middle last) ≡ kept_after (kept_before first middle) last
join_assoc first middle last = search rules

join_first : (one : Result (Option Known) Refusal) → kept_before one (Ok []) ≡ kept_after (Ok []) one
join_first (Err e) = refl
join_first (Ok None) = refl
join_first (Ok (Some k)) = refl

-- one more option at the end
pub each_judged-push : (judgement : RawOption → Result (Option Known) Refusal) (os : List RawOption) (o : RawOption)
    → each_judged judgement (os ++ o ∷ []) ≡ kept_after (each_judged judgement os) (judgement o)
each_judged-push judgement [] o = join_first (judgement o)
each_judged-push judgement (x ∷ xs) o =
    ap (kept_before (judgement x)) (each_judged-push judgement xs o)
    ∙ join_assoc (judgement x) (each_judged judgement xs) (judgement o)

-- the result of an option has its name, and a value that may be agreed
pub record Keeps (judgement : RawOption → Result (Option Known) Refusal) : Type 0 where
  pub names : (o : RawOption) (k : Known) → judgement o ≡ Ok (Some k) → name_of o.name ≡ Some (name_of_known k)
  pub values : (o : RawOption) (k : Known) → judgement o ≡ Ok (Some k) → IsAgreeable k

none_twice : (a b c : ℕ) → a ≤ 1 → b ≤ 1 → c ≤ 1 → (nat_lt 1 a || (nat_lt 1 b || nat_lt 1 c)) ≡ false
none_twice a b c p q r = grind (arith, nat_tests)

-- options of different names repeat none
pub repeats_none : (os : List RawOption) → AreOnce os → repeats os ≡ false
repeats_none os h = search rules

-- a name that occurs twice is repeated
pub repeats_some : (name : Name) (os : List RawOption) → 1 < occurrences_of name os → repeats os ≡ true
repeats_some name os h = search rules

module _ (judgement : RawOption → Result (Option Known) Refusal) (keeps : Keeps judgement) where
  counts-cons : (name : Name) (o : RawOption) (os : List RawOption) (one : Result (Option Known) Refusal)
      (others : Result (List Known) Refusal) (ks : List Known)
      → judgement o ≡ one → ((js : List Known) → others ≡ Ok js → count_of name js ≤ occurrences_of name os)
      → kept_before one others ≡ Ok ks → count_of name ks ≤ occurrences_of name (o ∷ os)
  counts-cons name o os one others ks is below h = grind (arith, common_steps, occurrences_of-cons, count_of-cons)

  -- a name occurs in the result at most as often as in the list
  pub counts : (name : Name) (os : List RawOption) (ks : List Known) → each_judged judgement os ≡ Ok ks
      → count_of name ks ≤ occurrences_of name os
  counts name [] ks h = let same : [] ≡ ks = cc in let whole = ap (count_of name) same in omega (arith, whole)
  counts name (o ∷ os) ks h = counts-cons name o os (judgement o) (each_judged judgement os) ks refl (counts name os) h

  values-cons : (o : RawOption) (one : Result (Option Known) Refusal) (others : Result (List Known) Refusal)
      (ks : List Known)
      → judgement o ≡ one → ((js : List Known) → others ≡ Ok js → AllByRecursion IsAgreeable js)
      → kept_before one others ≡ Ok ks → AllByRecursion IsAgreeable ks
  values-cons o one others ks is below h = search rules

  -- each option that was judged has a value that is allowed
  pub values : (os : List RawOption) (ks : List Known) → each_judged judgement os ≡ Ok ks
      → AllByRecursion IsAgreeable ks
  values [] ks h = let same : [] ≡ ks = cc in subst (AllByRecursion IsAgreeable) same tt
  values (o ∷ os) ks h = values-cons o (judgement o) (each_judged judgement os) ks refl (values os) h

  -- the result of options without a repeated name is an agreement
  pub IsAgreement-from_judged : (os : List RawOption) (outcome : Result (List Known) Refusal) → AreOnce os
      → outcome ≡ each_judged judgement os → IfOk outcome IsAgreement
  IsAgreement-from_judged os (Err e) once h = tt
  IsAgreement-from_judged os (Ok ks) once h =
      let c : (name : Name) → count_of name ks ≤ 1 = λ name. let k = counts name os ks (sym h) in let o = once name in
      omega arith in
      record { values = values os ks (sym h); once = none_twice _ _ _ (c Blksize) (c Timeout) (c Tsize) }

-- the state of a negotiation after these options: the names seen, none repeated, and the outcome
pub record Reads (judgement : RawOption → Result (Option Known) Refusal) (os : List RawOption) (seen : Names)
    (outcome : Result (List Known) Refusal) : Type 0 where
  pub came : (name : Name) → has seen name ≡ nat_lt 0 (occurrences_of name os)
  pub once : AreOnce os
  pub judged : outcome ≡ each_judged judgement os

-- the set after an option
has-with_name : (seen : Names) (one : Option Name) (name : Name)
    → has (with_name seen one) name ≡ (is_name name one || has seen name)
has-with_name seen one name = search rules

-- a name that is new is not in the set
fresh : (seen : Names) (one : Option Name) (name : Name) → has_name seen one ≡ false → is_name name one ≡ true
    → has seen name ≡ false
fresh seen one name new is = search rules

-- a name that is not new is in the set
again : (seen : Names) (one : Option Name) → has_name seen one ≡ true
    → (name : Name) × (is_name name one ≡ true) × (has seen name ≡ true)
again seen one h = search rules

occurrences_of-push : (name : Name) (os : List RawOption) (o : RawOption)
    → occurrences_of name (os ++ o ∷ []) ≡ occurrences_of name os + occurrence name o
occurrences_of-push name os o = search (rules, occurrences_of-append, occurrences_of-cons, occurrences_of-nil) steps
    1000000

came-push : (b : Bool) (n : ℕ) → (b || nat_lt 0 n) ≡ nat_lt 0 (n + cond b 1 0)
came-push b n = search rules

once-push : (b : Bool) (n : ℕ) → n ≤ 1 → (b ≡ true → nat_lt 0 n ≡ false) → n + cond b 1 0 ≤ 1
once-push true n h new = let z : n ≤ 0 = ltb-false 0 n (new refl) in omega arith
once-push false n h new = omega arith

module _ (judgement : RawOption → Result (Option Known) Refusal) where
  -- before the first option
  pub Reads-none : (seen : Names) (outcome : Result (List Known) Refusal) → ((name : Name) → has seen name ≡ false)
      → outcome ≡ Ok [] → Reads judgement [] seen outcome
  Reads-none seen outcome none is = search (rules, occurrences_of-nil)

  -- after one more, which is new
  pub Reads-more : (os : List RawOption) (seen : Names) (outcome : Result (List Known) Refusal) (o : RawOption)
      (now : Names) (next : Result (List Known) Refusal)
      → Reads judgement os seen outcome → has_name seen (name_of o.name) ≡ false → now ≡ with_name seen (name_of o.name)
      → next ≡ kept_after outcome (judgement o) → Reads judgement (os ++ o ∷ []) now next
  Reads-more os seen outcome o now next reads new is kept = search (
    rules,
    has-with_name,
    came-push,
    occurrences_of-push,
    once-push,
    fresh,
    each_judged-push,
  )

  -- at the end
  pub Reads-all : (os : List RawOption) (seen : Names) (outcome : Result (List Known) Refusal)
      → Reads judgement os seen outcome → outcome ≡ negotiated judgement os
  Reads-all os seen outcome reads = reads.judged ∙ sym (cond-false _ _ _ (repeats_none os reads.once))

  -- if a name is repeated
  pub Reads-again : (os : List RawOption) (seen : Names) (outcome : Result (List Known) Refusal) (o : RawOption)
      (others : List RawOption)
      → Reads judgement os seen outcome → has_name seen (name_of o.name) ≡ true
      → negotiated judgement ((os ++ o ∷ []) ++ others) ≡ Err Repeated
  Reads-again os seen outcome o others reads old = search (
    rules,
    again,
    ltb-true,
    occurrences_of-push,
    occurrences_of-append,
    cond-true,
    repeats_some,
  )

  -- the outcome so far is an agreement
  pub Reads-rule : Keeps judgement → (os : List RawOption) (seen : Names) (outcome : Result (List Known) Refusal)
      → Reads judgement os seen outcome → IfOk outcome IsAgreement
  Reads-rule keeps os seen outcome reads = IsAgreement-from_judged judgement keeps os outcome reads.once reads.judged

-- a new name was not in the set
pub was_new : (b r : Bool) → r ≡ not b → r ≡ true → b ≡ false
was_new true r h t = cc
was_new false r h t = refl

-- a name that is not new was in the set
pub was_there : (b r : Bool) → r ≡ not b → r ≡ false → b ≡ true
was_there true r h t = refl
was_there false r h t = cc

-- a list up to one of its elements, and the rest
pub up_to : (os front : List RawOption) (n : ℕ) (o : RawOption) → front ≡ take n os → n < length os → o ≡ get_or os n o
    → os ≡ (front ++ o ∷ []) ++ drop (n + 1) os
up_to os front n o begins inside at = grind (arith, common_steps)
