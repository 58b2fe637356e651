-- A negotiation drops no option: each agreed option is in the result, unless one is refused. For `drops_nothing`.
use Rattle.std.proofs.Common.{◌≡◌, ◌⊎◌, inl, inr, ℕ, ◌^◌, ◌<◌, Bool, true, false, cond, List, [], ◌∷◌, Option, Some}
use Rattle.std.proofs.Common.{None, Result, Ok, Err, Contains, decimal, refl, sym, ◌∙◌, ap, subst, arith, rules}
use Rattle.std.specs.List.{AllByRecursion}
use Rattle.std.specs.Str.{str_to_ascii_lowercase}
use Rattle.std.proofs.lemmas.Bool.{cond-false}
use Rattle.std.proofs.lemmas.List.Elements.{Contains-append_right, All-contains, All-from_recursion}
use Rattle.tftp_wire.specs.declared.options.RawOption.{RawOption}
use Rattle.tftp_wire.specs.declared.mode.Mode.{Mode}
use Rattle.tftp_wire.specs.declared.mode.Mode.TheVariants.{Octet}
use Rattle.tftp_negotiate.specs.declared.asked.Asked.{Asked}
use Rattle.tftp_negotiate.specs.declared.known.Kind.{Kind}
use Rattle.tftp_negotiate.specs.declared.known.Kind.TheVariants.{Write}
use Rattle.tftp_negotiate.specs.declared.known.Known.{Known}
use Rattle.tftp_negotiate.specs.declared.limits.Limits.{Limits}
use Rattle.tftp_negotiate.specs.declared.name.Name.{Name}
use Rattle.tftp_negotiate.specs.declared.name.Name.TheVariants as name
use Rattle.tftp_negotiate.specs.declared.refusal.Refusal.{Refusal}
use Rattle.tftp_negotiate.specs.declared.refusal.Refusal.TheVariants.{Repeated, TooLarge}
use Rattle.tftp_negotiate.specs.Options.{name_of, number_of, name_text}
use Rattle.tftp_negotiate.specs.Negotiation.{kept_before, each_judged}
use Rattle.tftp_negotiate.specs.Answer.{answer, answered, answered_option}
use Rattle.tftp_negotiate.specs.Agreement.{agreement, taken, taken_option}
use Rattle.tftp_negotiate.specs.Laws.{Says, HasOption, MayRequest, granted, AnswersWhatIsKnown, TooLargeForWrites}
use Rattle.tftp_negotiate.specs.Laws.{IsWithinAsked, known_of, AnswersAsked, TakesWhatWasAsked}
use Rattle.tftp_negotiate.proofs.OptionsLemmas.{number_of-decimal}
use Rattle.tftp_negotiate.proofs.NegotiationLemmas.{repeats_none}

head : {X : Type 0} (x : X) (xs : List X) → Contains (x ∷ xs) x
head x xs = (0, omega arith, refl)

tail : {X : Type 0} (x y : X) (ys : List X) → Contains ys x → Contains (y ∷ ys) x
tail x y ys h = Contains-append_right (y ∷ []) ys x h

none_of_none : {X : Type 0} (x : X) → Contains [] x → ⊥
none_of_none x h = let below = h.1 in omega arith

-- an element of a list is its first, or one of the others
cases : {X : Type 0} (x y : X) (ys : List X) → Contains (y ∷ ys) x → (y ≡ x) ⊎ Contains ys x
cases x y ys h = search rules

-- the result of an option is in the list
abbrev Kept : List Known → Result (Option Known) Refusal → Type 0
Kept ks (Err e) = ⊥
Kept ks (Ok None) = Unit {0}
Kept ks (Ok (Some k)) = Contains ks k

kept_more : (k : Known) (ks : List Known) (one : Result (Option Known) Refusal) → Kept ks one → Kept (k ∷ ks) one
kept_more k ks (Err e) h = h
kept_more k ks (Ok None) h = h
kept_more k ks (Ok (Some j)) h = tail j k ks h

module _ (judgement : RawOption → Result (Option Known) Refusal) where
  -- each option is in the result, or one of them is refused
  abbrev KeepsAll : List RawOption → Result (List Known) Refusal → Type 0
  KeepsAll os (Err e) = (o : RawOption) × Contains os o × (judgement o ≡ Err e)
  KeepsAll os (Ok ks) = (o : RawOption) → Contains os o → Kept ks (judgement o)

  keeps_cons : (o : RawOption) (os : List RawOption) (one : Result (Option Known) Refusal)
      (others : Result (List Known) Refusal)
      → judgement o ≡ one → KeepsAll os others → KeepsAll (o ∷ os) (kept_before one others)
  keeps_cons o os one others is below = search (rules, head, tail, cases, kept_more)

  keeps_all : (os : List RawOption) → KeepsAll os (each_judged judgement os)
  keeps_all [] = λ o h. absurd (none_of_none o h)
  keeps_all (o ∷ os) = keeps_cons o os (judgement o) (each_judged judgement os) refl (keeps_all os)

-- an option with this name and number is read as such
named : (text : List ℕ) (one : Name) → str_to_ascii_lowercase text ≡ name_text one → name_of text ≡ Some one
unfolding name_of
named text one h = search rules

numbered : (text : List ℕ) (n : ℕ) → text ≡ decimal n → n < 2 ^ 64 → number_of text ≡ Some n
numbered text n h fits = ap number_of h ∙ number_of-decimal n fits

answered-reads : (kind : Kind) (mode : Mode) (length : ℕ) (limits : Limits) (o : RawOption) (one : Name) (n : ℕ)
    → Says o one n → answered_option kind mode length limits o ≡ answered kind mode length limits (Some one) (Some n)
unfolding answered_option
answered-reads kind mode length limits o one n s =
    ap (λ a. answered kind mode length limits a (number_of o.value)) (named o.name one s.name)
    ∙ ap (answered kind mode length limits (Some one)) (numbered o.value n s.value s.fits)

taken-reads : (asked : Asked) (kind : Kind) (mode : Mode) (limit : ℕ) (o : RawOption) (one : Name) (n : ℕ)
    → Says o one n → taken_option asked kind mode limit o ≡ taken asked kind mode limit (Some one) (Some n)
unfolding taken_option
taken-reads asked kind mode limit o one n s =
    ap (λ a. taken asked kind mode limit a (number_of o.value)) (named o.name one s.name)
    ∙ ap (taken asked kind mode limit (Some one)) (numbered o.value n s.value s.fits)

-- the reason that a server refuses an option
abbrev IsTooLong : Kind → Mode → Limits → Option Name → Option ℕ → Refusal → Type 0
IsTooLong kind mode limits one value e = (e ≡ TooLarge) × (kind ≡ Write) × (mode ≡ Octet)
    × (one ≡ Some name.Tsize) × (n : ℕ) × (value ≡ Some n) × (limits.max_file < n)

too_long : (kind : Kind) (mode : Mode) (length : ℕ) (limits : Limits) (one : Option Name) (value : Option ℕ)
    (e : Refusal)
    → answered kind mode length limits one value ≡ Err e → IsTooLong kind mode limits one value e
too_long kind mode length limits one value e h = search rules

too_long-option : (kind : Kind) (mode : Mode) (length : ℕ) (limits : Limits) (o : RawOption) (e : Refusal)
    → answered_option kind mode length limits o ≡ Err e
    → IsTooLong kind mode limits (name_of o.name) (number_of o.value) e
unfolding answered_option
too_long-option kind mode length limits o e h = too_long _ _ _ _ _ _ e h

-- a value in its range is granted, or too large
grants : (kind : Kind) (mode : Mode) (length : ℕ) (limits : Limits) (one : Name) (n : ℕ) → MayRequest kind mode one n
    → (answered kind mode length limits (Some one) (Some n) ≡ Ok (Some (granted kind length limits.max_block one n)))
    ⊎ (answered kind mode length limits (Some one) (Some n) ≡ Err TooLarge)
grants kind mode length limits one n h = search rules

-- the answer to a request that repeats no name
answers : (options : List RawOption) (kind : Kind) (mode : Mode) (length : ℕ) (limits : Limits)
    (r : Result (List Known) Refusal)
    → answer options kind mode length limits ≡ r → KeepsAll (answered_option kind mode length limits) options r
    → (answer options kind mode length limits ≡ Err TooLarge)
    ⊎ ((known : List Known) × (answer options kind mode length limits ≡ Ok known)
    × ((one : Name) (n : ℕ) → HasOption options one n → MayRequest kind mode one n
    → Contains known (granted kind length limits.max_block one n)))
answers options kind mode length limits (Err e) is refused = search (rules, too_long-option)
answers options kind mode length limits (Ok ks) is keeps = inr (
  ks,
  is,
  λ one n has may.
      let reads = answered-reads kind mode length limits has.0 one n has.2 in
      let here = keeps has.0 has.1 in
      elim (grants kind mode length limits one n may) [
        | inl good ↦ subst (Kept ks) (reads ∙ good) here
        | inr large ↦ absurd (subst (Kept ks) (reads ∙ large) here)
      ],
)

-- the server answers each option that it knows and may
pub answers_what_is_known : AnswersWhatIsKnown
answers_what_is_known options kind mode length limits once = search (
  rules,
  answers,
  cond-false,
  repeats_none,
  keeps_all,
)

refused_for : (b : Bool) (r : Result (List Known) Refusal) → cond b (Err Repeated) r ≡ Err TooLarge → r ≡ Err TooLarge
refused_for true r h = cc
refused_for false r h = h

-- a write whose stated length is too large is refused
pub too_large_for_writes : TooLargeForWrites
too_large_for_writes options kind mode length limits h = search (rules, refused_for, keeps_all, too_long-option) steps
    1000000

takes : (asked : Asked) (kind : Kind) (mode : Mode) (limit : ℕ) (one : Name) (n : ℕ)
    → IsWithinAsked asked kind mode limit (known_of one n)
    → taken asked kind mode limit (Some one) (Some n) ≡ Ok (Some (known_of one n))
takes asked kind mode limit one n h = search rules

-- an option has one name and one number
says_one : (o : RawOption) (one other : Name) (n m : ℕ) → Says o one n → Says o other m
    → known_of one n ≡ known_of other m
says_one o one other n m s t =
    let a : Some one ≡ Some other = sym (named o.name one s.name) ∙ named o.name other t.name in
    let b : Some n ≡ Some m = sym (numbered o.value n s.value s.fits) ∙ numbered o.value m t.value t.fits in
    let c : one ≡ other = cc in
    let d : n ≡ m = cc in
    ap (λ a. known_of a n) c ∙ ap (known_of other) d

-- the agreement on an OACK that repeats no name
agrees : (asked : Asked) (kind : Kind) (mode : Mode) (options : List RawOption) (limit : ℕ)
    (r : Result (List Known) Refusal)
    → agreement asked kind mode options limit ≡ r → KeepsAll (taken_option asked kind mode limit) options r
    → AllByRecursion (AnswersAsked asked kind mode limit) options
    → (known : List Known) × (agreement asked kind mode options limit ≡ Ok known)
    × ((one : Name) (n : ℕ) → HasOption options one n → Contains known (known_of one n))
agrees asked kind mode options limit (Err e) is refused all =
    let w =
    All-contains (AnswersAsked asked kind mode limit) options refused.0
    (All-from_recursion (AnswersAsked asked kind mode limit) options all) refused.1 in
    let good = taken-reads asked kind mode limit refused.0 w.0 w.1 w.2 ∙ takes asked kind mode limit w.0 w.1 w.3 in
    let bad = refused.2 in
    cc
agrees asked kind mode options limit (Ok ks) is keeps all = (
  ks,
  is,
  λ one n has.
      let w =
      All-contains (AnswersAsked asked kind mode limit) options has.0
      (All-from_recursion (AnswersAsked asked kind mode limit) options all) has.1 in
      let good = taken-reads asked kind mode limit has.0 w.0 w.1 w.2 ∙ takes asked kind mode limit w.0 w.1 w.3 in
      subst (Contains ks) (says_one has.0 w.0 one w.1 n w.2 has.2) (subst (Kept ks) good (keeps has.0 has.1)),
)

-- the client takes each option that it asked for
pub takes_what_was_asked : TakesWhatWasAsked
takes_what_was_asked asked kind mode options limit once all =
    agrees asked kind mode options limit (each_judged (taken_option asked kind mode limit) options)
    (cond-false _ _ _ (repeats_none options once))
    (keeps_all (taken_option asked kind mode limit) options) all
