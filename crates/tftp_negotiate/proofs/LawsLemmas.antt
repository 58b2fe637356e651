-- The laws of negotiation, option by option. For five functions and the crates tftp_player, tftp_promises and
-- tftp_rules.
use Rattle.std.proofs.lemmas.Grind.{common_steps}
use Rattle.std.proofs.Common.{◌≡◌, ℕ, ◌+◌, ◌^◌, ◌<◌, ◌≤◌, true, false, cond, min, nat_le, ◌==◌, length, List, [], ◌∷◌}
use Rattle.std.proofs.Common.{Option, Some, None, Result, Ok, Err, IsSome, Contains, refl, sym, ◌∙◌, ap, subst, arith}
use Rattle.std.proofs.Common.{eq-eqb, rules}
use Rattle.std.specs.List.{AllByRecursion}
use Rattle.std.proofs.lemmas.Option.{cond_some}
use Rattle.std.proofs.lemmas.Bool.{cond-true, cond-false, le-leb}
use Rattle.std.specs.Cmp.Derive.{both_true}
use Rattle.std.proofs.lemmas.List.Elements.{Contains-append_right}
use Rattle.tftp_wire.specs.declared.options.RawOption.{RawOption}
use Rattle.tftp_wire.specs.declared.mode.Mode.{Mode}
use Rattle.tftp_wire.specs.declared.mode.Mode.TheVariants.{Octet, Netascii}
use Rattle.tftp_negotiate.specs.declared.asked.Asked.{Asked}
use Rattle.tftp_negotiate.specs.declared.known.Kind.{Kind}
use Rattle.tftp_negotiate.specs.declared.known.Kind.TheVariants.{Read, Write}
use Rattle.tftp_negotiate.specs.declared.known.Known.{Known}
use Rattle.tftp_negotiate.specs.declared.known.Known.TheVariants.{Blksize, Timeout, Tsize}
use Rattle.tftp_negotiate.specs.declared.limits.Limits.{Limits}
use Rattle.tftp_negotiate.specs.declared.name.Name.{Name}
use Rattle.tftp_negotiate.specs.declared.name.Name.TheVariants as name
use Rattle.tftp_negotiate.specs.declared.refusal.Refusal.{Refusal}
use Rattle.tftp_negotiate.specs.Options.{name_of, number_of, name_text}
use Rattle.tftp_negotiate.specs.Ranges.{IsBlockSize}
use Rattle.tftp_negotiate.specs.Negotiation.{same_name, is_name, occurrences_of, AreOnce, repeats, kept_before}
use Rattle.tftp_negotiate.specs.Negotiation.{each_judged, negotiated}
use Rattle.tftp_negotiate.specs.Asked.{IsFor, asked_value, option_of, asked_options}
use Rattle.tftp_negotiate.specs.Agreed.{name_of_known, IsAgreeable, count_of, IsAgreement, size, known_option}
use Rattle.tftp_negotiate.specs.Agreed.{agreed_options}
use Rattle.tftp_negotiate.specs.Answer.{answered, answered_option, answered_blksize, answered_timeout, answered_tsize}
use Rattle.tftp_negotiate.specs.Agreement.{taken, taken_option, taken_blksize, taken_timeout, taken_tsize}
use Rattle.tftp_negotiate.specs.Laws.{NumbersArePrinted, EndsAgree, LengthsFit, Requests, IsWithinRequest}
use Rattle.tftp_negotiate.specs.Laws.{AnswersWithinRequest, IsWithinAsked, TakesNothingUnasked, AnswersMayBeAgreed}
use Rattle.tftp_negotiate.specs.Laws.{TakenMayBeAgreed, AgreementsAreShort, AgreementsHaveBlockSizes}
use Rattle.tftp_negotiate.proofs.OptionsLemmas.{number_of-decimal, decimal-number_of}
use Rattle.tftp_negotiate.proofs.NegotiationLemmas.{Keeps, occurrences_of-nil, occurrences_of-cons, count_of-cons}
use Rattle.tftp_negotiate.proofs.NegotiationLemmas.{repeats_none, IsAgreement-from_judged}
use Rattle.tftp_negotiate.proofs.PolicyLemmas.{answered_option-Keeps, taken_option-Keeps, cond_ok, block_size_from_test}

-- a number is read from its digits
pub numbers_are_printed : NumbersArePrinted
numbers_are_printed text n =
    (λ h. decimal-number_of text n h, λ h. ap number_of h.0 ∙ number_of-decimal n h.1)

-- a weaker property of each element of a list
AllByRecursion-weaker : {X : Type 0} (P Q : X → Type 0) → ((x : X) → P x → Q x) → (xs : List X) → AllByRecursion P xs
    → AllByRecursion Q xs
AllByRecursion-weaker P Q f [] h = tt
AllByRecursion-weaker P Q f (x ∷ xs) h = (f x h.0, AllByRecursion-weaker P Q f xs h.1)

-- a negotiation that gives a list repeats no name, and judges each option
negotiated_ok : (judgement : RawOption → Result (Option Known) Refusal) (os : List RawOption) (ks : List Known)
    → negotiated judgement os ≡ Ok ks → (repeats os ≡ false) × (each_judged judgement os ≡ Ok ks)
negotiated_ok judgement os ks h = search rules

-- the option that a result is from
abbrev ComesFrom : (RawOption → Result (Option Known) Refusal) → List RawOption → Known → Type 0
ComesFrom judgement os k = (o : RawOption) × Contains os o × (judgement o ≡ Ok (Some k))

Contains-head : (o : RawOption) (os : List RawOption) → Contains (o ∷ os) o
Contains-head o os = (0, omega arith, refl)

Contains-tail : (o x : RawOption) (os : List RawOption) → Contains os x → Contains (o ∷ os) x
Contains-tail o x os h = Contains-append_right (o ∷ []) os x h

module _ (judgement : RawOption → Result (Option Known) Refusal) where
  comes-cons : (o : RawOption) (os : List RawOption) (one : Result (Option Known) Refusal)
      (others : Result (List Known) Refusal) (ks : List Known)
      → judgement o ≡ one → ((js : List Known) → others ≡ Ok js → AllByRecursion (ComesFrom judgement os) js)
      → kept_before one others ≡ Ok ks → AllByRecursion (ComesFrom judgement (o ∷ os)) ks
  comes-cons o os (Err e) others ks is below h = cc
  comes-cons o os (Ok None) others ks is below h =
      AllByRecursion-weaker (ComesFrom judgement os) (ComesFrom judgement (o ∷ os))
      (λ k w. (w.0, Contains-tail o w.0 os w.1, w.2)) ks (below ks h)
  comes-cons o os (Ok (Some k)) (Err e) ks is below h = cc
  comes-cons o os (Ok (Some k)) (Ok js) ks is below h =
      let same : k ∷ js ≡ ks = cc in
      subst (AllByRecursion (ComesFrom judgement (o ∷ os))) same (
        (o, Contains-head o os, is),
        AllByRecursion-weaker (ComesFrom judgement os) (ComesFrom judgement (o ∷ os))
            (λ k w. (w.0, Contains-tail o w.0 os w.1, w.2)) js (below js refl),
      )

  -- each result is from an option of the list
  comes : (os : List RawOption) (ks : List Known) → each_judged judgement os ≡ Ok ks
      → AllByRecursion (ComesFrom judgement os) ks
  comes [] ks h = let same : [] ≡ ks = cc in subst (AllByRecursion (ComesFrom judgement [])) same tt
  comes (o ∷ os) ks h = comes-cons o os (judgement o) (each_judged judgement os) ks refl (comes os) h

  kept-cons : (o : RawOption) (os : List RawOption) (one : Result (Option Known) Refusal)
      (others : Result (List Known) Refusal) (ks : List Known)
      → judgement o ≡ one
      → ((js : List Known) → others ≡ Ok js → AllByRecursion (λ x. (v : Option Known) × (judgement x ≡ Ok v)) os)
      → kept_before one others ≡ Ok ks → AllByRecursion (λ x. (v : Option Known) × (judgement x ≡ Ok v)) (o ∷ os)
  kept-cons o os one others ks is below h = search rules

  -- no option of the list is refused
  kept : (os : List RawOption) (ks : List Known) → each_judged judgement os ≡ Ok ks
      → AllByRecursion (λ x. (v : Option Known) × (judgement x ≡ Ok v)) os
  kept [] ks h = tt
  kept (o ∷ os) ks h = kept-cons o os (judgement o) (each_judged judgement os) ks refl (kept os) h

-- the answer to an option is within the request
within-tsize : (options : List RawOption) (mode : Mode) (kind : Kind) (length n : ℕ) (limits : Limits) (k : Known)
    → Requests options name.Tsize n → answered_tsize mode kind length limits.max_file n ≡ Ok (Some k)
    → IsWithinRequest options kind length limits k
within-tsize options mode kind length n limits k r h = search rules

within-request : (options : List RawOption) (kind : Kind) (mode : Mode) (length : ℕ) (limits : Limits)
    (one : Option Name) (value : Option ℕ) (k : Known)
    → ((nm : Name) (n : ℕ) → one ≡ Some nm → value ≡ Some n → Requests options nm n)
    → answered kind mode length limits one value ≡ Ok (Some k) → IsWithinRequest options kind length limits k
within-request options kind mode length limits (Some name.Blksize) (Some n) k r h =
    let some : answered_blksize n limits.max_block ≡ Some k = cc in
    let test = cond_some _ _ _ some in
    subst (IsWithinRequest options kind length limits) test.1 (omega arith, n, r name.Blksize n refl refl, omega arith)
within-request options kind mode length limits (Some name.Timeout) (Some n) k r h = search rules
within-request options kind mode length limits (Some name.Tsize) (Some n) k r h =
    within-tsize _ _ _ _ n _ k (r name.Tsize n refl refl) h
within-request options kind mode length limits one value k r h = cc

-- an answer is within what was asked
pub answers_within_request : AnswersWithinRequest
unfolding answered_option
answers_within_request options kind mode length limits known h =
    let ok = negotiated_ok _ _ _ h in
    AllByRecursion-weaker _ _ (λ k w. within-request _ _ _ _ _ _ _ k (λ nm n a b. (w.0, w.1, a, b)) w.2) _ (comes _ _ _
    ok.1)

was-asked : (asked : Asked) (kind : Kind) (mode : Mode) (limit : ℕ) (one : Option Name) (value : Option ℕ)
    (v : Option Known)
    → taken asked kind mode limit one value ≡ Ok v → (nm : Name) × (one ≡ Some nm) × IsSome (asked_value mode asked nm)
was-asked asked kind mode limit one value v h = search rules

within-asked : (asked : Asked) (kind : Kind) (mode : Mode) (limit : ℕ) (one : Option Name) (value : Option ℕ)
    (k : Known)
    → taken asked kind mode limit one value ≡ Ok (Some k) → IsWithinAsked asked kind mode limit k
within-asked asked kind mode limit one value k h = search rules

-- a client takes no option that it did not ask for
pub takes_nothing_unasked : TakesNothingUnasked
unfolding taken_option
takes_nothing_unasked asked kind mode options limit known h =
    let ok = negotiated_ok (taken_option asked kind mode limit) options known h in (
      AllByRecursion-weaker _ _ (λ o w. was-asked asked kind mode limit (name_of o.name) (number_of o.value) w.0 w.1) _
          (kept (taken_option asked kind mode limit) options known ok.1),
      AllByRecursion-weaker (ComesFrom (taken_option asked kind mode limit) options) (IsWithinAsked asked kind mode
          limit) (λ k w. within-asked asked kind mode limit (name_of w.0.name) (number_of w.0.value) k w.2) known (comes
          (taken_option asked kind mode limit) options known ok.1),
    )

-- a name as it is sent is read as itself
name_of-name_text : (nm : Name) → name_of (name_text nm) ≡ Some nm
unfolding name_of
name_of-name_text name.Blksize = refl
name_of-name_text name.Timeout = refl
name_of-name_text name.Tsize = refl

-- an option as it is sent is read as its name and number
answered-reads : (kind : Kind) (mode : Mode) (length : ℕ) (limits : Limits) (nm : Name) (n : ℕ) → n < 2 ^ 64
    → answered_option kind mode length limits (option_of nm n) ≡ answered kind mode length limits (Some nm) (Some n)
unfolding answered_option
answered-reads kind mode length limits nm n fits = search (rules, name_of-name_text, number_of-decimal)

taken-reads : (asked : Asked) (kind : Kind) (mode : Mode) (limit : ℕ) (nm : Name) (n : ℕ) → n < 2 ^ 64
    → taken_option asked kind mode limit (option_of nm n) ≡ taken asked kind mode limit (Some nm) (Some n)
unfolding taken_option
taken-reads asked kind mode limit nm n fits = search (rules, name_of-name_text, number_of-decimal)

-- the client accepts the answer to an option that it requested
abbrev Takes : Asked → Kind → Mode → ℕ → Known → Type 0
Takes asked kind mode limit k = taken_option asked kind mode limit (known_option k) ≡ Ok (Some k)

takes-tsize : (asked : Asked) (kind : Kind) (mode : Mode) (client_length length limit n : ℕ) (limits : Limits)
    (k : Known)
    → LengthsFit kind client_length length limit → n < 2 ^ 64 → asked_value mode asked name.Tsize ≡ Some n
    → answered_tsize mode kind length limits.max_file n ≡ Ok (Some k) → Takes asked kind mode limit k
takes-tsize asked kind Netascii client_length length limit n limits k t fits e h = cc
takes-tsize asked Read Octet client_length length limit n limits k t fits e h =
    let some : cond (n == 0) (Some (Tsize length)) None ≡ Some k = cc in
    subst (Takes asked Read Octet limit) (cond_some _ _ _ some).1
    (taken-reads asked Read Octet limit name.Tsize length t.length_fits
    ∙ (ap (λ a. taken_tsize a Read limit (Some length)) e ∙ cond-true _ _ _ (le-leb length limit (t.within refl))))
takes-tsize asked Write Octet client_length length limit n limits k t fits e h =
    let test : (nat_le n limits.max_file ≡ true) × (Some (Tsize n) ≡ Some k) = cond_ok _ _ _ _ h in
    let some : Some (Tsize n) ≡ Some k = test.1 in
    let same : Tsize n ≡ k = cc in
    subst (Takes asked Write Octet limit) same
    (taken-reads asked Write Octet limit name.Tsize n fits
    ∙ (ap (λ a. taken_tsize a Write limit (Some n)) e ∙ cond-true _ _ _ (eq-eqb n n refl)))

takes-one : (asked : Asked) (kind : Kind) (mode : Mode) (client_length length limit : ℕ) (limits : Limits) (nm : Name)
    (n : ℕ) (k : Known)
    → LengthsFit kind client_length length limit → IsBlockSize limits.max_block → n < 2 ^ 64
    → asked_value mode asked nm ≡ Some n → answered kind mode length limits (Some nm) (Some n) ≡ Ok (Some k)
    → Takes asked kind mode limit k
takes-one asked kind mode client_length length limit limits name.Blksize n k t max fits e h =
    let some : answered_blksize n limits.max_block ≡ Some k = cc in
    let test = cond_some _ _ _ some in
    let size = block_size_from_test n test.0 in
    let m = min n limits.max_block in
    subst (Takes asked kind mode limit) test.1
    (taken-reads asked kind mode limit name.Blksize m (omega arith)
    ∙ (ap (λ a. taken_blksize a (Some m)) e
    ∙ cond-true _ _ _ (both_true (le-leb 8 m (omega arith)) (le-leb m n (omega arith)))))
takes-one asked kind mode client_length length limit limits name.Timeout n k t max fits e h =
    let some : answered_timeout n ≡ Some k = cc in
    subst (Takes asked kind mode limit) (cond_some _ _ _ some).1
    (taken-reads asked kind mode limit name.Timeout n fits
    ∙ (ap (λ a. taken_timeout a (Some n)) e ∙ cond-true _ _ _ (eq-eqb n n refl)))
takes-one asked kind mode client_length length limit limits name.Tsize n k t max fits e h =
    takes-tsize asked kind mode client_length length limit n limits k t fits e h

-- an option of a client's request
abbrev IsRequested : Asked → Mode → RawOption → Type 0
IsRequested asked mode o = (nm : Name) × (n : ℕ) × (asked_value mode asked nm ≡ Some n) × (o ≡ option_of nm n)

requested : (asked : Asked) (mode : Mode) → AllByRecursion (IsRequested asked mode) (asked_options asked mode)
requested asked mode = search rules

asked_fits : (asked : Asked) (kind : Kind) (mode : Mode) (client_length : ℕ) (nm : Name) (n : ℕ)
    → IsFor asked kind mode client_length → client_length < 2 ^ 64 → asked_value mode asked nm ≡ Some n → n < 2 ^ 64
asked_fits asked kind mode client_length nm n ok h e = search rules

-- the judgement of a list is the judgements of its options
judged-spelled : (judgement : RawOption → Result (Option Known) Refusal) (ks : List Known)
    → AllByRecursion (λ k. judgement (known_option k) ≡ Ok (Some k)) ks
    → each_judged judgement (agreed_options ks) ≡ Ok ks
judged-spelled judgement [] h = refl
judged-spelled judgement (k ∷ ks) h =
    ap (λ one. kept_before one (each_judged judgement (agreed_options ks))) h.0
    ∙ ap (kept_before (Ok (Some k))) (judged-spelled judgement ks h.1)

name_of-known_option : (k : Known) → name_of (known_option k).name ≡ Some (name_of_known k)
name_of-known_option (Blksize n) = name_of-name_text name.Blksize
name_of-known_option (Timeout n) = name_of-name_text name.Timeout
name_of-known_option (Tsize n) = name_of-name_text name.Tsize

occurrences_of-agreed : (nm : Name) (ks : List Known) → occurrences_of nm (agreed_options ks) ≡ count_of nm ks
occurrences_of-agreed nm [] = occurrences_of-nil nm
occurrences_of-agreed nm (k ∷ ks) =
    let one : Option Name → ℕ = λ a. cond (is_name nm a) 1 0 in
    let here = ap one (name_of-known_option k) in
    let there = occurrences_of-agreed nm ks in
    let p = occurrences_of-cons nm (known_option k) (agreed_options ks) in
    let c = count_of-cons nm k ks in
    omega (arith, here, there, p, c)

each_once : (ks : List Known) → IsAgreement ks → (nm : Name) → count_of nm ks ≤ 1
each_once ks h nm = search rules

agreed-once : (ks : List Known) → IsAgreement ks → AreOnce (agreed_options ks)
agreed-once ks h nm = subst (λ n. n ≤ 1) (sym (occurrences_of-agreed nm ks)) (each_once ks h nm)

once_from_repeats : (os : List RawOption) → repeats os ≡ false → AreOnce os
once_from_repeats os h h2 = search rules

-- both ends agree on the same values
pub ends_agree : EndsAgree
ends_agree asked kind mode client_length length limit limits known ok t max h =
    let server = answered_option kind mode length limits in
    let client = taken_option asked kind mode limit in
    let options = asked_options asked mode in
    let given = negotiated_ok server options known h in
    let rule : IsAgreement known =
    IsAgreement-from_judged server (answered_option-Keeps kind mode length limits max) options (Ok known)
    (once_from_repeats options given.0) (sym given.1) in
    let each : AllByRecursion (Takes asked kind mode limit) known =
    AllByRecursion-weaker (ComesFrom server options) (Takes asked kind mode limit) (λ k w.
    let r : IsRequested asked mode w.0 = grind (arith, common_steps, requested) in
    let fits = asked_fits asked kind mode client_length r.0 r.1 ok t.client_fits r.2 in
    takes-one asked kind mode client_length length limit limits r.0 r.1 k t max fits r.2 (sym (answered-reads kind mode
    length limits r.0 r.1 fits) ∙ (ap server (sym r.3) ∙ w.2))) known (comes server options known given.1) in
    cond-false _ _ _ (repeats_none (agreed_options known) (agreed-once known rule)) ∙ judged-spelled client known each

-- a list that is agreed repeats no name, so its result may be agreed
may_be_agreed : (judgement : RawOption → Result (Option Known) Refusal) → Keeps judgement
    → (options : List RawOption) (known : List Known) → negotiated judgement options ≡ Ok known → IsAgreement known
may_be_agreed judgement keeps options known h =
    let ok = negotiated_ok judgement options known h in
    IsAgreement-from_judged judgement keeps options (Ok known) (once_from_repeats options ok.0) (sym ok.1)

-- an answer is one that may be agreed on
pub answers_may_be_agreed : AnswersMayBeAgreed
answers_may_be_agreed options kind mode length limits known max h = search (
  rules,
  may_be_agreed,
  answered_option-Keeps,
)

-- so is what a client takes
pub taken_may_be_agreed : TakenMayBeAgreed
taken_may_be_agreed asked kind mode options limit known askable h = search (rules, may_be_agreed, taken_option-Keeps)

-- each option has one of three names
by_names : (ks : List Known) → length ks ≡ count_of name.Blksize ks + count_of name.Timeout ks + count_of name.Tsize ks
by_names [] = refl
by_names (k ∷ ks) =
    let e = by_names ks in
    let a = count_of-cons name.Blksize k ks in
    let b = count_of-cons name.Timeout k ks in
    let c = count_of-cons name.Tsize k ks in
    let one = one_name k in
    omega (arith, e, a, b, c, one) where
      one_name : (j : Known)
          → cond (same_name name.Blksize (name_of_known j)) 1 0 + cond (same_name name.Timeout (name_of_known j)) 1 0
          + cond (same_name name.Tsize (name_of_known j)) 1 0
          ≡ 1
      one_name (Blksize n) = refl
      one_name (Timeout n) = refl
      one_name (Tsize n) = refl

-- what was agreed on fits an OACK
pub agreements_are_short : AgreementsAreShort
agreements_are_short known h = search (rules, by_names, each_once)

size_from_values : (ks : List Known) → AllByRecursion IsAgreeable ks → IsBlockSize (size ks)
size_from_values [] h = (omega arith, omega arith)
size_from_values (Blksize n ∷ ks) h = h.0
size_from_values (Timeout n ∷ ks) h = size_from_values ks h.1
size_from_values (Tsize n ∷ ks) h = size_from_values ks h.1

-- and has a block size that is allowed
pub agreements_have_block_sizes : AgreementsHaveBlockSizes
agreements_have_block_sizes known h = size_from_values known h.values
