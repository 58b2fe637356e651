-- The numbers of processors in the texts of the system.
use Rattle.std.proofs.Common.{◌≡◌, ◌<◌, ◌+◌, ◌∙◌, ℕ, Bool, true, false, List, [], ◌∷◌, ◌++◌, Option, Some, None}
use Rattle.std.proofs.Common.{Result, Ok, Err, refl, ap, sym, subst, arith, length, get_or, drop, min}
use Rattle.std.specs.Prelude.{◌==◌, MatchOption, if◌then◌else◌, nat_eq, nat_lt, option_map, sum_by, unwrap_or}
use Rattle.std.specs.Borrow.{Bor}
use Rattle.std.specs.Char.{digit_value}
use Rattle.std.specs.List.{after_first, before_first, list_all, position_or_len, starts_with}
use Rattle.std.specs.Result.{result_ok}
use Rattle.std.specs.Str.{IsCharBoundary}
use Rattle.std.specs.Str.Parse.{AllDigits, ParsesUnsigned, digits_value, without_leading_plus}
use Rattle.std.specs.Str.Pattern.{FindsTextPrefix, StripsPrefix}
use Rattle.std.proofs.lemmas.Bool.{and_parts, le-ltb, lt-ltb, ltb-true}
use Rattle.std.proofs.lemmas.List.{at_drop_more}
use Rattle.std.proofs.lemmas.List.Sums.{sum_by_push}
use Rattle.std.proofs.lemmas.Str.Pattern.{starts_text}
use Rattle.tftp_daemon.specs.Processors.{in_range, is_short, mask_behind, mask_in, number_in, size_of}

-- ---- a sum that stops at 255
capped : (sum more : ℕ) → min (min sum 255 + more) 255 ≡ min (sum + more) 255
capped sum more = omega arith

-- one more item of such a sum
pub sum_capped : {X : Type 0} (f : X → ℕ) (items : List X) (item : X) (count more : ℕ)
    → count ≡ min (sum_by f items) 255 → more ≡ f item
    → min (count + more) 255 ≡ min (sum_by f (items ++ item ∷ [])) 255
sum_capped f items item count more is same =
    ap (λ (n : ℕ). min (n + more) 255) is
    ∙ (capped (sum_by f items) more
    ∙ (ap (λ (n : ℕ). min (sum_by f items + n) 255) same
    ∙ ap (λ (n : ℕ). min n 255) (sym (sum_by_push f items item))))

-- ---- the mask
-- what is behind a name at the front of a line, as `strip_prefix` finds it
pub behind_name : (name line : List ℕ) (r : Option (Bor (List ℕ)))
    → MatchOption r (FindsTextPrefix name line None) (λ x. StripsPrefix (FindsTextPrefix name) line x.now)
    → option_map (λ (x : Bor (List ℕ)). x.now) r
    ≡ (if starts_with nat_eq line name then Some (drop (length name) line) else None)
behind_name name line None is = let no = starts_text false name line is in rw (← no) refl
behind_name name line (Some x) is =
    let yes = starts_text true name line
    (is.0, is.1, subst (λ (n : ℕ). IsCharBoundary line n) (sym is.1.0) is.1.2) in
    rw (← yes) (ap (λ (rest : List ℕ). Some rest) (is.2 ∙ ap (λ (n : ℕ). drop n line) is.1.0))

-- one more line of a text
mask_next : (all : List (List ℕ)) (n : ℕ) (line : List ℕ) → (n < length all) × (line ≡ get_or all n line)
    → mask_in (drop n all) ≡ unwrap_or (mask_behind line) (mask_in (drop (n + 1) all))
mask_next all n line at =
    at_drop_more mask_in all n line at.0
    ∙ ap (λ (l : List ℕ). unwrap_or (mask_behind l) (mask_in (drop (n + 1) all))) (sym at.1)

-- a mask in the first line that is left is the one of all
pub mask_here : (all : List (List ℕ)) (n : ℕ) (line mask : List ℕ) → (n < length all) × (line ≡ get_or all n line)
    → Some mask ≡ mask_behind line → mask_in (drop n all) ≡ mask_in all → mask ≡ mask_in all
mask_here all n line mask at is same =
    ap (λ (o : Option (List ℕ)). unwrap_or o (mask_in (drop (n + 1) all))) is ∙ (sym (mask_next all n line at) ∙ same)

-- without one there, that is in a later line
pub mask_later : (all : List (List ℕ)) (n : ℕ) (line : List ℕ) → (n < length all) × (line ≡ get_or all n line)
    → None ≡ mask_behind line → mask_in (drop n all) ≡ mask_in all → mask_in (drop (n + 1) all) ≡ mask_in all
mask_later all n line at is same =
    ap (λ (o : Option (List ℕ)). unwrap_or o (mask_in (drop (n + 1) all))) is ∙ (sym (mask_next all n line at) ∙ same)

-- ---- the list
digits_pass : (ds : List ℕ) → AllDigits 10 ds → list_all (λ d. nat_lt (digit_value d) 10) ds ≡ true
digits_pass [] are = refl
digits_pass (d ∷ ds) are = rw (lt-ltb (digit_value d) 10 are.0) (digits_pass ds are.1)

digits_from : (ds : List ℕ) → list_all (λ d. nat_lt (digit_value d) 10) ds ≡ true → AllDigits 10 ds
digits_from [] pass = tt
digits_from (d ∷ ds) pass =
    let parts = and_parts _ _ pass in
    (ltb-true _ _ parts.0, digits_from ds parts.1)

-- a number of 16 bits, as it is read
pub number_read : {E : Type 0} (text : List ℕ) (r : Result ℕ E) → ParsesUnsigned 16 10 text r → result_ok r ≡ number_in text
number_read text (Ok n) is =
    let ds = without_leading_plus text in
    rw (lt-ltb 0 (length ds) is.0.0.0, digits_pass ds is.0.0.1, lt-ltb (digits_value 10 ds) 65536 is.0.1)
    (ap (λ (v : ℕ). Some v) is.1)
number_read text (Err e) none = go (is_short (without_leading_plus text)) refl
  where
    go : (b : Bool) → is_short (without_leading_plus text) ≡ b → None ≡ number_in text
    go false short = rw short refl
    go true short =
        let outer = and_parts _ _ short in
        let inner = and_parts _ _ outer.0 in
        absurd (none ((ltb-true _ _ inner.0, digits_from (without_leading_plus text) inner.1), ltb-true _ _ outer.1))

-- the size of a range with a dash
pub range_split : (range first last : List ℕ) (size : ℕ)
    → (position_or_len (λ byte. byte == 45) range < length range)
    × (first ≡ before_first (λ byte. byte == 45) range) × (last ≡ after_first (λ byte. byte == 45) range)
    → size ≡ size_of (number_in first) (number_in last) → size ≡ in_range range
range_split range first last size at is =
    rw (lt-ltb (position_or_len (λ byte. byte == 45) range) (length range) at.0)
    (is ∙ (ap (λ (f : List ℕ). size_of (number_in f) (number_in last)) at.1
    ∙ ap (λ (l : List ℕ). size_of (number_in (before_first (λ byte. byte == 45) range)) (number_in l)) at.2))

-- the size of a range without one
pub range_alone : (range : List ℕ) (size : ℕ) → position_or_len (λ byte. byte == 45) range ≡ length range
    → size ≡ size_of (number_in range) (number_in range) → size ≡ in_range range
range_alone range size at is =
    rw (le-ltb (position_or_len (λ byte. byte == 45) range) (length range) (omega (arith, at))) is
