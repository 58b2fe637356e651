-- What is behind the last slash of a path.
use Rattle.std.proofs.Common.{◌≡◌, ◌<◌, ◌∙◌, ℕ, suc, true, false, not, List, [], ◌∷◌, ◌++◌, Option, Some, None, Bor}
use Rattle.std.proofs.Common.{refl, ap, sym, arith, drop, get_or, length, take, lit<, take-append-drop}
use Rattle.std.specs.Prelude.{◌≢◌, ◌==◌, MatchOption}
use Rattle.std.specs.Option.{option_map_or}
use Rattle.std.specs.Path.{has_no_slash}
use Rattle.std.specs.Str.{NoCharPasses}
use Rattle.std.specs.Str.Pattern.{RFindsChar, SplitsAroundMatch}
use Rattle.std.proofs.lemmas.Bool.{and_from, and_right, ne_eqb, not_from_false}
use Rattle.std.proofs.lemmas.Str.Pattern.{NoCharPasses-char, drop_at_char}
use Rattle.tftp_daemon.specs.Refused.{name_in}

-- no byte is a slash
none_is : (bs : List ℕ) → ((i : ℕ) → i < length bs → get_or bs i 0 ≢ 47) → has_no_slash bs ≡ true
none_is [] others = refl
none_is (b ∷ bs) others =
    and_from (not (b == 47)) (has_no_slash bs) (not_from_false (b == 47) (ne_eqb b 47 (others 0 (omega arith))))
    (none_is bs (λ i below. others (suc i) (omega arith)))

no_slash : (bs : List ℕ) → NoCharPasses (λ d. d == 47) bs → has_no_slash bs ≡ true
no_slash bs none = none_is bs (λ i below. NoCharPasses-char 47 bs i none (lit< tt) below)

-- a slash is among these
slash_in : (front rest : List ℕ) → has_no_slash (front ++ 47 ∷ rest) ≡ false
slash_in [] rest = refl
slash_in (b ∷ front) rest = and_right (not (b == 47)) (has_no_slash (front ++ 47 ∷ rest)) (slash_in front rest)

-- a path without a slash, and one behind its last slash
whole : (bs : List ℕ) → has_no_slash bs ≡ true → name_in bs ≡ bs
whole [] none = refl
whole (b ∷ bs) none = rw none refl

behind : (front rest : List ℕ) → has_no_slash rest ≡ true → name_in (front ++ 47 ∷ rest) ≡ rest
behind [] rest none = whole rest none
behind (b ∷ front) rest none = rw (slash_in (b ∷ front) rest) (behind front rest none)

-- what a split at the last slash says of the name
pub name_split : (path : List ℕ) (r : Option (Bor (List ℕ) × Bor (List ℕ)))
    → MatchOption r (RFindsChar 47 path None) (λ x. SplitsAroundMatch (RFindsChar 47) path x.0.now x.1.now)
    → option_map_or (λ (x : Bor (List ℕ) × Bor (List ℕ)). x.1.now) r path ≡ name_in path
name_split path None none = sym (whole path (no_slash path none))
name_split path (Some x) is =
    let split : path ≡ take is.0 path ++ 47 ∷ drop is.1 path =
    sym (take-append-drop is.0 path) ∙ ap (λ (rest : List ℕ). take is.0 path ++ rest) (drop_at_char 47 path is.0 is.1 is.2.1 (lit< tt)) in
    is.4 ∙ (sym (behind (take is.0 path) (drop is.1 path) (no_slash (drop is.1 path) is.2.0)) ∙ ap name_in (sym split))
