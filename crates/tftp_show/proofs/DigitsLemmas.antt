-- The bytes that pairs of digits decode to, by arithmetic on the codes of the digits.
use Rattle.std.proofs.Common.{ℕ, suc, ◌≡◌, ◌≢◌, ◌+◌, ◌-◌, ◌*◌, ◌/◌, ◌%◌, ◌<◌, ◌≤◌, Bool, true, false, cond, eqb, leb}
use Rattle.std.proofs.Common.{◌&&◌, ◌||◌, refl, ap, sym, ◌∙◌, arith, append_assoc, append-nil, length-set, List, []}
use Rattle.std.proofs.Common.{◌∷◌, ◌++◌, length, get_or, take, drop, set, Option, Some, None, eqb-true}
use Rattle.std.specs.declared.result.Result.{Result}
use Rattle.std.specs.declared.result.Result.TheVariants.{Ok, Err}
use Rattle.std.specs.Prelude.{IfSome, IfOk, is_ok, is_some}
use Rattle.std.specs.List.{list_all}
use Rattle.std.specs.Char.{is_ascii_hexdigit}
use Rattle.std.proofs.Math.Bool.{and_assoc}
use Rattle.std.proofs.lemmas.Bool.{eqb-false, false≢true, leb-true}
use Rattle.std.proofs.lemmas.List.{take_more_set, take_all}
use Rattle.std.proofs.Math.ListN.{drop_of_length-le}
use Rattle.std.proofs.Math.Seq.{drop-cons}
use Rattle.hex.specs.Hex.{◌>>=◌, decode_of, decode_pairs, digit_or_error, hex_digit_value, is_hex_digit}
use Rattle.hex.specs.declared.error.FromHexError.{FromHexError}
use Rattle.tftp_show.specs.Digits.{bytes_of, pair_value, value_of}

by_test : {G : Type 0} (b : Bool) → (b ≡ true → G) → (b ≡ false → G) → G
by_test true holds fails = holds refl
by_test false holds fails = fails refl

-- ---- a digit

in_three : (a b c : Bool) (x y z : ℕ) →
    ((c || a) || b) ≡ is_some (cond a (Some x) (cond b (Some y) (cond c (Some z) None)))
in_three true true true x y z = refl
in_three true true false x y z = refl
in_three true false true x y z = refl
in_three true false false x y z = refl
in_three false true true x y z = refl
in_three false true false x y z = refl
in_three false false true x y z = refl
in_three false false false x y z = refl

-- std and the crate `hex` have the same digits
pub same_digits : (c : ℕ) → is_ascii_hexdigit c ≡ is_hex_digit c
same_digits c =
    in_three (leb 65 c && leb c 70) (leb 97 c && leb c 102) (leb 48 c && leb c 57) (c - 55) (c - 87) (c - 48)

either : (P : Option ℕ → Type 0) (b : Bool) (x y : Option ℕ) → (b ≡ true → P x) → P y → P (cond b x y)
either P true x y h k = h refl
either P false x y h k = k

both : (a b : Bool) → (a && b) ≡ true → (a ≡ true) × (b ≡ true)
both true true h = (refl, refl)
both true false h = absurd (cc)
both false b h = absurd (cc)

-- a value below 16, which is that of the code
abbrev IsValueOf : ℕ → Option ℕ → Type 0
IsValueOf c o = IfSome o (λ v. (v < 16) × (v ≡ value_of c))

value_in : (c least most base : ℕ) (other : Option ℕ) →
    ((least ≤ c) → (c ≤ most) → (c - base < 16) × (c - base ≡ value_of c)) → IsValueOf c other →
    IsValueOf c (cond (leb least c && leb c most) (Some (c - base)) other)
value_in c least most base other inside outside =
    either (IsValueOf c) (leb least c && leb c most) (Some (c - base)) other
    (λ h. let k = both (leb least c) (leb c most) h in inside (leb-true least c k.0) (leb-true c most k.1))
    outside

digit_is : (c : ℕ) → IsValueOf c (hex_digit_value c)
digit_is c =
    value_in c 65 70 55 _ (λ l m. (omega (arith, l, m), omega (arith, l, m)))
    (value_in c 97 102 87 _ (λ l m. (omega (arith, l, m), omega (arith, l, m)))
    (value_in c 48 57 48 None (λ l m. (omega (arith, l, m), omega (arith, l, m))) tt))

-- ---- whether digits decode

ok_step : (high low i : ℕ) (a b : Option ℕ) (r : Result (List ℕ) FromHexError) →
    is_ok ((digit_or_error high i a >>= (λ h. digit_or_error low (i + 1) b >>= (λ l. Ok (h * 16 + l)))) >>=
    (λ byte. r >>= (λ bytes. Ok (byte ∷ bytes)))) ≡ (is_some a && (is_some b && is_ok r))
ok_step high low i None b r = refl
ok_step high low i (Some v) None r = refl
ok_step high low i (Some v) (Some w) (Ok xs) = refl
ok_step high low i (Some v) (Some w) (Err e) = refl

pairs_ok : (i : ℕ) (ds : List ℕ) → length ds % 2 ≡ 0 → is_ok (decode_pairs i ds) ≡ list_all is_hex_digit ds
unfolding decode_pairs
pairs_ok i [] e = refl
pairs_ok i (d ∷ []) e = absurd (omega arith)
pairs_ok i (high ∷ low ∷ rest) e =
    ok_step high low i (hex_digit_value high) (hex_digit_value low) (decode_pairs (i + 2) rest)
    ∙ ap (λ b. is_hex_digit high && (is_hex_digit low && b)) (pairs_ok (i + 2) rest (omega arith))

-- an even number of digits decodes
pub even_ok : (ds : List ℕ) → length ds % 2 ≡ 0 → is_ok (decode_of ds) ≡ list_all is_hex_digit ds
even_ok ds e = rw (e) (pairs_ok 0 ds e)

-- an odd one does not
pub odd_fails : (ds : List ℕ) → length ds % 2 ≢ 0 → is_ok (decode_of ds) ≡ false
odd_fails ds n = let one : length ds % 2 ≡ 1 = omega arith in rw (one) refl

-- digits that decode are in pairs
pub even_if_ok : (ds : List ℕ) → is_ok (decode_of ds) ≡ true → length ds % 2 ≡ 0
even_if_ok ds h =
    by_test (eqb (length ds % 2) 0) (λ e. eqb-true _ _ e)
    (λ e. absurd (false≢true (sym (odd_fails ds (eqb-false _ _ e)) ∙ h)))

-- ---- the loop over digits

-- after a digit
pub all_go_on : (ds : List ℕ) (i : ℕ) (all is_digit : Bool) → i < length ds →
    (all && list_all is_hex_digit (drop i ds)) ≡ list_all is_hex_digit ds → is_digit ≡ is_hex_digit (get_or ds i 0) →
    ((all && is_digit) && list_all is_hex_digit (drop (i + 1) ds)) ≡ list_all is_hex_digit ds
all_go_on ds i all is_digit l h e =
    let next : suc i ≡ i + 1 = omega arith in
    let left : drop i ds ≡ get_or ds i 0 ∷ drop (i + 1) ds =
    drop-cons ds i 0 l ∙ ap (λ k. get_or ds i 0 ∷ drop k ds) next in
    and_assoc all is_digit _
    ∙ ap (λ b. all && (b && list_all is_hex_digit (drop (i + 1) ds))) e
    ∙ ap (λ xs. all && list_all is_hex_digit xs) (sym left)
    ∙ h

and_true : (b : Bool) → b ≡ (b && true)
and_true true = refl
and_true false = refl

-- after the last digit
pub all_end : (ds : List ℕ) (i : ℕ) (all : Bool) → length ds ≤ i →
    (all && list_all is_hex_digit (drop i ds)) ≡ list_all is_hex_digit ds → all ≡ list_all is_hex_digit ds
all_end ds i all l h =
    and_true all ∙ ap (λ xs. all && list_all is_hex_digit xs) (sym (drop_of_length-le ds l)) ∙ h

-- ---- the bytes

byte_step : (high low i : ℕ) (a b : Option ℕ) (r : Result (List ℕ) FromHexError) (bs : List ℕ) → IsValueOf high a →
    IsValueOf low b → IfOk r (λ xs. xs ≡ bs) →
    IfOk ((digit_or_error high i a >>= (λ h. digit_or_error low (i + 1) b >>= (λ l. Ok (h * 16 + l)))) >>=
    (λ byte. r >>= (λ bytes. Ok (byte ∷ bytes)))) (λ xs. xs ≡ pair_value high low ∷ bs)
byte_step high low i None b r bs x y h = tt
byte_step high low i (Some v) None r bs x y h = tt
byte_step high low i (Some v) (Some w) (Err e) bs x y h = tt
byte_step high low i (Some v) (Some w) (Ok xs) bs x y h =
    let byte : v * 16 + w ≡ pair_value high low = rw (← x.1, ← y.1) (omega (arith, x.0, y.0)) in
    rw (byte, h) refl

pairs_bytes : (i : ℕ) (ds : List ℕ) → IfOk (decode_pairs i ds) (λ xs. xs ≡ bytes_of ds)
unfolding decode_pairs
pairs_bytes i [] = refl
pairs_bytes i (d ∷ []) = tt
pairs_bytes i (high ∷ low ∷ rest) =
    byte_step high low i (hex_digit_value high) (hex_digit_value low) (decode_pairs (i + 2) rest) (bytes_of rest)
    (digit_is high) (digit_is low) (pairs_bytes (i + 2) rest)

the_bytes : (r : Result (List ℕ) FromHexError) (bs : List ℕ) → is_ok r ≡ true → IfOk r (λ xs. xs ≡ bs) → r ≡ Ok bs
the_bytes (Ok xs) bs h e = ap Ok e
the_bytes (Err f) bs h e = absurd (cc)

-- digits that decode decode to their bytes
pub decodes : (ds : List ℕ) → is_ok (decode_of ds) ≡ true → decode_of ds ≡ Ok (bytes_of ds)
decodes ds h =
    let even = even_if_ok ds h in
    the_bytes (decode_of ds) (bytes_of ds) h (rw (even) (pairs_bytes 0 ds))

-- as many bytes as pairs
pub bytes_length : (ds : List ℕ) → length (bytes_of ds) ≡ length ds / 2
bytes_length [] = refl
bytes_length (d ∷ []) = refl
bytes_length (high ∷ low ∷ rest) = omega (arith, bytes_length rest)

-- ---- the loop over pairs

pairs_left : (ds : List ℕ) (i : ℕ) → 2 * i + 1 < length ds →
    drop (2 * i) ds ≡ get_or ds (2 * i) 0 ∷ get_or ds (2 * i + 1) 0 ∷ drop (2 * (i + 1)) ds
pairs_left ds i h =
    let next : suc (2 * i) ≡ 2 * i + 1 = omega arith in
    let after : suc (2 * i + 1) ≡ 2 * (i + 1) = omega arith in
    drop-cons ds (2 * i) 0 (omega arith)
    ∙ ap (λ k. get_or ds (2 * i) 0 ∷ drop k ds) next
    ∙ ap (λ rest. get_or ds (2 * i) 0 ∷ rest) (drop-cons ds (2 * i + 1) 0 (omega arith))
    ∙ ap (λ k. get_or ds (2 * i) 0 ∷ get_or ds (2 * i + 1) 0 ∷ drop k ds) after

-- so far: the decoded bytes, with those of the digits that are left, are those of all
pub record PairsSoFar (ds bytes : List ℕ) (i : ℕ) : Type 0 where
  pub size : length ds ≡ 2 * length bytes
  pub within : i ≤ length bytes
  pub made : take i bytes ++ bytes_of (drop (2 * i) ds) ≡ bytes_of ds

-- before the first pair
pub pairs_begin : (ds bytes : List ℕ) → length ds ≡ 2 * length bytes → PairsSoFar ds bytes 0
pairs_begin ds bytes e = record { size = e; within = omega arith; made = refl }

-- after a pair
pub pairs_go_on : (ds bytes : List ℕ) (i byte : ℕ) → i < length bytes → PairsSoFar ds bytes i →
    byte ≡ pair_value (get_or ds (2 * i) 0) (get_or ds (2 * i + 1) 0) → PairsSoFar ds (set bytes i byte) (i + 1)
pairs_go_on ds bytes i byte in_range g b =
    let left = pairs_left ds i (omega (arith, g.size)) in
    let rest = drop (2 * (i + 1)) ds in
    let made = take_more_set bytes i byte in_range in
    let pairs : byte ∷ bytes_of rest ≡ bytes_of (drop (2 * i) ds) = rw (left, b) refl in
    record {
      size = g.size ∙ ap (λ n. 2 * n) (sym (length-set bytes i byte));
      within = omega (arith, length-set bytes i byte);
      made =
          ap (λ b. b ++ bytes_of rest) made ∙ append_assoc (take i bytes) (byte ∷ []) (bytes_of rest)
          ∙ ap (λ b. take i bytes ++ b) pairs ∙ g.made;
    }

-- after the last pair
pub pairs_end : (ds bytes : List ℕ) (i : ℕ) → length bytes ≤ i → PairsSoFar ds bytes i → bytes ≡ bytes_of ds
pairs_end ds bytes i e g =
    let none : drop (2 * i) ds ≡ [] = drop_of_length-le ds (omega (arith, g.size)) in
    let all : take i bytes ≡ bytes = take_all i bytes (omega arith) in
    sym (append-nil bytes) ∙ ap (λ b. b ++ []) (sym all) ∙ ap (λ r. take i bytes ++ bytes_of r) (sym none) ∙ g.made

-- bytes that were written over others of the same length
pub written : (new old : List ℕ) (n : ℕ) → n ≡ length new → length old ≡ length new →
    take n (new ++ drop (length new) old) ≡ new
written new old n e l =
    ap (λ rest. take n (new ++ rest)) (drop_of_length-le old (omega arith)) ∙ ap (take n) (append-nil new)
    ∙ take_all n new (omega arith)
