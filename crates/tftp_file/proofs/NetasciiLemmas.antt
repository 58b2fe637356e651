-- Bytes and their wire text in netascii. For `lines.rt`, four functions and five other files.
use Rattle.std.proofs.Common.{◌≡◌, ◌≢◌, ℕ, ◌+◌, List, [], ◌∷◌, ◌++◌, true, false, cond, refl, ap, arith, inl, inr}
use Rattle.std.proofs.Common.{length, take, drop, rules}
use Rattle.std.specs.Prelude.{count_by}
use Rattle.std.specs.List.{position_or_len}
use Rattle.std.proofs.lemmas.List.{length-append}
use Rattle.std.proofs.lemmas.List.Concat.{flat_map-append}
use Rattle.std.proofs.Math.Numerals.{one-add}
use Rattle.std.proofs.lemmas.List.Sums.{sum_by-cons}
use Rattle.tftp_file.specs.Netascii.{wire_byte, netascii_text}
use Rattle.tftp_file.specs.Lines.{is_line_byte, EndsAtLine}

-- LF, CR or another byte, and the wire text of each
pub data ByteForm (x : ℕ) : Type 0 where
  Line : x ≡ 10 → wire_byte x ≡ 13 ∷ 10 ∷ [] → is_line_byte x ≡ true → ByteForm x
  Return : x ≡ 13 → wire_byte x ≡ 13 ∷ 0 ∷ [] → is_line_byte x ≡ true → ByteForm x
  Itself : x ≢ 10 → x ≢ 13 → wire_byte x ≡ x ∷ [] → is_line_byte x ≡ false → ByteForm x

-- a byte is LF, CR or another
pub byte_form : (x : ℕ) → ByteForm x
byte_form x = search rules

-- the text of two parts is that of the first and then that of the second
pub netascii-append : (xs ys : List ℕ) → netascii_text (xs ++ ys) ≡ netascii_text xs ++ netascii_text ys
netascii-append xs ys = flat_map-append wire_byte xs ys

-- the bytes before the first CR or LF are sent unchanged
pub unescaped_front : (xs : List ℕ)
    → netascii_text (take (position_or_len is_line_byte xs) xs) ≡ take (position_or_len is_line_byte xs) xs
unescaped_front [] = refl
unescaped_front (x ∷ xs) = elim (byte_form x) [
  | Line _ _ t ↦ rw t
  | Return _ _ t ↦ rw t
  | Itself _ _ w t ↦ rw (t, one-add) (rw w (ap (λ (zs : List ℕ). x ∷ zs) (unescaped_front xs)))
]

-- after them is the end, a CR or an LF
pub run_ends : (xs : List ℕ) → EndsAtLine (drop (position_or_len is_line_byte xs) xs)
run_ends [] = tt
run_ends (x ∷ xs) = elim (byte_form x) [
  | Line e _ t ↦ rw t (inl e)
  | Return e _ t ↦ rw t (inr e)
  | Itself _ _ _ t ↦ rw (t, one-add) (run_ends xs)
]

length-wire_byte : (x : ℕ) → length (wire_byte x) ≡ cond (is_line_byte x) 1 0 + 1
length-wire_byte x = search rules

-- each CR and LF has one more byte
pub length-netascii : (xs : List ℕ) → length (netascii_text xs) ≡ length xs + count_by is_line_byte xs
length-netascii [] = refl
length-netascii (x ∷ xs) =
    omega (
      arith,
      length-append (wire_byte x) (netascii_text xs),
      length-wire_byte x,
      length-netascii xs,
      sum_by-cons (λ (n : ℕ). cond (is_line_byte n) 1 0) x xs,
    )
