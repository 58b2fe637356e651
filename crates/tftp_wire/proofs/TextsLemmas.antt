-- The end of a text, and the bytes after it. For `split_text`, OptionsLemmas, ReadingLemmas and SpellingLemmas.
use Rattle.std.proofs.Common.{ℕ, suc, ◌≡◌, ◌+◌, ◌-◌, ◌<◌, Bool, false, eqb, refl, ap, sym, ◌∙◌, arith, List, [], ◌∷◌}
use Rattle.std.proofs.Common.{◌++◌, length, get_or, take, drop, Some, None, add-one, rules}
use Rattle.std.proofs.lemmas.Bool.{ltb-false, eqb-false, eqb-true, ne_eqb}
use Rattle.std.proofs.lemmas.List.{take-append-drop, append_assoc, get_or-take, length-take-le, take_rest}
use Rattle.std.proofs.lemmas.List.Quantifiers.{position-Some}
use Rattle.std.proofs.lemmas.List.Sums.{fails_before_first}
use Rattle.std.proofs.Math.Seq.{drop-cons}
use Rattle.std.specs.List.{position}
use Rattle.tftp_wire.specs.Texts.{IsText, zero_ended, texts, with_first, unended}

abbrev is_zero : ℕ → Bool
is_zero b = eqb b 0

-- no byte of it is zero
text_from_indices : (bs : List ℕ) → ((k : ℕ) → k < length bs → is_zero (get_or bs k 0) ≡ false) → IsText bs
text_from_indices [] h = tt
text_from_indices (b ∷ bs) h =
    (eqb-false b 0 (h 0 (omega arith)), text_from_indices bs (λ k l. h (suc k) (omega arith)))

-- without a zero byte, the bytes are a text
pub text_from_none : (bs : List ℕ) → position is_zero bs ≡ None → IsText bs
text_from_none bs h = search (rules, text_from_indices, fails_before_first, ltb-false)

-- the index of the first zero byte splits the bytes
pub text_from_some : (bs : List ℕ) (n : ℕ) → position is_zero bs ≡ Some n
    → IsText (take n bs) × (bs ≡ zero_ended (take n bs) ++ take (length bs - (n + 1)) (drop (n + 1) bs))
text_from_some bs n h =
    let p = position-Some is_zero bs n 0 h in
    let l : n < length bs = p.0 in
    let z : get_or bs n 0 ≡ 0 = eqb-true _ _ p.1 in
    let shorter : length (take n bs) ≡ n = length-take-le n bs (omega arith) in (
      text_from_indices (take n bs) (λ k m. let m' : k < n = omega arith in rw get_or-take (p.2 k m')),
      sym (take-append-drop n bs) ∙ ap (λ r. take n bs ++ r) (drop-cons bs n 0 l ∙ rw (z, ← add-one, take_rest) refl)
          ∙ sym (append_assoc (take n bs) (0 ∷ []) (take (length bs - (n + 1)) (drop (n + 1) bs))),
    )

-- the first of the texts
pub texts_first : (text rest : List ℕ) → IsText text → texts (zero_ended text ++ rest) ≡ text ∷ texts rest
texts_first [] rest h = refl
texts_first (b ∷ text) rest h = rw (ne_eqb b 0 h.0) (ap (with_first b) (texts_first text rest h.1))

-- a text alone has no zero byte
pub texts_none : (text : List ℕ) → IsText text → texts text ≡ []
texts_none [] h = refl
texts_none (b ∷ text) h = rw (ne_eqb b 0 h.0) (ap (with_first b) (texts_none text h.1))

-- the bytes after the last zero byte, after a text
pub unended_rest : (text rest : List ℕ) → IsText text → unended (zero_ended text ++ rest) ≡ unended rest
unended_rest [] rest h = refl
unended_rest (b ∷ text) rest h = rw (ne_eqb b 0 h.0) (rw (texts_first text rest h.1) (unended_rest text rest h.1))

-- the bytes after the last zero byte, if no byte is zero
pub unended_all : (text : List ℕ) → IsText text → unended text ≡ text
unended_all [] h = refl
unended_all (b ∷ text) h = rw (ne_eqb b 0 h.0, texts_none text h.1) (ap (λ bs. b ∷ bs) (unended_all text h.1))
