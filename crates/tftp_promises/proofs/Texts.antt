-- Prefixes of texts, and a text that is padded to a length.
use Rattle.tftp_promises.proofs.Common.{List, ℕ, ◌≡◌, rules, sym, refl, [], ◌∙◌, ap, ◌∷◌, ◌++◌, arith, length, suc}
use Rattle.tftp_promises.proofs.Common.{zero, ◌≤◌, IsPrefixOf, append_assoc, heads, take, length-append, drop}
use Rattle.tftp_promises.proofs.Common.{replicate, ◌+◌}
use Rattle.std.proofs.Common.{append-nil, rules as std_rules}
use Rattle.std.proofs.Math.Seq.{drop-append_seam, take-append-add, take-append_seam}
use Rattle.std.proofs.lemmas.List.{append_cancel_left, length-replicate, length-take, take_all}
use Rattle.std.specs.Prelude.{◌-◌}

-- the text of this length that begins so, padded by this byte
abbrev pub pad_to : ℕ → ℕ → List ℕ → List ℕ
pad_to pad n xs = take n (xs ++ replicate n pad)

pub pad_length : (pad n : ℕ) (xs : List ℕ) → length (pad_to pad n xs) ≡ n
pad_length pad n xs = search (rules, length-take, length-append, length-replicate)

-- a prefix that is not longer begins the padded text
pub begins_padded : (pad n : ℕ) (xs ys : List ℕ) → IsPrefixOf xs ys → length xs ≤ n → IsPrefixOf xs (pad_to pad n ys)
begins_padded pad n xs ys b l =
    let fill = replicate n pad in
    let k = n - length xs in
    let fits : length xs + k ≡ n = omega (arith, l) in
    (take k (b.0 ++ fill), sym (take-append-add xs (b.0 ++ fill) k) ∙ rw (fits, ← append_assoc xs b.0 fill, b.1) refl)

pub begins_itself : (xs : List ℕ) → IsPrefixOf xs xs
begins_itself xs = ([], append-nil xs)

pub begins_more : (xs ys : List ℕ) → IsPrefixOf xs (xs ++ ys)
begins_more xs ys = (ys, refl)

pub begins_on : (xs ys zs : List ℕ) → IsPrefixOf xs ys → IsPrefixOf ys zs → IsPrefixOf xs zs
begins_on xs ys zs a b = (a.0 ++ b.0, sym (append_assoc xs a.0 b.0) ∙ (ap (λ (ws : List ℕ). ws ++ b.0) a.1 ∙ b.1))

-- what comes after one beginning in both
pub begins_after : (xs ys zs : List ℕ) → IsPrefixOf (xs ++ ys) (xs ++ zs) → IsPrefixOf ys zs
begins_after xs ys zs b = (b.0, append_cancel_left xs (ys ++ b.0) zs (sym (append_assoc xs ys b.0) ∙ b.1))

-- a prefix is as much of the text, and what is left comes after it
pub begins_by_take : (xs ys : List ℕ) → IsPrefixOf xs ys → take (length xs) ys ≡ xs
begins_by_take xs ys b = ap (take (length xs)) (sym b.1) ∙ take-append_seam xs b.0

pub then_rest : (xs ys : List ℕ) → IsPrefixOf xs ys → xs ++ drop (length xs) ys ≡ ys
then_rest xs ys b = ap (λ (zs : List ℕ). xs ++ zs) (ap (drop (length xs)) (sym b.1) ∙ drop-append_seam xs b.0) ∙ b.1

-- two texts that begin each other are one
pub begin_each_other : (xs ys : List ℕ) → IsPrefixOf xs ys → IsPrefixOf ys xs → xs ≡ ys
begin_each_other xs ys a b =
    let long = length-append ys b.0 in
    let l : length ys ≤ length xs = omega (arith, long, ap (λ (t : List ℕ). length t) b.1) in
    sym (begins_by_take xs ys a) ∙ take_all (length xs) ys l

-- what begins a text however it is padded begins it
pub begins_unpadded : (n k : ℕ) (xs zs : List ℕ) → IsPrefixOf zs (take n (xs ++ replicate k 0)) →
    IsPrefixOf zs (take n (xs ++ replicate k 1)) → IsPrefixOf zs xs
begins_unpadded n k xs [] a b = (xs, refl)
begins_unpadded zero k xs (z ∷ zs) a b = absurd (let f : z ∷ (zs ++ a.0) ≡ [] = a.1 in cc)
begins_unpadded (suc n) zero [] (z ∷ zs) a b = absurd (let f : z ∷ (zs ++ a.0) ≡ [] = a.1 in cc)
begins_unpadded (suc n) (suc k) [] (z ∷ zs) a b = search std_rules
begins_unpadded (suc n) k (x ∷ xs) (z ∷ zs) a b =
    let one = heads z x (zs ++ a.0) (take n (xs ++ replicate k 0)) a.1 in
    let other = heads z x (zs ++ b.0) (take n (xs ++ replicate k 1)) b.1 in
    let h = begins_unpadded n k xs zs (a.0, one.1) (b.0, other.1) in
    (h.0, ap (λ (w : ℕ). w ∷ (zs ++ h.0)) one.0 ∙ ap (λ (ws : List ℕ). x ∷ ws) h.1)
