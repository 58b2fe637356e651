-- The path of a lock is not that of a draft, which ends in a digit, nor that of its target.
use Rattle.std.proofs.Common.{◌≡◌, ◌≢◌, ◌∙◌, ◌/◌, ◌%◌, ◌==◌, ◌+◌, ℕ, zero, suc, Bool, true, false, cond, List, [], ◌∷◌, ◌++◌}
use Rattle.std.proofs.Common.{ap, append_assoc, arith, decimal, inl, inr, length, refl, sym}
use Rattle.std.proofs.lemmas.List.{length-append}
use Rattle.std.specs.Prelude.{codes}
use Rattle.std.specs.Fmt.{digits, digits_onto, digit_glyph}
use Rattle.tftp_folder.specs.Begin.{IsDraftOf}
use Rattle.tftp_folder.specs.Commit.{lock_of}

abbrev last_of : List ℕ → ℕ → ℕ
last_of [] byte = byte
last_of (first ∷ bytes) byte = last_of bytes first

last_append : (front : List ℕ) (first : ℕ) (rest : List ℕ) (byte : ℕ)
    → last_of (front ++ (first ∷ rest)) byte ≡ last_of rest first
last_append [] first rest byte = refl
last_append (next ∷ front) first rest byte = last_append front first rest next

either_ends : (b : Bool) (xs ys : List ℕ) (byte last : ℕ) → last_of xs byte ≡ last → last_of ys byte ≡ last
    → last_of (cond b xs ys) byte ≡ last
either_ends true xs ys byte last one other = one
either_ends false xs ys byte last one other = other

-- digits are written before those that stand there
ends_onto : (k n first : ℕ) (rest : List ℕ) (byte : ℕ)
    → last_of (digits_onto k 10 false n (first ∷ rest)) byte ≡ last_of rest first
ends_onto zero n first rest byte = refl
ends_onto (suc k) n first rest byte =
    let digit = digit_glyph false (n % 10) in
    either_ends (n / 10 == 0) (digit ∷ (first ∷ rest)) (digits_onto k 10 false (n / 10) (digit ∷ (first ∷ rest)))
    byte (last_of rest first) refl (ends_onto k (n / 10) digit (first ∷ rest) byte)

ends_in_digit : (n byte : ℕ) → last_of (decimal n) byte ≡ digit_glyph false (n % 10)
unfolding digits
ends_in_digit n byte =
    let digit = digit_glyph false (n % 10) in
    either_ends (n / 10 == 0) _ _ _ _ refl (ends_onto 63 (n / 10) digit [] byte)

low_digit : (n : ℕ) → digit_glyph false (n % 10) ≢ 112
low_digit n is = grind arith

-- what ends in digits is no lock
ends_apart : (front target : List ℕ) (byte n : ℕ) → front ++ (byte ∷ decimal n) ≢ lock_of target
ends_apart front target byte n same =
    let left = last_append front byte (decimal n) 0 in
    let right = last_append target 126 (codes "tftp") 0 in
    low_digit n (sym (ends_in_digit n byte) ∙ sym left ∙ ap (λ (l : List ℕ). last_of l 0) same ∙ right)

pub draft_apart : (folder target : List ℕ) (port : ℕ) (path : List ℕ) → IsDraftOf folder port path
    → path ≢ lock_of target
draft_apart folder target port path (inl is) same =
    ends_apart (folder ++ codes "/.tftp") target 45 port
    (append_assoc folder (codes "/.tftp") (45 ∷ decimal port) ∙ sym is ∙ same)
draft_apart folder target port path (inr (turn, is)) same =
    ends_apart (folder ++ (codes "/.tftp-" ++ decimal port)) target 45 turn
    (append_assoc folder (codes "/.tftp-" ++ decimal port) (45 ∷ decimal turn)
    ∙ ap (λ (d : List ℕ). folder ++ d) (append_assoc (codes "/.tftp-") (decimal port) (45 ∷ decimal turn))
    ∙ sym is ∙ same)

pub lock_apart : (target : List ℕ) → lock_of target ≢ target
lock_apart target same =
    let longer : length (lock_of target) ≡ length target + 5 = length-append target (codes "~tftp") in
    let long : length (lock_of target) ≡ length target = ap (λ (l : List ℕ). length l) same in
    absurd (omega (arith, longer, long))
