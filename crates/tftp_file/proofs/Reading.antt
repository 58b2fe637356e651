-- A read after earlier reads. For `read_from`.
use Rattle.std.proofs.Common.{◌≡◌, ℕ, ◌+◌, ◌-◌, ◌≤◌, List, ◌++◌, length, take, drop, Option, sym, ap, ◌∙◌, subst, arith}
use Rattle.std.specs.Io.KnownBytes.{Consumes}
use Rattle.std.proofs.KnownBytes.{Consumes-trans}
use Rattle.std.proofs.lemmas.List.{take-take, drop-take, drop-drop}
use Rattle.std.proofs.Math.Seq.{take-add}

-- the bytes before an earlier offset are unchanged
pub front_stays : (start at : ℕ) (old new first : List ℕ) → start ≤ at → take at new ≡ take at old
    → take start old ≡ take start first → take start new ≡ take start first
front_stays start at old new first after same front =
    sym (take-take start at new after) ∙ ap (take start) same ∙ take-take start at old after ∙ front

-- the bytes between two earlier offsets are unchanged
between_stays : (start at : ℕ) (old new : List ℕ) → start ≤ at → take at new ≡ take at old
    → take (at - start) (drop start new) ≡ take (at - start) (drop start old)
between_stays start at old new after same =
    let whole : start + (at - start) ≡ at = omega arith in
    let inside : (xs : List ℕ) → drop start (take at xs) ≡ take (at - start) (drop start xs) =
    λ xs. ap (λ k. drop start (take k xs)) (sym whole) ∙ drop-take start (at - start) xs in
    sym (inside new) ∙ ap (drop start) same ∙ inside old

-- a read at an offset adds to the bytes read from the start up to it
pub read_more : (a b c : Option (List ℕ)) (start at n : ℕ) (old new : List ℕ) → start ≤ at
    → at ≤ length old → at + n ≤ length new → take at new ≡ take at old
    → Consumes a b (take (at - start) (drop start old)) → Consumes b c (take n (drop at new))
    → Consumes a c (take ((at + n) - start) (drop start new))
read_more a b c start at n old new after within fits same before read =
    let both : (at + n) - start ≡ (at - start) + n = omega arith in
    let offset : start + (at - start) ≡ at = omega arith in
    let rest = ap (take n) (drop-drop (at - start) start new ∙ ap (λ k. drop k new) offset) in
    let joined = ap (λ k. take k (drop start new)) both ∙ take-add (at - start) n (drop start new) ∙ ap (λ l. l ++ take
    n (drop (at - start) (drop start new))) (between_stays start at old new after same) ∙ ap (λ l. take (at - start)
    (drop start old) ++ l) rest in
    subst (Consumes a c) (sym joined) (Consumes-trans a b c _ _ before read)
