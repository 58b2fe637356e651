-- The element at an index of a list after a write or a push. For Refines and the crates tftp_player and
-- tftp_promises.
use Rattle.tftp_rules.proofs.Common.{◌≡◌, List, refl, [], ℕ, rules, ◌∷◌, arith, Some, ◌++◌, ap, length, inl, None, inr}
use Rattle.tftp_rules.proofs.Common.{set, suc, zero, ◌≢◌, ◌⊎◌, slice_get}

-- the elements of a list after a write
pub slice_get-set_cases : {X : Type 0} (xs : List X) (i j : ℕ) (a y : X) → slice_get (set xs i a) j ≡ Some y →
    ((j ≡ i) × (y ≡ a)) ⊎ ((j ≢ i) × (slice_get xs j ≡ Some y))
slice_get-set_cases [] i j a y e = absurd (let f : None ≡ Some y = e in cc)
slice_get-set_cases (x ∷ xs) zero zero a y e = inl (refl, let f : Some a ≡ Some y = e in cc)
slice_get-set_cases (x ∷ xs) zero (suc j) a y e = inr (let n : suc j ≢ zero = omega arith in n, e)
slice_get-set_cases (x ∷ xs) (suc i) zero a y e = inr (let n : zero ≢ suc i = omega arith in n, e)
slice_get-set_cases (x ∷ xs) (suc i) (suc j) a y e = search (rules, slice_get-set_cases xs i j a y e)

-- the index that was written has the new element
pub slice_get-set_same : {X : Type 0} (xs : List X) (i : ℕ) (a x : X) → slice_get xs i ≡ Some x →
    slice_get (set xs i a) i ≡ Some a
slice_get-set_same [] i a x e = absurd (let f : None ≡ Some x = e in cc)
slice_get-set_same (x ∷ xs) zero a z e = refl
slice_get-set_same (x ∷ xs) (suc i) a z e = slice_get-set_same xs i a z e

-- every other index has its element still
pub slice_get-set_other : {X : Type 0} (xs : List X) (i j : ℕ) (a : X) → j ≢ i →
    slice_get (set xs i a) j ≡ slice_get xs j
slice_get-set_other [] i j a n = refl
slice_get-set_other (x ∷ xs) zero zero a n = absurd (n refl)
slice_get-set_other (x ∷ xs) zero (suc j) a n = refl
slice_get-set_other (x ∷ xs) (suc i) zero a n = refl
slice_get-set_other (x ∷ xs) (suc i) (suc j) a n = slice_get-set_other xs i j a (λ e. n (ap suc e))

-- an element after a push was there, or is the one that was pushed
pub slice_get-push_cases : {X : Type 0} (xs : List X) (j : ℕ) (a y : X) → slice_get (xs ++ a ∷ []) j ≡ Some y →
    (slice_get xs j ≡ Some y) ⊎ ((j ≡ length xs) × (y ≡ a))
slice_get-push_cases [] zero a y e = inr (refl, let f : Some a ≡ Some y = e in cc)
slice_get-push_cases [] (suc j) a y e = absurd (let f : None ≡ Some y = e in cc)
slice_get-push_cases (x ∷ xs) zero a y e = inl e
slice_get-push_cases (x ∷ xs) (suc j) a y e = search (rules, slice_get-push_cases xs j a y e)

-- an element that was there is there after a push
pub slice_get-push_old : {X : Type 0} (xs : List X) (j : ℕ) (a y : X) → slice_get xs j ≡ Some y →
    slice_get (xs ++ a ∷ []) j ≡ Some y
slice_get-push_old [] j a y e = absurd (let f : None ≡ Some y = e in cc)
slice_get-push_old (x ∷ xs) zero a y e = e
slice_get-push_old (x ∷ xs) (suc j) a y e = slice_get-push_old xs j a y e

-- the pushed element is at the index that was the length
pub slice_get-push_new : {X : Type 0} (xs : List X) (a : X) → slice_get (xs ++ a ∷ []) (length xs) ≡ Some a
slice_get-push_new [] a = refl
slice_get-push_new (x ∷ xs) a = slice_get-push_new xs a
