-- Ports and their timers, index by index. For `ServerLoop::finish`, `ServerLoop::sync`, `ServerLoop::visit` and eight
-- other files.
use Rattle.tftp_loop.proofs.Common.{◌≡◌, ◌<◌, ◌-◌, ℕ, zero, suc, List, [], ◌∷◌, map, length, take, refl, sym, ap, ◌∙◌}
use Rattle.tftp_loop.proofs.Common.{arith, slice_set, slice_index_or, swap_remove, length-map}
use Rattle.std.proofs.lemmas.List.{get_or_default, map-set, set-get_or, take-map}
pub use Rattle.std.proofs.lemmas.List.{length-set as set_long, set-set as set_again}

module _ {A B : Type 0} (f : A → B) where
  -- the element at an index, mapped
  pub map_at : (xs : List A) (i : ℕ) (d : A) → slice_index_or (map f xs) i (f d) ≡ f (slice_index_or xs i d)
  map_at [] i d = refl
  map_at (x ∷ xs) zero d = refl
  map_at (x ∷ xs) (suc i) d = map_at xs i d

  -- the element at an index
  pub map_is : (xs : List A) (i : ℕ) (x : A) → x ≡ slice_index_or xs i x → f x ≡ slice_index_or (map f xs) i (f x)
  map_is xs i x e = ap f e ∙ sym (map_at xs i x)

  -- an index is within the mapped list, too
  pub map_within : (xs : List A) (i : ℕ) → i < length xs → i < length (map f xs)
  map_within xs i h = omega (arith, length-map xs f)

  -- to write and then map is to map and then write
  pub map_set : (xs : List A) (i : ℕ) (x : A) → map f (slice_set xs i x) ≡ slice_set (map f xs) i (f x)
  map_set xs i x = map-set f xs i x

  -- to remove and then map is to map and then remove
  pub map_removed : (xs : List A) (i : ℕ) (x : A) → map f (swap_remove xs i x) ≡ swap_remove (map f xs) i (f x)
  map_removed xs i x =
      let n = length xs - 1 in
      sym (take-map f n (slice_set xs i (slice_index_or xs n x)))
      ∙ ap (take n) (map-set f xs i (slice_index_or xs n x) ∙ ap (slice_set (map f xs) i) (sym (map_at xs n x)))
      ∙ ap (λ (m : ℕ). take (m - 1) (slice_set (map f xs) i (slice_index_or (map f xs) (m - 1) (f x))))
      (sym (length-map xs f))

module _ {A : Type 0} where
  -- the element at an index, set there again
  pub set_itself : (xs : List A) (i : ℕ) (x : A) → x ≡ slice_index_or xs i x → slice_set xs i x ≡ xs
  set_itself xs i x e = ap (slice_set xs i) e ∙ set-get_or xs i x

  -- the index that was written has the element
  pub set_is : (xs : List A) (i : ℕ) (x : A) → x ≡ slice_index_or (slice_set xs i x) i x
  set_is [] i x = refl
  set_is (z ∷ xs) zero x = refl
  set_is (z ∷ xs) (suc i) x = set_is xs i x

  -- a write leaves what is within
  pub set_within : (xs : List A) (i j : ℕ) (x : A) → j < length xs → j < length (slice_set xs i x)
  set_within xs i j x h = omega (arith, set_long xs i x)

  -- an index within the list has one element
  pub one_at : (xs : List A) (i : ℕ) (x y : A) → i < length xs → x ≡ slice_index_or xs i x →
      y ≡ slice_index_or xs i y → x ≡ y
  one_at xs i x y h e f = e ∙ get_or_default xs i x y h ∙ sym f
