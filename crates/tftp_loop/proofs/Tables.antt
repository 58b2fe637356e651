-- Elements and entries that a change leaves as they were. For eleven other files and the crate tftp_daemon.
use Rattle.std.proofs.Common.{rules, arith as std_arith}
use Rattle.std.proofs.lemmas.Grind.{common_steps}
use Rattle.tftp_loop.proofs.Common.{arith, ◌≡◌, ◌<◌, ◌≤◌, ◌+◌, ◌-◌, ◌⊎◌, ℕ, Bool, true, false, List, [], ◌∷◌, ◌++◌}
use Rattle.tftp_loop.proofs.Common.{length, Option, Some, None, cond, refl, sym, ap, ◌∙◌, inl, inr, slice_set}
use Rattle.tftp_loop.proofs.Common.{slice_index_or, if◌then◌else◌, swap_remove, lookup, is_at, nat_cmp, cases_eq}
use Rattle.tftp_loop.proofs.Common.{none-some, same_Some, with_new, with_next, without}
use Rattle.std.specs.Ordering.{is_eq}
use Rattle.std.specs.declared.cmp.Ordering.{Ordering}
use Rattle.std.proofs.lemmas.Bool.Decides.{nat_tests}
use Rattle.std.proofs.lemmas.List.{get_or_append_left, get_or_push, get_or-set_other, get_or-take}
use Rattle.std.proofs.lemmas.List.{get_or-set_same as set_own, get_or_default as any_default}
use Rattle.std.proofs.lemmas.List.{get_or-set_same as set_own, get_or_default as any_default}
use Rattle.std.proofs.lemmas.List.{get_or-set_same as set_own, get_or_default as any_default}
use Rattle.std.proofs.lemmas.List.{length_push as appended_long}
use Rattle.tftp_server.proofs.HeldLemmas.{next_there}
pub use Rattle.std.proofs.lemmas.List.{get_or-set_same as set_own, get_or_default as any_default}
pub use Rattle.std.proofs.lemmas.List.{length_push as appended_long}

-- ---- elements
module _ {X : Type 0} where
  -- a write leaves every other index
  pub set_other : (xs : List X) (i : ℕ) (y : X) (k : ℕ) (d : X) → (k ≡ i → ⊥) →
      slice_index_or (slice_set xs i y) k d ≡ slice_index_or xs k d
  set_other xs i y k d apart = get_or-set_other xs i k y d apart

  -- an element more at the end leaves those before
  pub appended_at : (xs : List X) (x : X) (k : ℕ) (d : X) → k < length xs →
      slice_index_or (xs ++ x ∷ []) k d ≡ slice_index_or xs k d
  appended_at xs x k d h = get_or_append_left xs (x ∷ []) d k h

  -- and is the last
  pub appended_last : (xs : List X) (x : X) (k : ℕ) (d : X) → k ≡ length xs → slice_index_or (xs ++ x ∷ []) k d ≡ x
  appended_last xs x k d h = get_or_push xs x d k (sym h)

  -- a list without one is shorter by one
  pub removed_long : (xs : List X) (i : ℕ) (x : X) → length (swap_remove xs i x) ≡ length xs - 1
  removed_long xs i x = search rules

  -- where an element of the list without one was before
  pub record WasAt (xs : List X) (i k : ℕ) (y : X) : Type 0 where
    pub index : ℕ
    pub within : index < length xs
    pub other : index ≡ i → ⊥
    pub is : (e : X) → y ≡ slice_index_or xs index e
    pub which : ((k ≡ i) × (index ≡ length xs - 1)) ⊎ ((k ≡ i → ⊥) × (index ≡ k))

  -- an element of the shorter list was in the longer one
  pub was_at : (xs : List X) (i : ℕ) (x : X) (k : ℕ) (d : X) → i < length xs → k < length (swap_remove xs i x) →
      WasAt xs i k (slice_index_or (swap_remove xs i x) k d)
  was_at xs i x k d inside within =
      let last = slice_index_or xs (length xs - 1) x in
      let below : k < length xs - 1 = omega (arith, removed_long xs i x) in
      let here = get_or-take (length xs - 1) (slice_set xs i last) k d below in
      elim (cases_eq k i) [
        | inl same ↦ record {
          index = length xs - 1;
          within = omega arith;
          other = λ e. omega arith;
          is = grind (std_arith, common_steps);
          which = inl (same, refl);
        }
        | inr apart ↦ record {
          index = k;
          within = omega arith;
          other = apart;
          is = λ e. here ∙ (set_other xs i last k d apart ∙ any_default xs k d e (omega arith));
          which = inr (apart, refl);
        }
      ]

  -- where an element is after another was removed
  pub removed_index : (xs : List X) (i : ℕ) (x : X) (index : ℕ) → i < length xs → index < length xs → (index ≡ i → ⊥)
      → (k : ℕ) × (k < length (swap_remove xs i x))
      × ((d : X) → slice_index_or (swap_remove xs i x) k d ≡ slice_index_or xs index d)
  removed_index xs i x index inside within other =
      let last = slice_index_or xs (length xs - 1) x in
      let long = removed_long xs i x in
      let kept = λ (k : ℕ) (d : X) (h : k < length xs - 1). get_or-take (length xs - 1) (slice_set xs i last) k d h in
      elim (cases_eq index (length xs - 1)) [
        | inl end ↦ (
          i,
          omega (arith, long),
          λ d.
              kept i d (omega arith) ∙ (set_own xs i last d inside ∙ (any_default xs (length xs - 1) x d (omega arith)
              ∙ ap (λ (j : ℕ). slice_index_or xs j d) (sym end))),
        )
        | inr apart ↦ (
          index,
          omega (arith, long),
          λ d. kept index d (omega arith) ∙ set_other xs i last index d other,
        )
      ]

-- ---- entries
-- keys that compare as equal are equal
pub compares : (tid key : ℕ) (o : Ordering) → nat_cmp tid key ≡ o → is_eq o ≡ true → tid ≡ key
compares tid key o e = grind (arith, nat_tests)

own_key : (tid : ℕ) → is_eq (nat_cmp tid tid) ≡ true
own_key tid = grind (arith, nat_tests)

-- a test for one key fails at another
other_key : (q key : ℕ) → (q ≡ key → ⊥) → is_eq (nat_cmp q key) ≡ false
other_key q key apart = search rules

tests_apart : (tid q : ℕ) → (q ≡ tid → ⊥) → (key : ℕ) → is_eq (nat_cmp tid key) ≡ true
    → is_eq (nat_cmp q key) ≡ false
tests_apart tid q apart key own = search rules

module _ {T : Type 0} where
  abbrev found : ℕ → List (ℕ × T) → Option T
  found q held = lookup (is_at (nat_cmp q)) held

  module _ (tid q : ℕ) (apart : q ≡ tid → ⊥) where
    -- a new value at one key leaves what is found at another
    pub set_apart : (held : List (ℕ × T)) (w : T) → found q (with_next tid w held) ≡ found q held
    set_apart [] w = refl
    set_apart (e ∷ held) w =
        search (rules, nat_cmp, with_next, cond, true, tests_apart, false, set_apart held w)

    -- so does a removal
    pub removed_apart : (held : List (ℕ × T)) → found q (without tid held) ≡ found q held
    removed_apart [] = refl
    removed_apart (e ∷ held) =
        search (rules, nat_cmp, without, cond, true, tests_apart, false, removed_apart held)

    -- and an insertion
    pub inserted_apart : (v : T) (held : List (ℕ × T)) → found q (with_new tid v held) ≡ found q held
    inserted_apart v [] = rw (other_key q tid apart) refl
    inserted_apart v (e ∷ held) =
        search (rules, nat_cmp, other_key, tests_apart, cond, inserted_apart v held)

  -- the inserted value is found
  pub inserted_own : (tid : ℕ) (v : T) (held : List (ℕ × T)) → found tid (with_new tid v held) ≡ Some v
  inserted_own tid v [] = rw (own_key tid) refl
  inserted_own tid v (e ∷ held) = search (rules, nat_cmp, own_key, inserted_own tid v held)

  -- the value that takes the place of one that was found is found
  pub next_found : (tid : ℕ) (held after : List (ℕ × T)) (was next : T) → found tid held ≡ Some was
      → after ≡ with_next tid next held → found tid after ≡ Some next
  next_found tid held after was next there is = ap (found tid) is ∙ next_there tid held was next there

  -- a number greater than each identifier is not there
  abbrev above : List (ℕ × T) → ℕ
  above [] = 0
  above (e ∷ held) = e.0 + 1 + above held

  none_above : (q : ℕ) (held : List (ℕ × T)) → above held ≤ q → found q held ≡ None
  none_above q [] h = refl
  none_above q (e ∷ held) h =
      let sum : above (e ∷ held) ≡ e.0 + 1 + above held = refl in
      rw (other_key q e.0 (λ same. omega (arith, same, h, sum))) (none_above q held (omega (arith, h, sum)))

  -- some identifier is free
  pub free_identifier : (held : List (ℕ × T)) → (tid : ℕ) × (found tid held ≡ None)
  free_identifier held = (above held, none_above (above held) held (omega arith))

-- what was taken is the record of the transfer
pub taken_by : {X : Type 0} (b : Bool) (x y : X) → (if b then Some x else None) ≡ Some y → x ≡ y
taken_by true x y h = same_Some x y h
taken_by false x y h = absurd (none-some y h)

-- if nothing was taken the test failed
pub not_taken : {X : Type 0} (b : Bool) (x : X) → (if b then Some x else None) ≡ None → b ≡ false
not_taken true x h = absurd (none-some x (sym h))
not_taken false x h = refl
