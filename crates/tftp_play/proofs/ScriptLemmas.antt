-- The files of a script: a new path keeps them distinct, and the set of their paths has it, too.
use Rattle.std.proofs.Common.{◌≡◌, ℕ, Bool, true, false, ◌||◌, List, [], ◌∷◌, ◌++◌, cond, refl, sym, ap, ◌∙◌}
use Rattle.std.specs.Prelude.{not, ◌&&◌, Option, Some, None, is_some}
use Rattle.std.specs.BTreeMap.{is_at}
use Rattle.std.specs.BTreeSet.{contains, Updates}
use Rattle.std.specs.BTreeSet.{BTreeSet}
use Rattle.std.specs.Ordering.{is_eq}
use Rattle.std.specs.declared.cmp.Ordering.{Ordering}
use Rattle.std.specs.declared.cmp.Ordering.TheVariants.{Less, Equal, Greater}
use Rattle.std.specs.declared.vec.Vec.{Vec}
use Rattle.std.proofs.lemmas.Map.Lookups.{exact_bytes}
use Rattle.tftp_store.specs.Store.{file_at, path_cmp}
use Rattle.tftp_store.specs.Memory.{contents, has_distinct_paths}
use Rattle.tftp_play.specs.Files.{AreThePaths}

some_or : {X : Type 0} (b : Bool) (v : X) (o : Option X) → (b || is_some o) ≡ is_some (cond b (Some v) o)
some_or true v o = refl
some_or false v o = refl

neither : (a b : Bool) → (a || b) ≡ false → (a ≡ false) × (b ≡ false)
neither true b h = absurd (cc)
neither false b h = (refl, h)

not_and : (a b : Bool) → (not a && b) ≡ true → (a ≡ false) × (b ≡ true)
not_and true b h = absurd (cc)
not_and false b h = (refl, h)

equal_from_is_eq : (o : Ordering) → is_eq o ≡ true → o ≡ Equal
equal_from_is_eq Less h = absurd (cc)
equal_from_is_eq Equal h = refl
equal_from_is_eq Greater h = absurd (cc)

-- of two paths that are not found equal, neither is the other
apart : (b : Bool) (path other : List ℕ) → is_at (path_cmp other) path ≡ b → is_at (path_cmp path) other ≡ false →
    b ≡ false
apart false path other here there = refl
apart true path other here there =
    let same : other ≡ path = exact_bytes other path (equal_from_is_eq (path_cmp other path) here) in
    let moved : is_at (path_cmp path) other ≡ is_at (path_cmp other) path =
    ap (λ p. is_at (path_cmp p) other) (sym same) ∙ ap (is_at (path_cmp other)) same in
    sym here ∙ sym moved ∙ there

both_or_neither : (b d : Bool) → (b ≡ true → d ≡ true) → (d ≡ true → b ≡ true) → b ≡ d
both_or_neither true d h k = sym (h refl)
both_or_neither false true h k = k refl
both_or_neither false false h k = refl

found_from : (a b : List ℕ) → is_at (path_cmp a) b ≡ true → is_at (path_cmp b) a ≡ true
found_from a b h =
    let same : a ≡ b = exact_bytes a b (equal_from_is_eq (path_cmp a b) h) in
    ap (is_at (path_cmp b)) same ∙ sym (ap (λ p. is_at (path_cmp p) b) same) ∙ h

-- of two paths each is found by the other, or neither is
is_at-sym : (a b : List ℕ) → is_at (path_cmp a) b ≡ is_at (path_cmp b) a
is_at-sym a b = both_or_neither _ _ (found_from a b) (found_from b a)

or_swap : (a b c : Bool) → (a || (b || c)) ≡ (b || (a || c))
or_swap true true c = refl
or_swap true false c = refl
or_swap false b c = refl

cond_or : (b c : Bool) → cond b true c ≡ (b || c)
cond_or true c = refl
cond_or false c = refl

taken_back : (b c : Bool) → (b ≡ true → c ≡ false) → cond b false (cond b true c) ≡ c
taken_back true c h = sym (h refl)
taken_back false c h = refl

module _ {A : Type 0} where
  -- a path is among the files after a push exactly if it is the new one, or was among them
  file_at-push : (path : List ℕ) (files : List (List ℕ × Vec ℕ A)) (e : List ℕ × Vec ℕ A) →
      is_some (file_at path (contents (files ++ e ∷ [])))
      ≡ (is_at (path_cmp path) e.0 || is_some (file_at path (contents files)))
  file_at-push path [] e = sym (some_or (is_at (path_cmp path) e.0) e.1.items None)
  file_at-push path (f ∷ files) e =
      sym (some_or (is_at (path_cmp path) f.0) f.1.items (file_at path (contents (files ++ e ∷ []))))
      ∙ ap (λ b. is_at (path_cmp path) f.0 || b) (file_at-push path files e)
      ∙ or_swap (is_at (path_cmp path) f.0) (is_at (path_cmp path) e.0) (is_some (file_at path (contents files)))
      ∙ ap (λ b. is_at (path_cmp path) e.0 || b)
      (some_or (is_at (path_cmp path) f.0) f.1.items (file_at path (contents files)))

  pub paths-push : (old new : BTreeSet (List ℕ)) (files : List (List ℕ × Vec ℕ A)) (e : List ℕ × Vec ℕ A) →
      AreThePaths old files → Updates path_cmp old new e.0 true → AreThePaths new (files ++ e ∷ [])
  paths-push old new files e paths updates path =
      updates.0 path
      ∙ cond_or (is_at (path_cmp e.0) path) (contains path_cmp old path)
      ∙ ap (λ b. b || contains path_cmp old path) (is_at-sym e.0 path)
      ∙ ap (λ b. is_at (path_cmp path) e.0 || b) (paths path)
      ∙ sym (file_at-push path files e)

  -- a new path that is removed again leaves the set as it was
  pub paths-back : (old more new : BTreeSet (List ℕ)) (files : List (List ℕ × Vec ℕ A)) (k : List ℕ) →
      AreThePaths old files → contains path_cmp old k ≡ false → Updates path_cmp old more k true →
      Updates path_cmp more new k false → AreThePaths new files
  paths-back old more new files k paths absent added removed path =
      removed.0 path
      ∙ ap (cond (is_at (path_cmp k) path) false) (added.0 path)
      ∙ taken_back (is_at (path_cmp k) path) (contains path_cmp old path)
      (λ same. ap (contains path_cmp old) (sym (exact_bytes k path (equal_from_is_eq (path_cmp k path) same))) ∙ absent)
      ∙ paths path

  -- a file after the others is found by its path
  absent-push : (path : List ℕ) (files : List (List ℕ × Vec ℕ A)) (e : List ℕ × Vec ℕ A) →
      is_some (file_at path (contents files)) ≡ false → is_at (path_cmp path) e.0 ≡ false →
      is_some (file_at path (contents (files ++ e ∷ []))) ≡ false
  absent-push path [] e absent other =
      sym (some_or (is_at (path_cmp path) e.0) e.1.items None) ∙ ap (λ b. b || false) other
  absent-push path (f ∷ files) e absent other =
      let parts =
      neither _ _ (some_or (is_at (path_cmp path) f.0) f.1.items (file_at path (contents files)) ∙ absent) in
      sym (some_or (is_at (path_cmp path) f.0) f.1.items (file_at path (contents (files ++ e ∷ []))))
      ∙ ap (λ b. b || is_some (file_at path (contents (files ++ e ∷ [])))) parts.0
      ∙ absent-push path files e parts.1 other

  pub has_distinct_paths-push : (files : List (List ℕ × Vec ℕ A)) (e : List ℕ × Vec ℕ A) →
      has_distinct_paths (contents files) ≡ true → is_some (file_at e.0 (contents files)) ≡ false →
      has_distinct_paths (contents (files ++ e ∷ [])) ≡ true
  has_distinct_paths-push [] e distinct absent = refl
  has_distinct_paths-push (f ∷ files) e distinct absent =
      let before = not_and _ _ distinct in
      let parts = neither _ _ (some_or (is_at (path_cmp e.0) f.0) f.1.items (file_at e.0 (contents files)) ∙ absent) in
      ap (λ found. not found && has_distinct_paths (contents (files ++ e ∷ [])))
      (absent-push f.0 files e before.0 (apart _ e.0 f.0 refl parts.0))
      ∙ has_distinct_paths-push files e before.1 parts.1

  -- the files after a push that may have failed
  pub has_distinct_paths-pushed : (ok : Bool) (files after : List (List ℕ × Vec ℕ A)) (e : List ℕ × Vec ℕ A) →
      after ≡ cond ok (files ++ e ∷ []) files → has_distinct_paths (contents files) ≡ true →
      is_some (file_at e.0 (contents files)) ≡ false → has_distinct_paths (contents after) ≡ true
  has_distinct_paths-pushed true files after e pushed distinct absent =
      ap (λ fs. has_distinct_paths (contents fs)) pushed ∙ has_distinct_paths-push files e distinct absent
  has_distinct_paths-pushed false files after e pushed distinct absent =
      ap (λ fs. has_distinct_paths (contents fs)) pushed ∙ distinct
