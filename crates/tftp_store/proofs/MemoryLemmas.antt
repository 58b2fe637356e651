-- The content of files that are added one by one. For `MemStore::new` and `in_path_order`.
use Rattle.std.proofs.Common.{◌≡◌, ℕ, Bool, true, false, List, [], ◌∷◌, ◌++◌, cond, refl, sym, ap, ◌∙◌}
use Rattle.std.specs.Prelude.{not, ◌&&◌, Option, Some, None, is_some}
use Rattle.std.proofs.lemmas.Map.Lookups.{exact_bytes}
use Rattle.std.specs.Map.{lookup}
use Rattle.std.specs.BTreeMap.{insert_entry, is_at}
use Rattle.std.specs.Ordering.{match_ordering, is_eq}
use Rattle.std.specs.declared.cmp.Ordering.{Ordering}
use Rattle.std.specs.declared.cmp.Ordering.TheVariants.{Less, Equal, Greater}
use Rattle.std.specs.declared.vec.Vec.{Vec}
use Rattle.tftp_store.specs.Store.{FileList, file_at, with_file, path_cmp}
use Rattle.tftp_store.specs.Memory.{contents, put_all, in_path_order, has_distinct_paths}

equal_from_is_eq : (o : Ordering) → is_eq o ≡ true → o ≡ Equal
equal_from_is_eq Less h = absurd (cc)
equal_from_is_eq Equal h = refl
equal_from_is_eq Greater h = absurd (cc)

-- a path found by a lookup is the one that is looked up
same_path : (path k : List ℕ) → is_at (path_cmp path) k ≡ true → path ≡ k
same_path path k h = exact_bytes path k (equal_from_is_eq (path_cmp path k) h)

module _ {X : Type 0} where
  -- two results of a lookup that exclude each other can be exchanged
  swapped : (b d : Bool) (u v : X) (o : Option X) → (b ≡ true → d ≡ true → ⊥)
      → cond b (Some u) (cond d (Some v) o) ≡ cond d (Some v) (cond b (Some u) o)
  swapped true true u v o apart = absurd (apart refl refl)
  swapped true false u v o apart = refl
  swapped false d u v o apart = refl

  replaced : (b d : Bool) (u v : X) (o : Option X) → b ≡ d → cond b (Some v) o ≡ cond d (Some v) (cond b (Some u) o)
  replaced true true u v o same = refl
  replaced true false u v o same = absurd (cc)
  replaced false true u v o same = absurd (cc)
  replaced false false u v o same = refl

  inserted_at : (o : Ordering) (path k : List ℕ) (v : X) (e : List ℕ × X) (es more : List (List ℕ × X))
      → path_cmp k e.0 ≡ o
      → lookup (is_at (path_cmp path)) more
      ≡ cond (is_at (path_cmp path) k) (Some v) (lookup (is_at (path_cmp path)) es)
      → lookup (is_at (path_cmp path)) (match_ordering o ((k, v) ∷ e ∷ es) ((e.0, v) ∷ es) (e ∷ more))
      ≡ cond (is_at (path_cmp path) k) (Some v) (lookup (is_at (path_cmp path)) (e ∷ es))
  inserted_at Less path k v e es more order rest = refl
  inserted_at Equal path k v e es more order rest =
      replaced (is_at (path_cmp path) e.0) (is_at (path_cmp path) k) e.1 v (lookup (is_at (path_cmp path)) es)
      (sym (ap (is_at (path_cmp path)) (exact_bytes k e.0 order)))
  inserted_at Greater path k v e es more order rest =
      ap (λ o. cond (is_at (path_cmp path) e.0) (Some e.1) o) rest
      ∙ swapped (is_at (path_cmp path) e.0) (is_at (path_cmp path) k) e.1 v (lookup (is_at (path_cmp path)) es)
      (λ here there. apart here there)
    where
      apart : is_at (path_cmp path) e.0 ≡ true → is_at (path_cmp path) k ≡ true → ⊥
      apart here there =
          let at_k = same_path path k there in
          let at_e = same_path path e.0 here in
          let equal : path_cmp path k ≡ Equal = equal_from_is_eq (path_cmp path k) there in
          let moved : path_cmp k e.0 ≡ path_cmp path k =
          ap (λ x. path_cmp x e.0) (sym at_k) ∙ ap (path_cmp path) (sym at_e ∙ at_k) in
          let both : Greater ≡ Equal = sym order ∙ moved ∙ equal in
          cc

  -- an added file is found at its path, and every other file as before
  pub lookup-insert_entry : (path k : List ℕ) (v : X) (es : List (List ℕ × X))
      → lookup (is_at (path_cmp path)) (insert_entry path_cmp es k v)
      ≡ cond (is_at (path_cmp path) k) (Some v) (lookup (is_at (path_cmp path)) es)
  lookup-insert_entry path k v [] = refl
  lookup-insert_entry path k v (e ∷ es) =
      inserted_at (path_cmp k e.0) path k v e es _ refl (lookup-insert_entry path k v es)

-- the first of two results that is a file
abbrev or_else : Option (List ℕ) → Option (List ℕ) → Option (List ℕ)
or_else None other = other
or_else (Some x) other = Some x

put_first : (b : Bool) (v : List ℕ) (more held : Option (List ℕ)) → (b ≡ true → more ≡ None)
    → or_else more (cond b (Some v) held) ≡ or_else (cond b (Some v) more) held
put_first true v more held absent = ap (λ o. or_else o (Some v)) (absent refl)
put_first false v more held absent = refl

absent_from : (o : Option (List ℕ)) (d : Bool) → not (is_some o) && d ≡ true → o ≡ None
absent_from None d h = refl
absent_from (Some x) d h = absurd (cc)

rest_from : (b d : Bool) → b && d ≡ true → d ≡ true
rest_from true d h = h
rest_from false d h = absurd (cc)

put_all-lookup : (path : List ℕ) (held files : FileList) → has_distinct_paths files ≡ true
    → file_at path (put_all held files) ≡ or_else (file_at path files) (file_at path held)
put_all-lookup path held [] distinct = refl
put_all-lookup path held (e ∷ files) distinct =
    put_all-lookup path (with_file held e.0 e.1) files (rest_from _ _ distinct)
    ∙ ap (or_else (file_at path files)) (lookup-insert_entry path e.0 e.1 held)
    ∙ put_first (is_at (path_cmp path) e.0) e.1 (file_at path files) (file_at path held)
    (λ same. ap (λ p. file_at p files) (same_path path e.0 same)
    ∙ absent_from (file_at e.0 files) (has_distinct_paths files) distinct)

or_nothing : (o : Option (List ℕ)) → or_else o None ≡ o
or_nothing None = refl
or_nothing (Some x) = refl

-- the files of a list without a repeated path are found as in the list
pub in_path_order-lookup : (path : List ℕ) (files : FileList) → has_distinct_paths files ≡ true
    → file_at path (in_path_order files) ≡ file_at path files
in_path_order-lookup path files distinct = put_all-lookup path [] files distinct ∙ or_nothing (file_at path files)

put_all-push : {A : Type 0} (held : FileList) (files : List (List ℕ × Vec ℕ A)) (e : List ℕ × Vec ℕ A)
    → put_all held (contents (files ++ e ∷ [])) ≡ with_file (put_all held (contents files)) e.0 e.1.items
put_all-push held [] e = refl
put_all-push held (f ∷ files) e = put_all-push (with_file held f.0 f.1.items) files e

-- one more file at the end of the list
pub in_path_order-push : {A : Type 0} (files : List (List ℕ × Vec ℕ A)) (e : List ℕ × Vec ℕ A)
    → in_path_order (contents (files ++ e ∷ [])) ≡ with_file (in_path_order (contents files)) e.0 e.1.items
in_path_order-push files e = put_all-push [] files e
