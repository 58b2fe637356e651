-- What a look-up finds among the entries of a map after one was added, replaced or removed. For the crates
-- tftp_player and tftp_promises.
use Rattle.tftp_rules.proofs.Common.{◌≡◌, List, refl, sym, true, [], false, rules, ◌∷◌, ◌∙◌, Some, Bool, ap, cond, ◌≢◌}
use Rattle.tftp_rules.proofs.Common.{is_some}
use Rattle.std.specs.BTreeMap.{insert_entry, is_at}
use Rattle.std.specs.Cmp.{IsTotalOrder, eq_by_cmp_equiv, nat_cmp_total}
use Rattle.std.specs.Map.{lookup, remove_entry, set_value}
use Rattle.std.specs.Ordering.{eq_by_cmp, match_ordering, nat_cmp}
use Rattle.std.specs.Cmp.Lexicographic.{slice_cmp}
use Rattle.std.specs.declared.cmp.Ordering.{Ordering}
use Rattle.std.proofs.lemmas.Cmp.{nat_list_cmp_total}
use Rattle.std.proofs.lemmas.Map.{lookup-set_value}
use Rattle.std.proofs.lemmas.Map.Entries.{lookup_head, lookup_tail}
use Rattle.std.proofs.lemmas.Map.Lookups.{CmpEqualImpliesEq, exact_bytes, exact_unsigned}
use Rattle.std.proofs.lemmas.Map.Views.{tells_apart}

-- an order of keys by which two are equal only if they are one
pub record AreKeys {K : Type 0} (R : K → K → Ordering) : Type 0 where
  pub total : IsTotalOrder R
  pub exact : CmpEqualImpliesEq R

-- numbers can be the keys of a map
pub numbers : AreKeys nat_cmp
numbers = record { total = nat_cmp_total; exact = exact_unsigned }

-- texts can be the keys of a map
pub texts : AreKeys (slice_cmp nat_cmp)
texts = record { total = nat_list_cmp_total; exact = exact_bytes }

module _ {K : Type 0} {R : K → K → Ordering} (keys : AreKeys R) where
  -- the test of a key passes at that key alone
  pub at_same : (k q : K) → q ≡ k → is_at (R k) q ≡ true
  at_same k q e = ap (is_at (R k)) e ∙ (eq_by_cmp_equiv keys.total).refl k

  -- a key that the order finds at another is that key
  pub same_at : (k q : K) → is_at (R k) q ≡ true → q ≡ k
  same_at k q h = sym (tells_apart keys.exact k q h)

  -- the order finds no other key at a key
  pub at_other : (k q : K) → q ≢ k → is_at (R k) q ≡ false
  at_other k q n = search rules

  module _ {X : Type 0} where
    -- an entry that was added is found
    added_by : (k : K) (v : X) (e : K × X) (es more : List (K × X)) (o : Ordering) → R k e.0 ≡ o →
        lookup (is_at (R k)) more ≡ Some v →
        lookup (is_at (R k)) (match_ordering o ((k, v) ∷ e ∷ es) ((e.0, v) ∷ es) (e ∷ more)) ≡ Some v
    added_by k v e es more o h rest = search rules

    pub lookup-insert_same : (k : K) (v : X) (es : List (K × X)) →
        lookup (is_at (R k)) (insert_entry R es k v) ≡ Some v
    lookup-insert_same k v [] = lookup_head (is_at (R k)) (k, v) [] (at_same k k refl)
    lookup-insert_same k v (e ∷ es) =
        added_by k v e es (insert_entry R es k v) (R k e.0) refl (lookup-insert_same k v es)

    -- and every other one as before
    beside_by : (k q : K) (v : X) (e : K × X) (es more : List (K × X)) → q ≢ k → (o : Ordering) → R k e.0 ≡ o →
        lookup (is_at (R q)) more ≡ lookup (is_at (R q)) es →
        lookup (is_at (R q)) (match_ordering o ((k, v) ∷ e ∷ es) ((e.0, v) ∷ es) (e ∷ more))
        ≡ lookup (is_at (R q)) (e ∷ es)
    beside_by k q v e es more n o h rest = search rules

    pub lookup-insert_other : (k q : K) (v : X) (es : List (K × X)) → q ≢ k →
        lookup (is_at (R q)) (insert_entry R es k v) ≡ lookup (is_at (R q)) es
    lookup-insert_other k q v [] n = lookup_tail (is_at (R q)) (k, v) [] (at_other q k (λ same. n (sym same)))
    lookup-insert_other k q v (e ∷ es) n = beside_by k q v e _ _ n _ refl (lookup-insert_other k q v es n)

    -- the one that replaced another is found, and every other one as before
    replaced : (k q : K) (was w : X) (es : List (K × X)) → lookup (is_at (R k)) es ≡ Some was →
        lookup (is_at (R q)) (set_value (is_at (R k)) es w)
        ≡ cond (is_at (R k) q) (Some w) (lookup (is_at (R q)) es)
    replaced k q was w es found =
        let laws = eq_by_cmp_equiv keys.total in
        lookup-set_value laws (eq_by_cmp R k) (laws.congr k) q w es (ap is_some found)

    pub lookup-set_same : (k : K) (was w : X) (es : List (K × X)) → lookup (is_at (R k)) es ≡ Some was →
        lookup (is_at (R k)) (set_value (is_at (R k)) es w) ≡ Some w
    lookup-set_same k was w es found = search (rules, replaced, at_same)

    pub lookup-set_other : (k q : K) (was w : X) (es : List (K × X)) → lookup (is_at (R k)) es ≡ Some was → q ≢ k →
        lookup (is_at (R q)) (set_value (is_at (R k)) es w) ≡ lookup (is_at (R q)) es
    lookup-set_other k q was w es found n = search (rules, replaced, at_other)

    -- after one was removed, every other one is found as before
    removed_by : (k q : K) (e : K × X) (es more : List (K × X)) (b : Bool) →
        (b ≡ true → is_at (R q) e.0 ≡ false) → lookup (is_at (R q)) more ≡ lookup (is_at (R q)) es →
        lookup (is_at (R q)) (cond b es (e ∷ more)) ≡ lookup (is_at (R q)) (e ∷ es)
    removed_by k q e es more b h rest = search rules

    pub lookup-remove_other : (k q : K) (es : List (K × X)) → q ≢ k →
        lookup (is_at (R q)) (remove_entry (is_at (R k)) es) ≡ lookup (is_at (R q)) es
    lookup-remove_other k q [] n = refl
    lookup-remove_other k q (e ∷ es) n =
        removed_by k q e es (remove_entry (is_at (R k)) es) (is_at (R k) e.0)
        (λ h. at_other q e.0 (λ f. n (sym f ∙ same_at k e.0 h))) (lookup-remove_other k q es n)
