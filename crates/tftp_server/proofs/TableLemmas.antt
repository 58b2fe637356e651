-- The joined list of an index and a slab under look-ups, insertions, removals and writes. For ten functions.
use Rattle.std.proofs.lemmas.Grind.{common_steps}
use Rattle.std.proofs.Common.{arith, ◌≡◌, ◌≢◌, ℕ, suc, Bool, true, false, List, [], ◌∷◌, length, get_or, Option, Some}
use Rattle.std.proofs.Common.{None, IsSome, is_some, cond, Result, Ok, Err, OnErr, refl, sym, ap, subst, ◌∙◌, rules}
use Rattle.std.proofs.lemmas.Bool.Decides.{nat_tests}
use Rattle.std.specs.List.{AllByRecursion}
use Rattle.std.specs.Map.{lookup, keys_of, remove_entry, set_value}
use Rattle.std.specs.BTreeMap.{insert_entry, is_at}
use Rattle.std.specs.Ordering.{nat_cmp, match_ordering, is_eq}
use Rattle.std.specs.declared.cmp.Ordering.{Ordering}
use Rattle.std.specs.declared.cmp.Ordering.TheVariants.{Less, Equal, Greater}
use Rattle.std.proofs.lemmas.List.{get_or-set_other}
use Rattle.slab.specs.Slab.{Slab, get, with_value, Updates}
use Rattle.slab.proofs.SlabLemmas.{Updates-with_value}
use Rattle.tftp_server.specs.Table.{joined, with_found, IsJoined, IsKeyFor}

-- no entry of the index has the key
abbrev pub IsFree : ℕ → List (ℕ × ℕ) → Type 0
IsFree key index = AllByRecursion (λ f. f.1 ≢ key) index

free-inserted : (o : Ordering) (key k : ℕ) (tid : ℕ) (e : ℕ × ℕ) (index more : List (ℕ × ℕ)) → k ≢ key →
    IsFree key (e ∷ index) → IsFree key more →
    IsFree key (match_ordering o ((tid, k) ∷ e ∷ index) ((e.0, k) ∷ index) (e ∷ more))
free-inserted o key k tid e index more differs free rest = search rules

IsFree-insert : (index : List (ℕ × ℕ)) (tid key k : ℕ) → k ≢ key → IsFree key index →
    IsFree key (insert_entry nat_cmp index tid k)
IsFree-insert [] tid key k differs free = (differs, tt)
IsFree-insert (e ∷ index) tid key k differs free =
    free-inserted (nat_cmp tid e.0) key k tid e index _ differs free (IsFree-insert index tid key k differs free.1)

differs_there : (b : Bool) (k key other : ℕ) (m : Option ℕ) → k ≢ other → (m ≡ Some key → key ≢ other) →
    cond b (Some k) m ≡ Some key → key ≢ other
differs_there b k key other m here more found = search rules

-- what a look-up finds is not a free key
found_differs : (test : ℕ → Bool) (index : List (ℕ × ℕ)) (key other : ℕ) → IsFree other index →
    lookup test index ≡ Some key → key ≢ other
found_differs test [] key other free found = absurd (cc)
found_differs test (e ∷ index) key other free found =
    differs_there (test e.0) e.1 key other (lookup test index) free.0 (found_differs test index key other free.1) found

free-removed : (b : Bool) (key : ℕ) (e : ℕ × ℕ) (index more : List (ℕ × ℕ)) → IsFree key (e ∷ index) → IsFree key more →
    IsFree key (cond b index (e ∷ more))
free-removed true key e index more free rest = free.1
free-removed false key e index more free rest = (free.0, rest)

IsFree-remove : (test : ℕ → Bool) (index : List (ℕ × ℕ)) (key : ℕ) → IsFree key index →
    IsFree key (remove_entry test index)
IsFree-remove test [] key free = tt
IsFree-remove test (e ∷ index) key free =
    free-removed (test e.0) key e index _ free (IsFree-remove test index key free.1)

-- a removed key is free
removed_at : (b : Bool) (key : ℕ) (e : ℕ × ℕ) (index more : List (ℕ × ℕ)) (m : Option ℕ) → IsFree e.1 index →
    (m ≡ Some key → IsFree key more) → (m ≡ Some key → e.1 ≢ key) → cond b (Some e.1) m ≡ Some key →
    IsFree key (cond b index (e ∷ more))
removed_at b key e index more m free rest differs found = search rules

-- what holds holds beside an error
pub on_err : {A E : Type 0} {P : Type 0} (r : Result A E) → P → OnErr r P
on_err (Ok a) p = tt
on_err (Err e) p = p

-- ---- an entry that was inserted and is removed again
same_key : (tid : ℕ) → is_eq (nat_cmp tid tid) ≡ true
same_key tid = grind (arith, nat_tests)

removes_new : (o : Ordering) (tid key : ℕ) (e : ℕ × ℕ) (es more : List (ℕ × ℕ)) → nat_cmp tid e.0 ≡ o →
    lookup (is_at (nat_cmp tid)) (e ∷ es) ≡ None →
    (lookup (is_at (nat_cmp tid)) es ≡ None → remove_entry (is_at (nat_cmp tid)) more ≡ es) →
    remove_entry (is_at (nat_cmp tid)) (match_ordering o ((tid, key) ∷ e ∷ es) ((e.0, key) ∷ es) (e ∷ more)) ≡ e ∷ es
removes_new Less tid key e es more o absent rest = rw same_key refl
removes_new Equal tid key e es more o absent rest = absurd (cc)
removes_new Greater tid key e es more o absent rest = search rules

-- to remove what was inserted leaves what was there
pub removes_inserted : (index : List (ℕ × ℕ)) (tid key : ℕ) → lookup (is_at (nat_cmp tid)) index ≡ None →
    remove_entry (is_at (nat_cmp tid)) (insert_entry nat_cmp index tid key) ≡ index
removes_inserted [] tid key absent = rw same_key refl
removes_inserted (e ∷ es) tid key absent = removes_new _ _ key e _ _ refl absent (removes_inserted es tid key)

module _ {T : Type 0} where
  with_found-lookup : (test : ℕ → Bool) (tid : ℕ) (o : Option T) (others : List (ℕ × T)) → IsSome o →
      lookup test (with_found tid o others) ≡ cond (test tid) o (lookup test others)
  with_found-lookup test tid None others h = absurd (cc)
  with_found-lookup test tid (Some v) others h = refl

  with_found-keys : (tid : ℕ) (o : Option T) (others : List (ℕ × T)) → IsSome o →
      keys_of (with_found tid o others) ≡ tid ∷ keys_of others
  with_found-keys tid None others h = absurd (cc)
  with_found-keys tid (Some v) others h = refl

  with_found-length : (tid : ℕ) (o : Option T) (others : List (ℕ × T)) → IsSome o →
      length (with_found tid o others) ≡ suc (length others)
  with_found-length tid None others h = absurd (cc)
  with_found-length tid (Some v) others h = refl

  with_found-remove : (test : ℕ → Bool) (tid : ℕ) (o : Option T) (others : List (ℕ × T)) → IsSome o →
      remove_entry test (with_found tid o others) ≡ cond (test tid) others (with_found tid o (remove_entry test others))
  with_found-remove test tid None others h = absurd (cc)
  with_found-remove test tid (Some v) others h = refl

  with_found-set : (test : ℕ → Bool) (tid : ℕ) (o : Option T) (others : List (ℕ × T)) (w : T) → IsSome o →
      set_value test (with_found tid o others) w ≡ cond (test tid) ((tid, w) ∷ others)
      (with_found tid o (set_value test others w))
  with_found-set test tid None others w h = absurd (cc)
  with_found-set test tid (Some v) others w h = refl

  with_found-insert : (tid k : ℕ) (o : Option T) (others : List (ℕ × T)) (v : T) → IsSome o →
      insert_entry nat_cmp (with_found k o others) tid v ≡ match_ordering (nat_cmp tid k)
      ((tid, v) ∷ with_found k o others) ((k, v) ∷ others) (with_found k o (insert_entry nat_cmp others tid v))
  with_found-insert tid k None others v h = absurd (cc)
  with_found-insert tid k (Some u) others v h = refl

  -- the list has as many entries as the index
  pub joined-length : (index : List (ℕ × ℕ)) (slots : Slab T) → IsJoined index slots →
      length (joined index slots) ≡ length index
  joined-length [] slots h = refl
  joined-length (e ∷ index) slots h =
      with_found-length e.0 (get slots e.1) (joined index slots) h.0 ∙ ap suc (joined-length index slots h.2)

  -- and its keys
  pub joined-keys : (index : List (ℕ × ℕ)) (slots : Slab T) → IsJoined index slots →
      keys_of (joined index slots) ≡ keys_of index
  joined-keys [] slots h = refl
  joined-keys (e ∷ index) slots h =
      with_found-keys e.0 (get slots e.1) (joined index slots) h.0 ∙ ap (λ ks. e.0 ∷ ks) (joined-keys index slots h.2)

  -- a look-up of an identifier finds what the slab has under its key
  found_there : (b : Bool) (k key : ℕ) (m : Option ℕ) (l : Option T) (slots : Slab T) →
      (m ≡ Some key → l ≡ get slots key) → cond b (Some k) m ≡ Some key → cond b (get slots k) l ≡ get slots key
  found_there b k key m l slots more found = search rules

  -- a key that is found in the index has its transfer
  pub joined-lookup : (test : ℕ → Bool) (index : List (ℕ × ℕ)) (slots : Slab T) (key : ℕ) → IsJoined index slots →
      lookup test index ≡ Some key → lookup test (joined index slots) ≡ get slots key
  joined-lookup test [] slots key h found = absurd (cc)
  joined-lookup test (e ∷ index) slots key h found =
      with_found-lookup test e.0 (get slots e.1) (joined index slots) h.0
      ∙ found_there (test e.0) e.1 key (lookup test index) (lookup test (joined index slots)) slots
      (joined-lookup test index slots key h.2) found

  absent_there : (b : Bool) (k : ℕ) (m : Option ℕ) (o l : Option T) → (m ≡ None → l ≡ None) → cond b (Some k) m ≡ None →
      cond b o l ≡ None
  absent_there true k m o l more found = absurd (cc)
  absent_there false k m o l more found = more found

  -- one that is not has none
  pub joined-absent : (test : ℕ → Bool) (index : List (ℕ × ℕ)) (slots : Slab T) → IsJoined index slots →
      lookup test index ≡ None → lookup test (joined index slots) ≡ None
  joined-absent test [] slots h found = refl
  joined-absent test (e ∷ index) slots h found =
      with_found-lookup test e.0 (get slots e.1) (joined index slots) h.0
      ∙ absent_there (test e.0) e.1 (lookup test index) (get slots e.1) (lookup test (joined index slots))
      (joined-absent test index slots h.2) found

  -- the list and the index have the same identifiers
  has_there : (b : Bool) (k : ℕ) (m : Option ℕ) (o l : Option T) → IsSome o → is_some l ≡ is_some m →
      is_some (cond b o l) ≡ is_some (cond b (Some k) m)
  has_there true k m o l here more = here
  has_there false k m o l here more = more

  -- a key is in both or in neither
  pub joined-has : (test : ℕ → Bool) (index : List (ℕ × ℕ)) (slots : Slab T) → IsJoined index slots →
      is_some (lookup test (joined index slots)) ≡ is_some (lookup test index)
  joined-has test [] slots h = refl
  joined-has test (e ∷ index) slots h =
      ap is_some (with_found-lookup test e.0 (get slots e.1) (joined index slots) h.0)
      ∙ has_there (test e.0) e.1 (lookup test index) (get slots e.1) (lookup test (joined index slots)) h.0
      (joined-has test index slots h.2)

  present_there : (b : Bool) (k key : ℕ) (m : Option ℕ) (slots : Slab T) → IsSome (get slots k) →
      (m ≡ Some key → IsSome (get slots key)) → cond b (Some k) m ≡ Some key → IsSome (get slots key)
  present_there b k key m slots here more found = search rules

  -- a key in the index has a value
  pub joined-present : (test : ℕ → Bool) (index : List (ℕ × ℕ)) (slots : Slab T) (key : ℕ) → IsJoined index slots →
      lookup test index ≡ Some key → IsSome (get slots key)
  joined-present test [] slots key h found = absurd (cc)
  joined-present test (e ∷ index) slots key h found =
      present_there (test e.0) e.1 key (lookup test index) slots h.0 (joined-present test index slots key h.2) found

  -- a vacant key is free
  pub vacant_is_free : (index : List (ℕ × ℕ)) (slots : Slab T) (key : ℕ) → IsJoined index slots → get slots key ≡ None →
      IsFree key index
  vacant_is_free [] slots key h vacant = tt
  vacant_is_free (e ∷ index) slots key h vacant =
      search (rules, vacant_is_free index slots key h.2 vacant)

  -- a change under a free key changes nothing
  pub joined-apart : (index : List (ℕ × ℕ)) (old new : Slab T) (key : ℕ) (slot : Option T) → Updates old new key slot →
      IsFree key index → joined index new ≡ joined index old
  joined-apart [] old new key slot updates free = refl
  joined-apart (e ∷ index) old new key slot updates free =
      ap (λ o. with_found e.0 o (joined index new)) (updates.others e.1 free.0)
      ∙ ap (λ xs. with_found e.0 (get old e.1) xs) (joined-apart index old new key slot updates free.1)

  -- a write to a free slot keeps them joined
  pub IsJoined-apart : (index : List (ℕ × ℕ)) (old new : Slab T) (key : ℕ) (slot : Option T) →
      Updates old new key slot → IsFree key index → IsJoined index old → IsJoined index new
  IsJoined-apart [] old new key slot updates free h = tt
  IsJoined-apart (e ∷ index) old new key slot updates free h =
      (ap is_some (updates.others e.1 free.0) ∙ h.0, h.1, IsJoined-apart index old new key slot updates free.1 h.2)

  -- ---- an insertion
  joins-inserted : (o : Ordering) (tid key : ℕ) (e : ℕ × ℕ) (index more : List (ℕ × ℕ)) (new : Slab T) →
      IsSome (get new key) → IsFree key (e ∷ index) → IsJoined (e ∷ index) new → IsFree e.1 more → IsJoined more new →
      IsJoined (match_ordering o ((tid, key) ∷ e ∷ index) ((e.0, key) ∷ index) (e ∷ more)) new
  joins-inserted o tid key e index more new here free h apart rest = search rules

  IsJoined-inserted : (index : List (ℕ × ℕ)) (new : Slab T) (tid key : ℕ) → IsSome (get new key) → IsFree key index →
      IsJoined index new → IsJoined (insert_entry nat_cmp index tid key) new
  IsJoined-inserted [] new tid key here free h = (here, tt, tt)
  IsJoined-inserted (e ∷ index) new tid key here free h =
      joins-inserted (nat_cmp tid e.0) tid key e index _ new here free h
      (IsFree-insert index tid e.1 key (λ same. free.0 (sym same)) h.1)
      (IsJoined-inserted index new tid key here free.1 h.2)

  -- an insertion keeps them joined
  pub IsJoined-insert : (index : List (ℕ × ℕ)) (old new : Slab T) (tid key : ℕ) (v : T) → IsJoined index old →
      get old key ≡ None → Updates old new key (Some v) → IsJoined (insert_entry nat_cmp index tid key) new
  IsJoined-insert index old new tid key v h vacant updates =
      search (rules, vacant_is_free, IsJoined-inserted, IsJoined-apart)

  match-joined : (o : Ordering) (tid key : ℕ) (v : T) (e : ℕ × ℕ) (index more : List (ℕ × ℕ)) (new : Slab T) →
      get new key ≡ Some v → joined (match_ordering o ((tid, key) ∷ e ∷ index) ((e.0, key) ∷ index) (e ∷ more)) new
      ≡ match_ordering o ((tid, v) ∷ joined (e ∷ index) new) ((e.0, v) ∷ joined index new)
      (with_found e.0 (get new e.1) (joined more new))
  match-joined o tid key v e index more new here = search rules

  joined-inserted : (index : List (ℕ × ℕ)) (new : Slab T) (tid key : ℕ) (v : T) → get new key ≡ Some v →
      IsJoined index new → joined (insert_entry nat_cmp index tid key) new ≡ insert_entry nat_cmp (joined index new) tid
      v
  joined-inserted [] new tid key v here h = ap (λ o. with_found tid o []) here
  joined-inserted (e ∷ index) new tid key v here h =
      search (rules, match-joined, with_found-insert, joined-inserted index new tid key v here h.2)

  -- and inserts into the list
  pub joined-insert : (index : List (ℕ × ℕ)) (old new : Slab T) (tid key : ℕ) (v : T) → IsJoined index old →
      get old key ≡ None → Updates old new key (Some v) →
      joined (insert_entry nat_cmp index tid key) new ≡ insert_entry nat_cmp (joined index old) tid v
  joined-insert index old new tid key v h vacant updates =
      let free = vacant_is_free index old key h vacant in
      joined-inserted index new tid key v updates.changed (IsJoined-apart index old new key (Some v) updates free h)
      ∙ ap (λ xs. insert_entry nat_cmp xs tid v) (joined-apart index old new key (Some v) updates free)

  -- ---- a removal
  removed_is_free : (test : ℕ → Bool) (index : List (ℕ × ℕ)) (slots : Slab T) (key : ℕ) → IsJoined index slots →
      lookup test index ≡ Some key → IsFree key (remove_entry test index)
  removed_is_free test [] slots key h found = absurd (cc)
  removed_is_free test (e ∷ index) slots key h found =
      removed_at (test e.0) key e index _ (lookup test index) h.1 (removed_is_free test index slots key h.2)
      (λ m same. found_differs test index key e.1 h.1 m (sym same)) found

  joins-removed : (b : Bool) (e : ℕ × ℕ) (index more : List (ℕ × ℕ)) (slots : Slab T) → IsJoined (e ∷ index) slots →
      IsFree e.1 more → IsJoined more slots → IsJoined (cond b index (e ∷ more)) slots
  joins-removed b e index more slots h free rest = search rules

  IsJoined-removed : (test : ℕ → Bool) (index : List (ℕ × ℕ)) (slots : Slab T) → IsJoined index slots →
      IsJoined (remove_entry test index) slots
  IsJoined-removed test [] slots h = tt
  IsJoined-removed test (e ∷ index) slots h =
      joins-removed (test e.0) e index _ slots h (IsFree-remove test index e.1 h.1)
      (IsJoined-removed test index slots h.2)

  -- a removal keeps them joined
  pub IsJoined-remove : (test : ℕ → Bool) (index : List (ℕ × ℕ)) (old new : Slab T) (key : ℕ) → IsJoined index old →
      lookup test index ≡ Some key → Updates old new key None → IsJoined (remove_entry test index) new
  IsJoined-remove test index old new key h found updates =
      search (rules, IsJoined-apart, removed_is_free, IsJoined-removed)

  cond-joined : (b : Bool) (e : ℕ × ℕ) (index more : List (ℕ × ℕ)) (slots : Slab T) →
      joined (cond b index (e ∷ more)) slots ≡ cond b (joined index slots)
      (with_found e.0 (get slots e.1) (joined more slots))
  cond-joined true e index more slots = refl
  cond-joined false e index more slots = refl

  joined-removed : (test : ℕ → Bool) (index : List (ℕ × ℕ)) (slots : Slab T) → IsJoined index slots →
      joined (remove_entry test index) slots ≡ remove_entry test (joined index slots)
  joined-removed test [] slots h = refl
  joined-removed test (e ∷ index) slots h =
      search (rules, cond-joined, with_found-remove, joined-removed test index slots h.2)

  -- and removes from the list
  pub joined-remove : (test : ℕ → Bool) (index : List (ℕ × ℕ)) (old new : Slab T) (key : ℕ) → IsJoined index old →
      lookup test index ≡ Some key → Updates old new key None →
      joined (remove_entry test index) new ≡ remove_entry test (joined index old)
  joined-remove test index old new key h found updates =
      joined-apart _ _ _ _ _ updates (removed_is_free _ _ _ _ h found) ∙ joined-removed test _ _ h

  -- ---- a write
  cond-apart : (b : Bool) (tid key : ℕ) (e : ℕ × ℕ) (w : T) (index : List (ℕ × ℕ)) (old new : Slab T) (m : Option ℕ)
      (rest : List (ℕ × T)) → Updates old new key (Some w) → IsFree e.1 index → (m ≡ Some key → key ≢ e.1) →
      (m ≡ Some key → joined index new ≡ rest) → cond b (Some e.1) m ≡ Some key →
      with_found e.0 (get new e.1) (joined index new) ≡ cond b ((e.0, w) ∷ joined index old)
      (with_found e.0 (get old e.1) rest)
  cond-apart b tid key e w index old new m rest updates free differs more found =
      search (rules, joined-apart)

  -- a write under a key writes that entry
  pub joined-write : (test : ℕ → Bool) (index : List (ℕ × ℕ)) (old new : Slab T) (key : ℕ) (w : T) →
      IsJoined index old → lookup test index ≡ Some key → Updates old new key (Some w) →
      joined index new ≡ set_value test (joined index old) w
  joined-write test [] old new key w h found updates = absurd (cc)
  joined-write test (e ∷ index) old new key w h found updates =
      cond-apart (test e.0) e.0 key e w index old new (lookup test index) (set_value test (joined index old) w) updates
      h.1
      (found_differs test index key e.1 h.1) (λ m. joined-write test index old new key w h.2 m updates) found
      ∙ sym (with_found-set test e.0 (get old e.1) (joined index old) w h.0)

  -- ---- slots with equal values
  -- the same slots give the same list
  pub joined-same : (index : List (ℕ × ℕ)) (old new : Slab T) → new.slots ≡ old.slots →
      joined index new ≡ joined index old
  joined-same [] old new same = refl
  joined-same (e ∷ index) old new same = search (rules, joined-same index old new same)

  -- the same slots stay joined
  pub IsJoined-same : (index : List (ℕ × ℕ)) (old new : Slab T) → new.slots ≡ old.slots → IsJoined index old →
      IsJoined index new
  IsJoined-same [] old new same h = tt
  IsJoined-same (e ∷ index) old new same h =
      (ap (λ s. is_some (get_or s e.1 None)) same ∙ h.0, h.1, IsJoined-same index old new same h.2)

  -- an update, for a key that is said by an equation
  pub updates_at : (old new : Slab T) (key at : ℕ) (slot : Option T) → at ≡ key → Updates old new at slot →
      Updates old new key slot
  updates_at old new key at slot same updates = subst (λ (k : ℕ). Updates old new k slot) same updates

  -- ---- the new index as a list
  -- the same index and slots stay joined
  pub IsJoined-kept : (index after : List (ℕ × ℕ)) (old new : Slab T) → after ≡ index → new.slots ≡ old.slots →
      IsJoined index old → IsJoined after new
  IsJoined-kept index after old new same slots h = search (rules, IsJoined-same)

  -- the same index and slots are the same list
  pub joined-kept : (index after : List (ℕ × ℕ)) (old new : Slab T) → after ≡ index → new.slots ≡ old.slots →
      joined after new ≡ joined index old
  joined-kept index after old new same slots = ap (λ es. joined es new) same ∙ joined-same index old new slots

  -- `IsJoined-insert`, by equations
  pub IsJoined-after_insert : (index after : List (ℕ × ℕ)) (old mid new : Slab T) (tid key : ℕ) (v : T) →
      after ≡ insert_entry nat_cmp index tid key → mid.slots ≡ old.slots → IsJoined index old → get mid key ≡ None →
      Updates mid new key (Some v) → IsJoined after new
  IsJoined-after_insert index after old mid new tid key v same slots h vacant updates =
      search (rules, IsJoined-insert, IsJoined-same)

  -- `joined-insert`, by equations
  pub joined-after_insert : (index after : List (ℕ × ℕ)) (old mid new : Slab T) (tid key : ℕ) (v : T) →
      after ≡ insert_entry nat_cmp index tid key → mid.slots ≡ old.slots → IsJoined index old → get mid key ≡ None →
      Updates mid new key (Some v) → joined after new ≡ insert_entry nat_cmp (joined index old) tid v
  joined-after_insert index after old mid new tid key v same slots h vacant updates =
      search (rules, joined-insert, IsJoined-same, joined-same)

  -- `IsJoined-remove`, by equations
  pub IsJoined-after_remove : (test : ℕ → Bool) (index after : List (ℕ × ℕ)) (old new : Slab T) (key : ℕ) →
      after ≡ remove_entry test index → IsJoined index old → lookup test index ≡ Some key → Updates old new key None →
      IsJoined after new
  IsJoined-after_remove test index after old new key same h found updates =
      subst (λ (es : List (ℕ × ℕ)). IsJoined es new) (sym same) (IsJoined-remove test index old new key h found updates)

  -- `joined-remove`, by equations
  pub joined-after_remove : (test : ℕ → Bool) (index after : List (ℕ × ℕ)) (old new : Slab T) (key : ℕ) →
      after ≡ remove_entry test index → IsJoined index old → lookup test index ≡ Some key → Updates old new key None →
      joined after new ≡ remove_entry test (joined index old)
  joined-after_remove test index after old new key same h found updates = search (rules, joined-remove)

  remove_nothing_there : (b : Bool) (e : ℕ × T) (es more : List (ℕ × T)) (m : Option T) → (m ≡ None → more ≡ es) →
      cond b (Some e.1) m ≡ None → cond b es (e ∷ more) ≡ e ∷ es
  remove_nothing_there b e es more m rest found = search rules

  -- to remove a key that is not there changes nothing
  pub remove_nothing : (test : ℕ → Bool) (es : List (ℕ × T)) → lookup test es ≡ None → remove_entry test es ≡ es
  remove_nothing test [] found = refl
  remove_nothing test (e ∷ es) found =
      remove_nothing_there (test e.0) e es _ (lookup test es) (remove_nothing test es) found

  -- ---- a write through a borrow, under the key of an identifier or under a vacant key
  others_kept : (s : Slab T) (key other : ℕ) (w : T) → other ≢ key → get (with_value s key w) other ≡ get s other
  others_kept s key other w differs = get_or-set_other s.slots key other (Some w) None differs

  has_still : (s : Slab T) (key k : ℕ) (w : T) → IsSome (get s k) → IsSome (get (with_value s key w) k)
  has_still s key k w here = grind (arith, common_steps)

  -- a slot that was lent keeps them joined
  pub IsJoined-lent : (index : List (ℕ × ℕ)) (s : Slab T) (key : ℕ) (w : T) → IsJoined index s →
      IsJoined index (with_value s key w)
  IsJoined-lent [] s key w h = tt
  IsJoined-lent (e ∷ index) s key w h = (has_still s key e.1 w h.0, h.1, IsJoined-lent index s key w h.2)

  joined-free : (index : List (ℕ × ℕ)) (s : Slab T) (key : ℕ) (w : T) → IsFree key index →
      joined index (with_value s key w) ≡ joined index s
  joined-free [] s key w free = refl
  joined-free (e ∷ index) s key w free = search (rules, others_kept, joined-free index s key w free.1)

  set_nothing_there : (b : Bool) (e : ℕ × T) (es more : List (ℕ × T)) (w : T) (m : Option T) → (m ≡ None → more ≡ es) →
      cond b (Some e.1) m ≡ None → cond b ((e.0, w) ∷ es) (e ∷ more) ≡ e ∷ es
  set_nothing_there b e es more w m rest found = search rules

  set_nothing : (test : ℕ → Bool) (es : List (ℕ × T)) (w : T) → lookup test es ≡ None → set_value test es w ≡ es
  set_nothing test [] w found = refl
  set_nothing test (e ∷ es) w found =
      set_nothing_there (test e.0) e es _ w (lookup test es) (set_nothing test es w) found

  -- what is lent under a key is that entry
  pub joined-lent_for : (test : ℕ → Bool) (index : List (ℕ × ℕ)) (s : Slab T) (key : ℕ) (w : T) (found : Option ℕ) →
      IsJoined index s → lookup test index ≡ found → IsKeyFor found key s →
      joined index (with_value s key w) ≡ set_value test (joined index s) w
  joined-lent_for test index s key w None h looked vacant =
      joined-free index s key w (vacant_is_free index s key h vacant)
      ∙ sym (set_nothing test (joined index s) w (joined-absent test index s h looked))
  joined-lent_for test index s key w (Some found) h looked same =
      let at : lookup test index ≡ Some key = looked ∙ ap Some (sym same) in
      joined-write test index s (with_value s key w) key w h at
      (Updates-with_value s key w (joined-present test index s key h at))

  -- what is found under a key, for either result of the look-up
  pub joined-lookup_for : (test : ℕ → Bool) (index : List (ℕ × ℕ)) (s : Slab T) (key : ℕ) (found : Option ℕ) →
      IsJoined index s → lookup test index ≡ found → IsKeyFor found key s → get s key ≡ lookup test (joined index s)
  joined-lookup_for test index s key found h looked h7 = search (rules, joined-absent, joined-lookup)

  -- ---- reserved capacity for a value at an identifier that holds none
  -- a key that the list has not is not in the index
  pub index_absent : (test : ℕ → Bool) (index : List (ℕ × ℕ)) (s : Slab T) → IsJoined index s →
      lookup test (joined index s) ≡ None → lookup test index ≡ None
  index_absent test index s h none = by (lookup test index) refl
    where
      by : (m : Option ℕ) → lookup test index ≡ m → m ≡ None
      by None e = refl
      by (Some k) e =
          let here : IsSome (get s k) = joined-present test index s k h e in
          let gone : get s k ≡ None = sym (joined-lookup test index s k h e) ∙ none in
          absurd (cc)
