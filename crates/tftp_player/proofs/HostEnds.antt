-- The ends of a world as a list, with their records, and what a step of one end leaves. For `Ends`' calls and five other
-- files.
use Rattle.tftp_player.proofs.Common.{◌≡◌, ℕ, zero, suc, ◌+◌, ◌<◌, Bool, false, List, [], ◌∷◌, ◌++◌, length, Some, refl}
use Rattle.tftp_player.proofs.Common.{sym, ap, ◌∙◌, subst, arith, rules, slice_get, slice_set, slice_index_or}
use Rattle.tftp_player.proofs.Common.{same_Some, Record, Endpoint, EndTakes, records_from, PlayedServer}
use Rattle.tftp_player.proofs.Common.{ArePartsConsistent, world_of, StoredFile, WorldEnd, end_address, end_record}
use Rattle.tftp_player.proofs.Common.{Effect, EndTimesOut}
use Rattle.std.proofs.lemmas.Option.{slice_get_read}
use Rattle.tftp_player.proofs.SentLemmas.{records_count}
use Rattle.tftp_player.proofs.WorldTurns.{ports_set, ports_push}

-- what an index reads
pub list_get : {A : Type 0} (xs : List A) (k : ℕ) (x : A) → k < length xs → x ≡ slice_index_or xs k x →
    slice_get xs k ≡ Some x
list_get xs k x within e = slice_get_read xs (length xs) k x refl within e

-- an element that is written where it is
pub same_set : {A : Type 0} (xs : List A) (k : ℕ) (x : A) → slice_get xs k ≡ Some x → slice_set xs k x ≡ xs
same_set [] k x e = refl
same_set (y ∷ xs) zero x e = ap (λ z. z ∷ xs) (sym (same_Some y x e))
same_set (y ∷ xs) (suc k) x e = ap (λ zs. y ∷ zs) (same_set xs k x e)

-- ---- the records
-- a new end at an index has its record there
pub records_set : (port : ℕ) (ends : List WorldEnd) (k : ℕ) (y : WorldEnd) →
    records_from port (slice_set ends k y) ≡ slice_set (records_from port ends) k (port + k, end_record y)
records_set port [] k y = refl
records_set port (x ∷ ends) zero y =
    let here : port ≡ port + zero = omega arith in
    ap (λ (n : ℕ). (n, end_record y) ∷ records_from (port + 1) ends) here
records_set port (x ∷ ends) (suc k) y =
    let there : port + 1 + k ≡ port + suc k = omega arith in
    ap (λ (rs : List (ℕ × Record)). (port, end_record x) ∷ rs) (records_set (port + 1) ends k y)
    ∙ ap (λ (n : ℕ). (port, end_record x) ∷ slice_set (records_from (port + 1) ends) k (n, end_record y)) there

-- one more end has its record
records_push : (port : ℕ) (ends : List WorldEnd) (x : WorldEnd) →
    records_from port (ends ++ x ∷ []) ≡ records_from port ends ++ (port + length ends, end_record x) ∷ []
records_push port [] x = let here : port ≡ port + zero = omega arith in ap (λ (n : ℕ). (n, end_record x) ∷ []) here
records_push port (y ∷ ends) x =
    let there : port + 1 + length ends ≡ port + suc (length ends) = omega arith in
    ap (λ (rs : List (ℕ × Record)). (port, end_record y) ∷ rs) (records_push (port + 1) ends x)
    ∙ ap (λ (n : ℕ). (port, end_record y) ∷ (records_from (port + 1) ends ++ (n, end_record x) ∷ [])) there

-- ---- a step of one end
-- an end stays at its endpoint in a timeout, and in a datagram
pub stays_at : (x y : WorldEnd) (effect : Effect) → EndTimesOut x y effect → end_address y ≡ end_address x
stays_at x y effect t = search rules

pub takes_at : (overwrite : Bool) (from : Endpoint) (bytes : List ℕ) (x y : WorldEnd) (files files' : List StoredFile)
    (effect : Effect) → EndTakes overwrite from bytes x y files files' effect → end_address y ≡ end_address x
takes_at overwrite from bytes x y files files' effect t = search rules

module _ (before after : PlayedServer) (ends : List WorldEnd) (records : List (ℕ × Record))
    (consistent : ArePartsConsistent before ends records) (empty : after.held ≡ before.held)
    (quiet : after.store.refuses ≡ false) where
  -- the ends are consistent after a step of one
  pub moved_consistent : (index : ℕ) (x y : WorldEnd) (r : Record) → slice_get ends index ≡ Some x →
      end_address y ≡ end_address x → r ≡ end_record y →
      ArePartsConsistent after (slice_set ends index y) (slice_set records index (1024 + index, r))
  moved_consistent index x y r there same is = assumption (
    ap (λ (rs : List (ℕ × Record)). slice_set rs index (
      1024 +
          index,
      r,
    )) consistent.recorded ∙ (ap (λ (q : Record). slice_set (records_from 1024 ends) index (1024 + index, q))
        is ∙ sym (records_set 1024 ends index y)),
    ports_set (world_of before.config [] before ends) index x y
        consistent.ports there same,
    empty ∙ consistent.empty,
  )

  -- and with one more
  pub pushed_consistent : (port : ℕ) (x : WorldEnd) (r : Record) → port ≡ 1024 + length ends →
      (end_address x).port ≡ port → r ≡ end_record x →
      ArePartsConsistent after (ends ++ x ∷ []) (records ++ (port, r) ∷ [])
  pushed_consistent port x r next at is = assumption (
    ap (λ (rs : List (ℕ × Record)). rs ++ (port, r) ∷ [])
        consistent.recorded ∙ (ap (λ (n : ℕ). records_from 1024 ends ++ (n, r) ∷ []) next ∙ (ap (λ (q : Record).
        records_from 1024 ends ++ (1024 + length ends, q) ∷ []) is ∙ sym (records_push 1024 ends x))),
    ports_push
        (world_of before.config [] before ends) x consistent.ports (at ∙ next),
    empty ∙ consistent.empty,
  )

  -- the same, by equations
  pub pushed_so : (port : ℕ) (x : WorldEnd) (r : Record) (ends0 ends1 : List WorldEnd)
      (records0 records1 : List (ℕ × Record)) → port ≡ 1024 + length ends → (end_address x).port ≡ port →
      r ≡ end_record x → ends0 ≡ ends → ends1 ≡ ends0 ++ x ∷ [] → records0 ≡ records →
      records1 ≡ records0 ++ (port, r) ∷ [] → ArePartsConsistent after ends1 records1
  pushed_so port x r ends0 ends1 records0 records1 next at is a b c d =
      rw ((b ∙ ap (λ (es : List WorldEnd). es ++ x ∷ []) a)) (subst (ArePartsConsistent after (ends ++ x ∷ [])) (sym (d
      ∙ ap (λ (rs : List (ℕ × Record)). rs ++ (port, r) ∷ []) c)) (pushed_consistent port x r next at is))

-- each end has its record
pub records_within : (server : PlayedServer) (ends : List WorldEnd) (records : List (ℕ × Record)) (index : ℕ) →
    ArePartsConsistent server ends records → index < length ends → index < length records
records_within server ends records index consistent within = search (rules, records_count)
