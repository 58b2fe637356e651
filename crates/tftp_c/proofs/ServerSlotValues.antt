-- The machine value of a `ServerSlot`.
use Rattle.tftp_c.proofs.Common.{◌≡◌, List, [], ◌∷◌, ◌++◌, refl, subst, not, T, Ura, Val, vstruct, vcons, vnil, of_list}
use Rattle.tftp_c.proofs.Common.{Logic, Item, Goal, Seq, Step, step, ‵, ◌$◌, drop, fsplit, fjoin, fpick, fpack, feq_i}
use Rattle.tftp_c.proofs.Common.{feq_l, Valss, RawPtr, Ptr, ptr_val, nothing, within, shape, Option, Some, None, IsSome}
use Rattle.tftp_c.proofs.Common.{owned_at}
use mathlib.Core.Bool.{Bool}
use Rattle.tftp_c.specs.contracts.held_server.HeldServer as held_server
use Rattle.tftp_c.specs.contracts.server_slot.ServerSlot as slot

pub some_is : {A : Type 0} (o : Option A) → IsSome o → (x : A) × (o ≡ Some x)
some_is (Some x) some = (x, refl)
some_is None some = absurd (subst (λ (b : Bool). T (not b)) some tt)

abbrev pub lone : Ptr → Val
lone p = vstruct (vcons (ptr_val p) vnil)

module _ {M : Type 1} {𝓤 : Ura M} {𝓛 : Logic 𝓤} {K : Type 0} {Γ : List (Item 𝓤)} {G : Goal 𝓤 𝓛.H} where
  pub slot_out : K → (d : slot.the_row.Denot) (vs : List Val)
      → (vs ≡ lone d.at ∷ [] → Seq K 𝓛 (‵ (owned_at held_server.the_row d.at d.value) ∷ Γ) G)
      → Seq K 𝓛 (‵ (slot.the_row.own_val d vs) ∷ Γ) G
  slot_out t d vs k =
      fsplit t $ fpick t (λ vss. fsplit t $ feq_l t (λ ev. fsplit t $ feq_l t (λ ep. drop t $
      k (subst (λ (ps : List Val). vs ≡ vstruct (of_list (ps ++ [])) ∷ []) ep ev))))

  pub slot_in : K → (p : Ptr) (x : Option held_server.the_row.Denot)
      → Step K 𝓛 (‵ (slot.the_row.own_val (record { at = p; value = x }) (lone p ∷ [])) ∷ Γ) G (‵ (owned_at held_server.the_row p x) ∷ Γ) G
  slot_in t p x = step (λ s.
      nothing t $ feq_i t (List Val) (ptr_val p ∷ []) (ptr_val p ∷ []) refl $ fjoin t $ feq_i t (List Val) (lone p ∷ []) (lone p ∷ []) refl $ fjoin t $
      fpack t (Valss (RawPtr ∷ [])) (within (shape slot.the_type) (p, tt) (lone p ∷ [])) (ptr_val p ∷ [], tt) $ fjoin t $ s)
