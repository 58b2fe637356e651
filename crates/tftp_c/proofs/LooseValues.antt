-- A `Loose` as the machine has it: a pointer, and the bits of its allocator.
use Rattle.tftp_c.proofs.Common.{◌≡◌, List, [], ◌∷◌, ◌++◌, refl, subst, T, Ura, impl, tnil, dnil, Val, vptr, vstruct}
use Rattle.tftp_c.proofs.Common.{vcons, vnil, of_list, Fml, never, fst∗, Logic, sem, Item, Goal, Seq, Step, step, ‵}
use Rattle.tftp_c.proofs.Common.{◌$◌, move, drop, fsplit, fjoin, fpick, fpack, feq_i, feq_l, RattleType, Valss, RawPtr}
use Rattle.tftp_c.proofs.Common.{Ptr, block_ptr, null_ptr, ptr_val, in_a_block, nothing, within, shape, Al}
use Rattle.tftp_c.proofs.Common.{handle_tells, box_owns}
use Rattle.std.proofs.Common.{ℕ}
use mathlib.Core.Bool.{true, ◌&&◌}
use mir.Raw.{raw as bare}
use mir.Val.{has_ty, WT}
use denote.Memory.{lone}
use denote.Param.{layout}
use denote.Param.Laws.{Laws}
use Rattle.core.specs.declared.alloc.Allocator.{Ghosts}
use Rattle.core.proofs.cell.Inside.{Good}
use Rattle.std_alloc.proofs.ResultValues.{and_tt}
use Rattle.tftp_c.specs.contracts.loose.Loose as loose

abbrev pub parts : Val → Val → Val
parts at handle = vstruct (vcons at (vcons handle vnil))

module _ (R Z : RattleType) (laws : Laws Z) (g : Ghosts Z.Denot) where
  abbrev pub Row : RattleType
  Row = loose.the_row R Z g

  abbrev allocator : Al
  allocator =
      record { row = Z; laws = laws; g = g; d = impl [] tnil dnil; drops = impl [] tnil dnil }

  -- the block of the value, and the right to free it
  abbrev pub block : Z.Denot → R.Denot → Ptr → Fml
  block a x p = box_owns (g.dealloc_token a) R p x

  pub typed : (b o : ℕ) (h : Val) →
      Good (layout Z) h → T (has_ty (layout Z) h && true) × WT (parts (vptr b o) h)
  typed b o h good = (and_tt (has_ty (layout Z) h) good.0, (tt, (good.1, tt)))

  module _ {M : Type 1} {𝓤 : Ura M} {𝓛 : Logic 𝓤} {K : Type 0} {Γ : List (Item 𝓤)}
      {G : Goal 𝓤 𝓛.H} where
    -- what owns a `Loose` owns the block and the allocator
    pub apart : K → (d : Row.Denot) (vs : List Val)
        → ((b o : ℕ) (h : Val) → d.at ≡ block_ptr b o → vs ≡ parts (vptr b o) h ∷ []
        → Good (layout Z) h
        → Seq K 𝓛 (‵ (block d.alloc d.value (block_ptr b o)) ∷ ‵ (Z.own_val d.alloc (h ∷ [])) ∷ Γ) G)
        → Seq K 𝓛 (‵ (Row.own_val d vs) ∷ Γ) G
    apart t d vs rest =
        let a = d.alloc in
        fsplit t $ fpick t (λ words. fsplit t $
        feq_l t (λ whole. fsplit t $ feq_l t (λ first. fsplit t $
        handle_tells allocator t a words.1.0 (λ h second good.
        move t (1 ∷ []) $ drop t $ move t (1 ∷ []) $
        in_a_block t d.at (block a d.value)
        (fst∗ 𝓤 (never 𝓤) (sem 𝓛 (g.dealloc_token a (bare (lone R.mir)) null_ptr))) (λ b o e.
        let at : vs ≡ vstruct (of_list (ptr_val d.at ∷ (words.1.0 ++ []))) ∷ [] =
        subst (λ (ps : List Val). vs ≡ vstruct (of_list (ps ++ (words.1.0 ++ []))) ∷ []) first
        whole in
        let both : vs ≡ vstruct (of_list (ptr_val d.at ∷ h ∷ [])) ∷ [] =
        subst (λ (hs : List Val). vs ≡ vstruct (of_list (ptr_val d.at ∷ (hs ++ []))) ∷ [])
        second at in
        rest b o h e
        (subst (λ (p : Ptr). vs ≡ vstruct (of_list (ptr_val p ∷ h ∷ [])) ∷ []) e both) good)))))

    -- and the other way round
    pub together : K → (b o : ℕ) (h : Val) (a : Z.Denot) (x : R.Denot) →
        Step K 𝓛
        (‵ (Row.own_val (record { at = block_ptr b o; alloc = a; value = x })
        (parts (vptr b o) h ∷ [])) ∷ Γ)
        G (‵ (block a x (block_ptr b o)) ∷ ‵ (Z.own_val a (h ∷ [])) ∷ Γ) G
    together t b o h a x =
        step (λ rest. let v : Val = parts (vptr b o) h in
        nothing t $ move t (2 ∷ 0 ∷ []) $ fjoin t $
        feq_i t (List Val) (vptr b o ∷ []) (vptr b o ∷ []) refl $ fjoin t $
        feq_i t (List Val) (v ∷ []) (v ∷ []) refl $ fjoin t $
        fpack t (Valss (RawPtr ∷ Z ∷ []))
        (within (shape (loose.the_type R Z g)) (block_ptr b o, (a, tt)) (v ∷ []))
        (vptr b o ∷ [], (h ∷ [], tt)) $ fjoin t $ rest)
