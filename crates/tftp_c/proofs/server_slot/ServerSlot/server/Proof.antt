-- `server` lends what is behind the pointer, and the slot follows it.
use Rattle.tftp_c.proofs.Common.{◌≡◌, List, [], ◌∷◌, refl, sym, subst, Val, vptr, Ura, ent, never, fst∗, id⊢, Fml}
use Rattle.tftp_c.proofs.Common.{ftrue, fsep, flft, Logic, sem, ‵, raw, ◌⊛◌, some, later, at_ret, ◌$◌, ◌∵◌, !, qed}
use Rattle.tftp_c.proofs.Common.{move, keep, use1, split, split3, join, fsplit, fjoin, fpack, pick, await, rewrite}
use Rattle.tftp_c.proofs.Common.{suffices, whole, sub, stop, fld, of_opd, first, blocks, exec, returns, enter}
use Rattle.tftp_c.proofs.Common.{alloc_all, pass_all, free_all, look_at, get, sets, env, fact, tables, no, RattleType}
use Rattle.tftp_c.proofs.Common.{Ptr, block_ptr, null_ptr, in_a_block, plain, nothing, heard, Stays, stay_dropped}
use Rattle.tftp_c.proofs.Common.{walk_of, Some, Option, IsSome, box_owns, owned_at}
use Rattle.std.proofs.Common.{ℕ, MutBor}
use mir.Syntax.{named}
use mir.Raw.{raw as bare}
use base.Fraction.{full_share}
use base.Logic.{sep}
use base.Fml.{GName}
use types.Kit.{done, fsplit3, frame, group}
use types.Part.{look_in}
use types.Run.{load, addr}
use types.ByLocal.{through, sets_last}
use denote.Follow.{follows, Part, lends_Part}
use denote.Memory.{lone as alone, part_at, part_of, mem, cell_at}
use denote.Ref.{MutRef, mut_vals, mut_Tells}
use denote.Signature.{mut_ref_to}
use denote.Steps.{opens}
use denote.Triple.Walked.{says, ends_at, Goes-spent_ref}
use Rattle.std.proofs.raw_atomic.Walks.{proved}
use Rattle.std.proofs.VecSteps.Shapes.{after}
use Rattle.libc.specs.Heap.{chunk}
use Rattle.tftp_c.specs.Lending.{with_server}
use Rattle.tftp_c.proofs.ServerSlotValues.{lone, slot_in, slot_out, some_is}
use Rattle.tftp_c.specs.contracts.server_slot.ServerSlot.server.{ended, clauses}
use Rattle.tftp_c.specs.contracts.server_slot.ServerSlot.server.Key.{name as #self}
use Rattle.tftp_c.proofs.server_slot.ServerSlot.server.Statement.{statement}
use Rattle.tftp_c.proofs.server_slot.ServerSlot.server.Code as code
use Rattle.tftp_c.specs.contracts.held_server.HeldServer as held_server
use Rattle.tftp_c.specs.contracts.server_slot.ServerSlot as slot

abbrev R : RattleType
R = held_server.the_row

abbrev S : RattleType
S = slot.the_row

abbrev stayed : Stays ended.signature.params ended.kept
stayed = (stay_dropped (mut_ref_to (0 ∷ []) tt (plain (λ _. S))) no, tt)

-- all of the slot but the server: the right to free its block, and the pointer
abbrev Rest : (b o rb ro : ℕ) → Fml
Rest b o rb ro =
    fsep (chunk (bare (alone R.mir)) (block_ptr b o)) (cell_at full_share S.mir (lone (block_ptr b o) ∷ []) rb ro)

module _ {M : Type 1} {𝓤 : Ura M} (𝓛 : Logic 𝓤) (h : S.Denot) (b o rb ro : ℕ) (is : h.at ≡ block_ptr b o) where
  back : (w : R.Denot) → ent 𝓤 (sep 𝓤 (sem 𝓛 ((mem R).own_at w b o)) (sem 𝓛 (Rest b o rb ro)))
      (sem 𝓛 ((mem S).own_at (with_server h w) rb ro))
  unfolding part_of
  back w =
      qed 𝓛 (‵ (part_at R full_share w b o) ∷ ‵ (Rest b o rb ro) ∷ []) ∵ move ! (1 ∷ []) $ fsplit ! $ move ! (2 ∷ 0 ∷ []) $ fjoin ! $
      slot_in ! (block_ptr b o) (Some w) $
      rewrite ! 0 (λ (p : Ptr). ‵ (S.own_val (record { at = p; value = Some w }) (lone (block_ptr b o) ∷ []))) (sym is) refl $
      move ! (1 ∷ 0 ∷ []) $ fjoin ! $
      fpack ! (List Val) (λ us. fsep (cell_at full_share S.mir us rb ro) (S.own_val (with_server h w) us)) (lone (block_ptr b o) ∷ []) $ done !

pub server_spec : {M : Type 1} → statement M
server_spec 𝓤 𝓛 𝓜 𝓡 wired =
    let H = 𝓛.H in let 𝓣 = tables 𝓤 H 𝓜 𝓡 𝓡.env in let c = clauses 𝓛 𝓜.mem 𝓡.returns in let W = walk_of 𝓛 ended stayed c in
    proved 𝓛 ended stayed c 𝓜 𝓡 (Goes-spent_ref 𝓛 1 (0 ∷ []) tt (plain (λ _. S)), tt) #self code.function (code.unfolded 𝓤 H 𝓜 𝓡 wired)
    (λ κs. (mut_vals, tt)) (λ κs. (mut_Tells (named 0) κs.0 S, tt)) (λ κs qs bounds a _ are.
    let κ = κs.0 in let q = qs.0 in let rb = a.0.ref_ptr.0 in let ro = a.0.ref_ptr.1 in let γ = a.0.ghost_name in let h = a.0.now in
    let vs = mut_vals a.0 in let y : W.Ghost = ((κs, qs, bounds, a, (vs, tt)), tt) in
    qed 𝓛 (((‵ (flft κ q) ⊛ ‵ ftrue) ⊛ ‵ ((MutRef (named 0) κ S).own_val a.0 vs) ⊛ ‵ ftrue) ∷ raw (fact 𝓤 (IsSome h.value)) ∷ []) ∵
    split ! $ split ! $ move ! (2 ∷ []) $ split ! $ keep ! (4 ∷ 0 ∷ 2 ∷ []) $ heard ! (IsSome h.value) (λ held.
    let x = (some_is h.value held).0 in let is_x = (some_is h.value held).1 in
    enter ! 𝓣.C 𝓣.Λ code.function vs (W.post y) $ alloc_all ! (λ l. pass_all ! refl ((tt, tt), tt) $
    fsplit3 ! $ move ! (1 ∷ 2 ∷ 3 ∷ []) $ opens ! tt S {h = h} rb ro (λ us. move ! (1 ∷ []) $ slot_out ! h us (λ ws.
    rewrite ! 0 (λ (v : Option R.Denot). ‵ (owned_at R h.at v)) is_x refl $
    in_a_block ! h.at (λ p. box_owns chunk R p x) (fst∗ 𝓤 (never 𝓤) (sem 𝓛 (chunk (bare (alone R.mir)) null_ptr))) (λ b o e.
    fsplit ! $
    let word = subst (λ (p : Ptr). us ≡ lone p ∷ []) e ws in
    rewrite ! 2 (λ (vs : List Val). ‵ (cell_at full_share S.mir vs rb ro)) word refl $
    -- [the server; the right to free; the slot's cell; the open borrow, in three entries]
    first ! $ blocks ! $
    sets ! (of_opd ! (load ! (through ! refl (fld ! refl (stop !))) (look_in ! 2 (sub ! 0 refl (whole !))))) refl (tt, tt) $
    sets ! (of_opd ! (get ! refl)) refl (tt, tt) $
    sets_last ! (addr ! (through ! refl (stop !))) refl (tt, tt) $
    exec ! 𝓣.C 𝓣.Λ (env code.Mir.locals l) (after 1 code.function.body) (at_ret _ (W.post y)) $
    sets ! (of_opd ! (get ! refl)) refl (tt, tt) $
    move ! (1 ∷ 2 ∷ []) $ fjoin ! $ move ! (2 ∷ 3 ∷ 4 ∷ 1 ∷ 0 ∷ []) $ group ! 5 $
    use1 𝓛 (later (some (λ (γ' : GName). raw (Part 𝓛 S R (with_server h) (named 0) κ q rb ro b o γ (sem 𝓛 (Rest b o rb ro)) (back 𝓛 h b o rb ro e) x γ'))))
    (lends_Part 𝓛 S R (with_server h) (named 0) κ q rb ro b o γ (sem 𝓛 (Rest b o rb ro)) (back 𝓛 h b o rb ro e) (S.coded.code h) (S.coded.code h) x) $
    await ! tt $ pick ! (λ γ'.
    returns ! (look_at ! 0 refl) $ free_all ! refl $ keep ! (0 ∷ []) $
    let r : MutBor R.Denot = record { ref_ptr = (b, o); ghost_name = γ'; now = x } in
    use1 𝓛 (‵ ((MutRef (named 0) κ R).own_val r (vptr b o ∷ [])) ⊛ ‵ (flft κ q) ⊛ ‵ (follows S R γ γ' (with_server h))) (id⊢ 𝓤 _) $ split3 ! $
    suffices ! _ (ends_at 𝓛 ended stayed c y (vptr b o) r (tt, tt) (tt, tt)) $
    nothing ! $ nothing ! $ fjoin ! $ join ! $ nothing ! $ move ! (2 ∷ 0 ∷ []) $ join ! $ join ! $ frame ! $ says ! (sym is_x) $ done !)))))))
