-- `unseal` gives the pointer its type back.
use Rattle.tftp_c.proofs.Common.{◌≡◌, List, [], ◌∷◌, ◌++◌, refl, sym, subst, impl, tnil, dnil, Val, vptr, SProp, ent}
use Rattle.tftp_c.proofs.Common.{emp, never, fst∗, id⊢, ftrue, WpFn, sem, ‵, raw, ◌⊛◌, ◌$◌, ◌∵◌, !, qed, by, move, keep}
use Rattle.tftp_c.proofs.Common.{split, fsplit, fjoin, suffices, use0, rewrite, stop, fld, of_opd, no_more, and_then}
use Rattle.tftp_c.proofs.Common.{returns, enter, alloc_all, pass_all, free_all, look_at, get, get_in, sets, agg, sub}
use Rattle.tftp_c.proofs.Common.{whole, fact, fact_i, tables, yes, RattleType, owns, Ptr, block_ptr, null_ptr}
use Rattle.tftp_c.proofs.Common.{in_a_block, types_at, plain, nothing, heard, Stays, stay_dropped, walk_of, Al}
use Rattle.tftp_c.proofs.Common.{Goes-blank, handle_tells, Some, Option, IsSome, proved_at, leaves, box_owns}
use Rattle.tftp_c.proofs.Common.{the_row_laws, ghosts, owned_at}
use mir.Raw.{raw as bare}
use denote.Memory.{lone as alone}
use Rattle.std_heap.specs.contracts.Global as heap
use Rattle.tftp_c.proofs.LooseValues.{parts, typed, together}
use Rattle.tftp_c.proofs.ServerSlotValues.{lone, slot_out, some_is}
use Rattle.tftp_c.specs.contracts.server_slot.ServerSlot.unseal.{ended, clauses}
use Rattle.tftp_c.specs.contracts.server_slot.ServerSlot.unseal.Key.{name as #self}
use Rattle.tftp_c.proofs.server_slot.ServerSlot.unseal.Statement.{statement}
use Rattle.tftp_c.proofs.server_slot.ServerSlot.unseal.Code as code
use Rattle.tftp_c.specs.contracts.held_server.HeldServer as held_server
use Rattle.tftp_c.specs.contracts.server_slot.ServerSlot as slot

pub unseal_spec : {M : Type 1} → statement M
unseal_spec 𝓤 𝓛 𝓜 𝓡 wired =
    let H = 𝓛.H in let 𝓣 = tables 𝓤 H 𝓜 𝓡 𝓡.env in let c = clauses 𝓛 𝓜.mem 𝓡.returns in let R = held_server.the_row in let Z = heap.the_row in
    let S : RattleType = slot.the_row in let hs : Stays ended.signature.params ended.kept = (stay_dropped (plain (λ _. S)) yes, (stay_dropped (plain (λ _. Z)) yes, tt)) in
    let al : Al = record { row = Z; laws = the_row_laws; g = ghosts; d = impl [] tnil dnil; drops = impl [] tnil dnil } in
    proved_at 𝓛 ended hs c 𝓜 𝓡 (Goes-blank 𝓛 0 (plain (λ _. S)) yes (λ κs x f. tt), (Goes-blank 𝓛 0 (plain (λ _. Z)) yes (λ κs x f. tt), tt)) #self code.function (code.unfolded 𝓤 H 𝓜 𝓡 wired) (λ z are.
    let v = z.0.3.0 in let a = z.0.3.1.0 in let Post : Val → SProp 𝓤 = (walk_of 𝓛 ended hs c).post z in let Run : List Val → SProp 𝓤 = λ us. WpFn 𝓤 H 𝓣.C 𝓣.Λ code.function us Post in
    qed 𝓛 ((‵ ftrue ⊛ ‵ (owns (types_at ended.signature.params z.0.0) z.0.3 z.0.4)) ∷ raw (fact 𝓤 (IsSome v.value)) ∷ []) ∵ split ! $ move ! (1 ∷ []) $ fsplit ! $ slot_out ! v z.0.4.0 (λ ws.
    move ! (1 ∷ []) $ fsplit ! $ handle_tells al ! a z.0.4.1.0 (λ h ea fits. move ! (4 ∷ []) $ heard ! (IsSome v.value) (λ some. let x = (some_is v.value some).0 in let is = (some_is v.value some).1 in
    move ! (2 ∷ []) $ rewrite ! 0 (λ (o : Option R.Denot). ‵ (owned_at R v.at o)) is refl $
    in_a_block ! v.at (λ p. box_owns (ghosts.dealloc_token a) R p x) (fst∗ 𝓤 (never 𝓤) (sem 𝓛 (ghosts.dealloc_token a (bare (alone R.mir)) null_ptr))) (λ b o e.
    -- [the block; the handle; no more; no token]
    let us = subst (λ (p : Ptr). z.0.4.0 ≡ lone p ∷ []) e ws in let w : Val = lone (block_ptr b o) in let typed = typed R Z the_row_laws ghosts b o h fits in
    suffices ! (Run (w ∷ h ∷ [])) (subst (λ (us : List Val). ent 𝓤 (Run (w ∷ h ∷ [])) (Run us)) (sym (λ i. us i ++ (ea i ++ []))) (id⊢ 𝓤 (Run (w ∷ h ∷ [])))) $
    enter ! 𝓣.C 𝓣.Λ code.function (w ∷ h ∷ []) Post $ alloc_all ! (λ l. pass_all ! refl ((tt, (tt, tt)), (fits, tt)) $
    sets ! (of_opd ! (get_in ! (fld ! refl (stop !)) (sub ! 0 refl (whole !)))) refl (tt, tt) $
    sets ! (of_opd ! (get ! refl)) refl (tt, tt) $
    sets ! (agg ! (and_then ! (get ! refl) (and_then ! (get ! refl) (no_more !)))) refl typed $
    together R Z the_row_laws ghosts ! b o h a x $ use0 𝓛 (raw (fact 𝓤 (Some x ≡ v.value))) (fact_i 𝓤 (Some x ≡ v.value) (emp 𝓤) (sym is)) $ nothing ! $ nothing ! $ fjoin ! $ nothing ! $ fjoin ! $
    returns ! (look_at ! 0 refl) $ free_all ! refl $ keep ! (4 ∷ 0 ∷ 2 ∷ 1 ∷ []) $ by ! (leaves 𝓛 ended hs c z (parts (vptr b o) h) (record { at = block_ptr b o; alloc = a; value = x }) (tt, (tt, tt)) (tt, (tt, tt)))))))))
