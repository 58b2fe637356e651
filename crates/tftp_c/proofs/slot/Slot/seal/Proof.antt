-- `seal` forgets the type of the pointer.
use Rattle.tftp_c.proofs.Common.{◌≡◌, List, [], ◌∷◌, ◌++◌, refl, sym, subst, Val, vptr, SProp, ent, emp, id⊢, ftrue}
use Rattle.tftp_c.proofs.Common.{WpFn, ‵, raw, ◌⊛◌, ◌$◌, ◌∵◌, !, qed, by, move, keep, split, fsplit, fjoin, suffices}
use Rattle.tftp_c.proofs.Common.{use0, use1, stop, fld, of_opd, no_more, and_then, returns, enter, alloc_all, pass_all}
use Rattle.tftp_c.proofs.Common.{free_all, look_at, get, get_in, sets, agg, sub, whole, fact, fact_i, tables, yes}
use Rattle.tftp_c.proofs.Common.{RattleType, owns, block_ptr, types_at, plain, nothing, Stays, stay_dropped, walk_of}
use Rattle.tftp_c.proofs.Common.{Goes-blank, Some, Option, proved_at, leaves, the_row_laws, ghosts, owned_at}
use Rattle.std_heap.specs.contracts.Global as heap
use Rattle.tftp_c.proofs.LooseValues.{Row, parts, typed, apart}
use Rattle.tftp_c.proofs.SlotValues.{lone, slot_in}
use Rattle.tftp_c.specs.contracts.slot.Slot.seal.{ended, clauses}
use Rattle.tftp_c.specs.contracts.slot.Slot.seal.Key.{name as #self}
use Rattle.tftp_c.proofs.slot.Slot.seal.Statement.{statement}
use Rattle.tftp_c.proofs.slot.Slot.seal.Code as code
use Rattle.tftp_c.specs.contracts.client.Client as client

pub seal_spec : {M : Type 1} → statement M
seal_spec 𝓤 𝓛 𝓜 𝓡 wired =
    let H = 𝓛.H in let 𝓣 = tables 𝓤 H 𝓜 𝓡 𝓡.env in let c = clauses 𝓛 𝓜.mem 𝓡.returns in let R = client.the_row in let Z = heap.the_row in
    let L : RattleType = Row R Z the_row_laws ghosts in let hs : Stays ended.signature.params ended.kept = (stay_dropped (plain (λ _. L)) yes, tt) in
    proved_at 𝓛 ended hs c 𝓜 𝓡 (Goes-blank 𝓛 0 (plain (λ _. L)) yes (λ κs x f. tt), tt) #self code.function (code.unfolded 𝓤 H 𝓜 𝓡 wired) (λ z are.
    let v = z.0.3.0 in let Post : Val → SProp 𝓤 = (walk_of 𝓛 ended hs c).post z in let Run : List Val → SProp 𝓤 = λ ws. WpFn 𝓤 H 𝓣.C 𝓣.Λ code.function ws Post in
    let asked = raw ((c z.0.0 z.0.3).requires z.1) in let x : Option R.Denot = Some v.value in
    qed 𝓛 ((‵ ftrue ⊛ ‵ (owns (types_at ended.signature.params z.0.0) z.0.3 z.0.4)) ∷ asked ∷ []) ∵ split ! $ move ! (1 ∷ []) $ fsplit ! $
    apart R Z the_row_laws ghosts ! v z.0.4.0 (λ b o h e ws fits. let w : Val = parts (vptr b o) h in let p = block_ptr b o in
    -- [the block; the handle; no more; no token; no `requires`]
    suffices ! (Run (w ∷ [])) (subst (λ (us : List Val). ent 𝓤 (Run (w ∷ [])) (Run us)) (sym (λ i. ws i ++ [])) (id⊢ 𝓤 (Run (w ∷ [])))) $
    enter ! 𝓣.C 𝓣.Λ code.function (w ∷ []) Post $ alloc_all ! (λ l. pass_all ! refl (typed R Z the_row_laws ghosts b o h fits, tt) $
    sets ! (of_opd ! (get_in ! (fld ! refl (stop !)) (sub ! 0 refl (whole !)))) refl (tt, tt) $
    sets ! (of_opd ! (get ! refl)) refl (tt, tt) $
    sets ! (agg ! (and_then ! (get ! refl) (no_more !))) refl (tt, (tt, tt)) $
    use1 𝓛 (‵ (owned_at R p x)) (id⊢ 𝓤 _) $ slot_in ! p x $ use0 𝓛 (raw (fact 𝓤 (x ≡ Some v.value))) (fact_i 𝓤 (x ≡ Some v.value) (emp 𝓤) refl) $ nothing ! $ nothing ! $ fjoin ! $
    returns ! (look_at ! 0 refl) $ free_all ! refl $ keep ! (5 ∷ 0 ∷ 2 ∷ 1 ∷ []) $ by ! (leaves 𝓛 ended hs c z (lone p) (record { at = p; value = x }) (tt, tt) (tt, tt)))))
