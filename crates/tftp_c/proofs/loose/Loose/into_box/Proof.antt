-- `into_box` calls `from_raw` with the two parts.
use Rattle.tftp_c.proofs.Common.{◌≡◌, List, [], ◌∷◌, ◌++◌, refl, sym, ap, subst, dnil, Val, vptr, SProp, ent, id⊢}
use Rattle.tftp_c.proofs.Common.{ftrue, flft, WpFn, Item, ‵, raw, ◌⊛◌, some, later, at_ret, ◌$◌, ◌∵◌, !, qed, by, move}
use Rattle.tftp_c.proofs.Common.{keep, drop, split, split3, join, fsplit, fjoin, pick, suffices, use1, await, rewrite}
use Rattle.tftp_c.proofs.Common.{feq_i, stop, fld, of_opd, no_more, and_then, first, blocks, exec, returns, enter}
use Rattle.tftp_c.proofs.Common.{alloc_all, pass_all, free_all, look_at, get, get_in, sets, env, sub, whole, fact}
use Rattle.tftp_c.proofs.Common.{tables, no, RattleType, owns, types_at, plain, block_ptr, nothing, Stays, stay_dropped}
use Rattle.tftp_c.proofs.Common.{walk_of, Goes-blank, proved_at, leaves}
use mir.Syntax.{a_type, dcons}
use mir.MapTy.{inst_fn}
use types.ByLocal.{lands_last}
use contract.BorrowLft.{◌⊑◌}
use denote.Steps.{only}
use denote.Param.{layout, bounded}
use denote.Param.Laws.{param_laws}
use denote.Triple.Clauses.{Lasts, lasts}
use denote.Triple.Spec.{triple_of}
use denote.Triple.Call.{calls_at_last}
use Rattle.core.proofs.alloc.Shapes.{after}
use Rattle.core.proofs.atomic.Steps.{fm}
use Rattle.core.proofs.cell.Inside.{Good}
use Rattle.std_alloc.proofs.BoxSteps.Form as box
use Rattle.std_alloc.proofs.BoxSteps.Steps.{box_out, box_in}
use Rattle.tftp_c.proofs.LooseValues.{Row, parts, typed, apart}
use Rattle.std_alloc.specs.contracts.boxed.Box.from_raw as callee
use Rattle.std_alloc.proofs.boxed.Box.from_raw.Met.{met}
use Rattle.tftp_c.specs.contracts.loose.Loose.into_box.{ended, clauses}
use Rattle.tftp_c.specs.contracts.loose.Loose.into_box.Key.{name as #self}
use Rattle.tftp_c.proofs.loose.Loose.into_box.Statement.{statement}
use Rattle.tftp_c.proofs.loose.Loose.into_box.Code as code

pub into_box_spec : {M : Type 1} → statement M
into_box_spec 𝓤 𝓛 𝓜 𝓡 wired T A L LA g d dx dd allocator glue glued =
    let H = 𝓛.H in
    let 𝓣 = tables 𝓤 H 𝓜 𝓡 𝓡.env in
    let E : box.Bx =
    record { row = T; laws = L; al = record { row = A; laws = LA; g = g; d = d; drops = dd } } in
    let Boxed : RattleType = box.B E in
    let R : RattleType = box.R E in
    let Z : RattleType = box.P E in
    let LZ = param_laws 1 A LA in
    let Loosed : RattleType = Row R Z LZ g in
    let En = ended T A g d dx dd in
    let c = clauses T A g d dx dd 𝓛 𝓜.mem 𝓡.returns in
    let at = bounded (a_type ∷ a_type ∷ []) (T, (A, tt)) (dcons d (dcons dx (dcons dd dnil))) in
    let fn = inst_fn at code.function in
    let makes = triple_of 𝓛 (callee.signature T A g d dd)
    (callee.spec T A g d dd 𝓛 𝓜.mem 𝓡.returns) in
    let known = met 𝓤 𝓛 𝓜 𝓡 (code.calls-std_alloc::boxed::Box::from_raw 𝓡.env wired) T A L LA g d
    dd allocator glued in
    let stays : Stays En.signature.params En.kept = (stay_dropped (plain (λ _. Loosed)) no, tt) in
    proved_at 𝓛 En stays c 𝓜 𝓡 (Goes-blank 𝓛 2 (plain (λ _. Loosed)) no (λ κs x f. tt), tt)
    (#self at) fn (code.unfolded 𝓤 H 𝓜 𝓡 wired (T, (A, tt)) d dx dd) (λ z are.
    let κs = z.0.0 in
    let qs = z.0.1 in
    let v = z.0.3.0 in
    let a = v.alloc in
    let x = v.value in
    let Post : Val → SProp 𝓤 = (walk_of 𝓛 En stays c).post z in
    let Run : List Val → SProp 𝓤 = λ ws. WpFn 𝓤 H 𝓣.C 𝓣.Λ fn ws Post in
    let alive : Item 𝓤 = ‵ (flft κs.0 qs.0) ⊛ ‵ (flft κs.1.0 qs.1.0) ⊛ ‵ ftrue in
    let outlive : Item 𝓤 =
    raw (fact 𝓤 (κs.0 ⊑ T.lives)) ⊛ raw (fact 𝓤 (κs.1.0 ⊑ A.lives)) ⊛ ‵ ftrue in
    let asked : Item 𝓤 = raw ((c κs z.0.3).requires z.1) in
    qed 𝓛 ((alive ⊛ ‵ (owns (types_at En.signature.params κs) z.0.3 z.0.4)) ∷ asked ∷ []) ∵
    split ! $ move ! (1 ∷ []) $ fsplit ! $
    apart R Z LZ g ! v z.0.4.0 (λ b o h e ws good.
    let w : Val = parts (vptr b o) h in
    let fits = typed R Z LZ g b o h good in
    let y : makes.Ghost =
    ((κs, qs, tt, (a, (block_ptr b o, tt)), (h ∷ [], (vptr b o ∷ [], tt))), x) in
    -- what `from_raw` requires, first what its parameters own
    move ! (4 ∷ []) $ use1 𝓛 outlive (id⊢ 𝓤 _) $ split3 ! $ move ! (2 ∷ []) $ drop ! $
    move ! (1 ∷ 2 ∷ []) $ join ! $ move ! (1 ∷ 0 ∷ []) $ join ! $ move ! (2 ∷ []) $
    feq_i ! (List Val) (vptr b o ∷ []) (vptr b o ∷ []) refl $ fjoin ! $
    move ! (2 ∷ 0 ∷ []) $ fjoin ! $ move ! (2 ∷ 0 ∷ []) $ join ! $ join ! $
    use1 𝓛 (raw (makes.pre y)) (id⊢ 𝓤 _) $
    suffices ! (Run (w ∷ []))
    (subst (λ (us : List Val). ent 𝓤 (Run (w ∷ [])) (Run us)) (sym (λ i. ws i ++ []))
    (id⊢ 𝓤 (Run (w ∷ [])))) $
    enter ! 𝓣.C 𝓣.Λ fn (w ∷ []) Post $ alloc_all ! (λ l. pass_all ! refl (fits, tt) $
    let Ev = env fn.locals l in
    sets ! (of_opd ! (get_in ! (fld ! refl (stop !)) (sub ! 0 refl (whole !)))) refl (tt, tt) $
    sets ! (of_opd ! (get_in ! (fld ! refl (stop !)) (sub ! 1 refl (whole !)))) refl good $
    first ! $ blocks ! $ sets ! (of_opd ! (get ! refl)) refl good $
    calls_at_last ! (fm 𝓛 𝓜 𝓡) makes known y
    (and_then ! (get ! refl) (and_then ! (get ! refl) (no_more !))) (λ u.
    use1 𝓛 (later (some (λ (r : Boxed.Denot). (alive ⊛ ‵ (Boxed.own_val r (u ∷ []))) ⊛
    some (λ (ls : Lasts (callee.ended T A g d dd) κs y.0.3).
    ‵ (lasts (callee.ended T A g d dd) κs y.0.3 ls) ⊛
    (raw (fact 𝓤 (r.value ≡ x)) ⊛ raw (fact 𝓤 (r.alloc ≡ a))))))) (id⊢ 𝓤 (makes.post y u)) $
    await ! tt $ pick ! (λ r. split ! $ move ! (1 ∷ []) $ pick ! (λ _. split3 ! $ drop ! $
    move ! (2 ∷ []) $ split ! $ move ! (1 ∷ []) $
    -- the result is one word
    box_out E ! r (u ∷ []) (λ b' o' h' e' us good'. box_in E ! r b' o' r.value e' refl $
    rewrite ! 0 (λ (xs : List Val). ‵ (Boxed.own_val r xs)) (sym us) refl $
    let made : Good (layout Boxed) u =
    subst (Good (layout Boxed)) (sym (ap only us)) (typed R Z LZ g b' o' h' good') in
    lands_last ! refl made $ exec ! 𝓣.C 𝓣.Λ Ev (after 3 fn.body) (at_ret Ev Post) $
    sets ! (of_opd ! (get ! refl)) refl made $ nothing ! $ nothing ! $ fjoin ! $
    returns ! (look_at ! 0 refl) $ free_all ! refl $ keep ! (2 ∷ 0 ∷ 1 ∷ 3 ∷ []) $
    by ! (leaves 𝓛 En stays c z u r ((tt, (tt, tt)), tt) (tt, tt)))))))))
