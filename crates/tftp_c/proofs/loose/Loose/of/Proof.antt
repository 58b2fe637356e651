-- `of` calls `into_raw_with_allocator`, and pairs what it returns.
use Rattle.tftp_c.proofs.Common.{◌≡◌, List, [], ◌∷◌, ◌++◌, refl, sym, ap, ◌∙◌, subst, dnil, Val, vptr, vstruct, of_list}
use Rattle.tftp_c.proofs.Common.{SProp, ent, emp, never, id⊢, fst∗, ftrue, fsep, flft, WpFn, sem, Item, ‵, raw, ◌⊛◌}
use Rattle.tftp_c.proofs.Common.{some, later, ◌$◌, ◌∵◌, !, qed, by, move, keep, drop, split, split3, join, fsplit}
use Rattle.tftp_c.proofs.Common.{fjoin, fpick, pick, suffices, use0, use1, await, rewrite, feq_l, stop, fld, of_opd}
use Rattle.tftp_c.proofs.Common.{no_more, and_then, returns, enter, alloc_all, pass_all, free_all, look_at, get, get_in}
use Rattle.tftp_c.proofs.Common.{sets, agg, sub, whole, fact, fact_i, tables, no, RattleType, owns, types_at, plain}
use Rattle.tftp_c.proofs.Common.{RawPtr, Ptr, block_ptr, null_ptr, ptr_val, in_a_block, nothing, heard, Stays}
use Rattle.tftp_c.proofs.Common.{stay_dropped, walk_of, Goes-blank, handle_tells, proved_at, leaves}
use mir.Syntax.{a_type, dcons}
use mir.Raw.{raw as bare}
use mir.MapTy.{inst_fn}
use types.ByLocal.{lands_as}
use denote.Steps.{only}
use denote.Param.{bounded}
use denote.Param.Laws.{param_laws}
use denote.Struct.Tuple.{Tuple}
use denote.Triple.Spec.{triple_of}
use denote.Triple.Call.{calls_at}
use Rattle.core.proofs.atomic.Steps.{fm}
use Rattle.std_alloc.proofs.BoxSteps.Form as box
use Rattle.std_alloc.proofs.BoxSteps.Steps.{box_out, box_in}
use Rattle.tftp_c.proofs.LooseValues.{parts, block, typed, together}
use Rattle.std_alloc.specs.contracts.boxed.Box.into_raw_with_allocator as callee
use Rattle.std_alloc.proofs.boxed.Box.into_raw_with_allocator.Met.{met}
use Rattle.tftp_c.specs.contracts.loose.Loose.of.{ended, clauses}
use Rattle.tftp_c.specs.contracts.loose.Loose.of.Key.{name as #self}
use Rattle.tftp_c.proofs.loose.Loose.of.Statement.{statement}
use Rattle.tftp_c.proofs.loose.Loose.of.Code as code

pub of_spec : {M : Type 1} → statement M
of_spec 𝓤 𝓛 𝓜 𝓡 wired T A L LA g d dx dd allocator glue glued =
    let H = 𝓛.H in
    let 𝓣 = tables 𝓤 H 𝓜 𝓡 𝓡.env in
    let E : box.Bx =
    record { row = T; laws = L; al = record { row = A; laws = LA; g = g; d = d; drops = dd } } in
    let Boxed : RattleType = box.B E in
    let R : RattleType = box.R E in
    let Z : RattleType = box.P E in
    let LZ = param_laws 1 A LA in
    let Pair : RattleType = Tuple (RawPtr ∷ Z ∷ []) in
    let En = ended T A g d dx dd in
    let c = clauses T A g d dx dd 𝓛 𝓜.mem 𝓡.returns in
    let at = bounded (a_type ∷ a_type ∷ []) (T, (A, tt)) (dcons d (dcons dx (dcons dd dnil))) in
    let fn = inst_fn at code.function in
    let takes = triple_of 𝓛 (callee.signature T A g d dd dx)
    (callee.spec T A g d dd dx 𝓛 𝓜.mem 𝓡.returns) in
    let known = met 𝓤 𝓛 𝓜 𝓡
    (code.calls-std_alloc::boxed::Box::into_raw_with_allocator 𝓡.env wired) T A L LA g d dd dx
    allocator glued glue in
    let stays : Stays En.signature.params En.kept = (stay_dropped (plain (λ _. Boxed)) no, tt) in
    proved_at 𝓛 En stays c 𝓜 𝓡 (Goes-blank 𝓛 2 (plain (λ _. Boxed)) no (λ κs x f. tt), tt)
    (#self at) fn (code.unfolded 𝓤 H 𝓜 𝓡 wired (T, (A, tt)) d dx dd) (λ z are.
    let κs = z.0.0 in
    let qs = z.0.1 in
    let v = z.0.3.0 in
    let a = v.alloc in
    let x = v.value in
    let Post : Val → SProp 𝓤 = (walk_of 𝓛 En stays c).post z in
    let Run : List Val → SProp 𝓤 = λ ws. WpFn 𝓤 H 𝓣.C 𝓣.Λ fn ws Post in
    let alive : Item 𝓤 = ‵ (flft κs.0 qs.0) ⊛ ‵ (flft κs.1.0 qs.1.0) ⊛ ‵ ftrue in
    let asked : Item 𝓤 = raw ((c κs z.0.3).requires z.1) in
    qed 𝓛 ((alive ⊛ ‵ (owns (types_at En.signature.params κs) z.0.3 z.0.4)) ∷ asked ∷ []) ∵
    split ! $ move ! (1 ∷ []) $ fsplit ! $
    -- the box is one word
    box_out E ! v z.0.4.0 (λ b o h e ws good. box_in E ! v b o x e refl $
    let w : Val = box.word E h b o in
    let fits = typed R Z LZ g b o h good in
    let y : takes.Ghost = ((κs, qs, tt, (v, tt), (w ∷ [], tt)), tt) in
    fjoin ! $ move ! (1 ∷ 0 ∷ []) $ join ! $ join ! $ use1 𝓛 (raw (takes.pre y)) (id⊢ 𝓤 _) $
    suffices ! (Run (w ∷ []))
    (subst (λ (us : List Val). ent 𝓤 (Run (w ∷ [])) (Run us)) (sym (λ i. ws i ++ []))
    (id⊢ 𝓤 (Run (w ∷ [])))) $
    enter ! 𝓣.C 𝓣.Λ fn (w ∷ []) Post $ alloc_all ! (λ l. pass_all ! refl (fits, tt) $
    sets ! (of_opd ! (get ! refl)) refl fits $
    calls_at ! (fm 𝓛 𝓜 𝓡) takes known y (and_then ! (get ! refl) (no_more !)) (λ u.
    use1 𝓛 (later (some (λ (r : Ptr × A.Denot). (alive ⊛ ‵ (Pair.own_val r (u ∷ []))) ⊛
    some (λ (_ : (Unit {0} × (Unit {0} × Unit {0})) × Unit {0}).
    ‵ (fsep (fsep ftrue (fsep ftrue ftrue)) ftrue) ⊛
    (raw (fact 𝓤 (r.1 ≡ a)) ⊛ ‵ (block R Z LZ g a x r.0)))))) (id⊢ 𝓤 _) $
    await ! tt $ pick ! (λ r. split ! $ move ! (1 ∷ []) $ pick ! (λ _. split3 ! $ drop ! $
    heard ! (r.1 ≡ a) (λ same.
    in_a_block ! r.0 (block R Z LZ g a x)
    (fst∗ 𝓤 (never 𝓤) (sem 𝓛 (g.dealloc_token a (bare (box.τ E)) null_ptr))) (λ b' o' e'.
    move ! (1 ∷ []) $ split ! $ move ! (1 ∷ []) $
    -- the two results are the parts
    fpick ! (λ words. fsplit ! $ feq_l ! (λ whole'. fsplit ! $ feq_l ! (λ first. fsplit ! $
    rewrite ! 0 (λ (s : A.Denot). ‵ (A.own_val s words.1.0)) same refl $
    handle_tells E.al ! a words.1.0 (λ h' second good'.
    let made = typed R Z LZ g b' o' h' good' in
    let at' = first ∙ ap (λ (p : Ptr). ptr_val p ∷ []) e' in
    lands_as ! (ap only (whole' ∙ (λ j. vstruct (of_list (at' j ++ (second j ++ []))) ∷ [])))
    refl made $
    sets ! (of_opd ! (get_in ! (fld ! refl (stop !)) (sub ! 0 refl (whole !)))) refl (tt, tt) $
    sets ! (of_opd ! (get_in ! (fld ! refl (stop !)) (sub ! 1 refl (whole !)))) refl good' $
    sets ! (of_opd ! (get ! refl)) refl good' $
    sets ! (agg ! (and_then ! (get ! refl) (and_then ! (get ! refl) (no_more !)))) refl made $
    move ! (3 ∷ 0 ∷ []) $ together R Z LZ g ! b' o' h' a x $
    use0 𝓛 (raw (fact 𝓤 (x ≡ x))) (fact_i 𝓤 (x ≡ x) (emp 𝓤) refl) $
    nothing ! $ nothing ! $ fjoin ! $
    returns ! (look_at ! 0 refl) $ free_all ! refl $ keep ! (4 ∷ 0 ∷ 2 ∷ 1 ∷ []) $
    by ! (leaves 𝓛 En stays c z (parts (vptr b' o') h')
    (record { at = block_ptr b' o'; alloc = a; value = x })
    ((tt, (tt, tt)), tt) (tt, tt))))))))))))))
