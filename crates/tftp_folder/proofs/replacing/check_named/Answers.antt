-- The name is looked at, and then opened.
use Rattle.std.proofs.Common.{inr, subst, sym, rules}
use Rattle.std.proofs.lemmas.Result.{on_ok_weaker}
use Rattle.tftp_folder.specs.Uploads.{IsBelow}
use Rattle.tftp_folder.proofs.InsideLemmas.{look_inside}
use Rattle.tftp_folder.proofs.ReachedLemmas.{look_reached, try_reached}
use Rattle.tftp_folder.proofs.replacing.check_named.Goals as goal

pub returns-in-Err-clause-reached : goal.returns-in-Err-clause-reached
returns-in-Err-clause-reached g c = search (rules, look_reached)

pub returns-in-Ok-check_replaced-clause-reached : goal.returns-in-Ok-check_replaced-clause-reached
returns-in-Ok-check_replaced-clause-reached g c = λ root reached.
    let tried = try_reached _ _ _ _ _ _ c.as_str-2.ensures.value c.in-Ok-check_replaced.ensures.tried (look_reached _ _
    _ _ _ _ c.as_str.ensures.value c.look.ensures reached) in
    on_ok_weaker c.take_permissions.result (λ keeps. tried) (c.take_permissions.ensures.stays c.requires)

pub returns-in-Err-check_replaced-clause-inside : goal.returns-in-Err-check_replaced-clause-inside
returns-in-Err-check_replaced-clause-inside g c = λ root below all.
    c.check_replaced.ensures.inside root (inr (subst (IsBelow root) (sym c.as_str-2.ensures.value) below))
    (look_inside _ _ _ _ _ c.look.ensures (inr (subst (IsBelow root) (sym c.as_str.ensures.value) below)) all)
