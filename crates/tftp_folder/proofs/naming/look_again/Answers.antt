-- The folder and the name of a draft below the root are looked at, and the name may be removed.
use Rattle.std.proofs.Common.{inr, rules}
use Rattle.tftp_folder.proofs.InsideLemmas.{above_inside}
use Rattle.tftp_folder.proofs.LeavesLemmas.{looks_unnamed, then_looks, then_unnamed}
use Rattle.tftp_folder.proofs.NamingLemmas.{leaves_other, then_may_remove, then_takes_back}
use Rattle.tftp_folder.proofs.naming.look_again.Goals as goal

pub returns-then-not-leads_to-clause-err : goal.returns-then-not-leads_to-clause-err
returns-then-not-leads_to-clause-err g c = search (rules, then_may_remove)

pub returns-then-not-leads_to-clause-own : goal.returns-then-not-leads_to-clause-own
returns-then-not-leads_to-clause-own g c = search (rules, then_takes_back)

pub returns-else-is_at_target-clause-own : goal.returns-else-is_at_target-clause-own
returns-else-is_at_target-clause-own g c = search (rules, leaves_other)

pub returns-then-not-leads_to-clause-inside : goal.returns-then-not-leads_to-clause-inside
returns-then-not-leads_to-clause-inside g c = λ below all.
    let root = c.args.root.now in
    c.take_back.ensures.inside root below (c.leads_to.ensures.inside (above_inside _ _ _ _ c.as_str.ensures.value
    below.target c.folder_of-folder.ensures) all)

pub returns-then-is_at_target-clause-inside : goal.returns-then-is_at_target-clause-inside
returns-then-is_at_target-clause-inside g c = λ below all.
    let root = c.args.root.now in
    c.is_at_target.ensures.inside root (inr below.target) (c.leads_to.ensures.inside (above_inside _ _ _ _
    c.as_str.ensures.value below.target c.folder_of-folder.ensures) all)

pub returns-else-is_at_target-clause-inside : goal.returns-else-is_at_target-clause-inside
returns-else-is_at_target-clause-inside g c = λ below all.
    let root = c.args.root.now in
    c.is_at_target.ensures.inside root (inr below.target) (c.leads_to.ensures.inside (above_inside _ _ _ _
    c.as_str.ensures.value below.target c.folder_of-folder.ensures) all)

pub returns-then-not-leads_to-clause-unnamed : goal.returns-then-not-leads_to-clause-unnamed
returns-then-not-leads_to-clause-unnamed g c =
    then_unnamed _ _ _ (looks_unnamed _ _ c.leads_to.ensures.looks) c.take_back.ensures.unnamed

pub returns-then-is_at_target-clause-unnamed : goal.returns-then-is_at_target-clause-unnamed
returns-then-is_at_target-clause-unnamed g c =
    looks_unnamed _ _ (then_looks _ _ _ c.leads_to.ensures.looks c.is_at_target.ensures.looks)

pub returns-else-is_at_target-clause-unnamed : goal.returns-else-is_at_target-clause-unnamed
returns-else-is_at_target-clause-unnamed g c =
    looks_unnamed _ _ (then_looks _ _ _ c.leads_to.ensures.looks c.is_at_target.ensures.looks)
