-- The name of a draft below the root is looked at, and may be removed.
use Rattle.std.proofs.lemmas.Grind.{common_steps}
use Rattle.std.proofs.Common.{arith, rules}
use Rattle.tftp_folder.proofs.LeavesLemmas.{looks_unnamed, remove_unnamed, then_unnamed}
use Rattle.tftp_folder.proofs.NamingLemmas.{removes_own}
use Rattle.tftp_folder.proofs.naming.take_back.Goals as goal

pub returns-then-not-is_at_target-clause-own : goal.returns-then-not-is_at_target-clause-own
returns-then-not-is_at_target-clause-own g c = grind (arith, common_steps)

pub returns-clause-own : goal.returns-clause-own
returns-clause-own g c = search (rules, removes_own)

pub returns-then-not-is_at_target-clause-inside : goal.returns-then-not-is_at_target-clause-inside
returns-then-not-is_at_target-clause-inside g c = search rules

pub returns-clause-inside : goal.returns-clause-inside
returns-clause-inside g c = search rules

pub returns-then-not-is_at_target-clause-unnamed : goal.returns-then-not-is_at_target-clause-unnamed
returns-then-not-is_at_target-clause-unnamed g c = looks_unnamed _ _ c.is_at_target.ensures.looks

pub returns-clause-unnamed : goal.returns-clause-unnamed
returns-clause-unnamed g c =
    then_unnamed _ _ _ (looks_unnamed _ _ c.is_at_target.ensures.looks) (remove_unnamed _ _ _ _ c.remove.ensures)
