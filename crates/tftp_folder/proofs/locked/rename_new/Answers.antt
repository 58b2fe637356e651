-- No file was found at the name just before, whose lock was made just before that.
use Rattle.std.proofs.lemmas.Grind.{common_steps}
use Rattle.std.proofs.Common.{inr, subst, sym, arith, rules}
use Rattle.tftp_folder.specs.Uploads.{IsBelow}
use Rattle.tftp_folder.proofs.LeavesLemmas.{looks_within}
use Rattle.tftp_folder.proofs.PlacedLemmas.{rename_there, same_making}
use Rattle.tftp_folder.proofs.ReachedLemmas.{look_reached, looks_reach, rename_reaches, then_reaches}
use Rattle.tftp_folder.proofs.locked.rename_new.Goals as goal

pub returns-in-Ok-rename-clause-over : goal.returns-in-Ok-rename-clause-over
returns-in-Ok-rename-clause-over g c = grind (arith, common_steps)

pub returns-in-Err-rename-clause-over : goal.returns-in-Err-rename-clause-over
returns-in-Err-rename-clause-over g c = grind (arith, common_steps)

pub returns-in-Err-clause-within : goal.returns-in-Err-clause-within
returns-in-Err-clause-within g c =
    looks_within c.args.draft.now _ _ c.check_free.ensures.looks (λ root below. c.check_free.ensures.inside root (inr
    (subst (IsBelow root) (sym c.as_str-target.ensures.value) below.target)))

pub returns-in-Ok-rename-clause-within : goal.returns-in-Ok-rename-clause-within
returns-in-Ok-rename-clause-within g c = record {
  there = search (rules, rename_there, same_making);
  reaches = λ root reached.
      then_reaches _ _ _ _ (looks_reach root _ _ c.check_free.ensures.looks.placed) (rename_reaches _ _ _ _ _ _ _ _
      c.as_str-target.ensures.value c.in-Ok-rename.ensures (look_reached _ _ _ _ _ _ c.as_str-target.ensures.value
      c.in-Ok.ensures.free.2 reached));
  follows = search rules;
  inside = search rules;
}

pub returns-in-Err-rename-clause-within : goal.returns-in-Err-rename-clause-within
returns-in-Err-rename-clause-within g c = record {
  there = search (rules, rename_there, same_making);
  reaches = λ root reached.
      then_reaches _ _ _ _ (looks_reach root _ _ c.check_free.ensures.looks.placed) (rename_reaches _ _ _ _ _ _ _ _
      c.as_str-target.ensures.value c.in-Err-rename.ensures (look_reached _ _ _ _ _ _ c.as_str-target.ensures.value
      c.in-Ok.ensures.free.2 reached));
  follows = search rules;
  inside = grind (arith, common_steps);
}
