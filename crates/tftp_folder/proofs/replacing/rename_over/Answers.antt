-- What has the name was looked at just before, by the same path.
use Rattle.std.proofs.lemmas.Grind.{common_steps}
use Rattle.std.proofs.Common.{◌∙◌, ap, arith, rules}
use Rattle.std.specs.String.{string_bytes}
use Rattle.tftp_folder.proofs.InsideLemmas.{rename_inside, stays_below}
use Rattle.tftp_folder.proofs.LeavesLemmas.{looks_within}
use Rattle.tftp_folder.proofs.PlacedLemmas.{rename_there, same_making, same_there}
use Rattle.tftp_folder.proofs.ReachedLemmas.{looks_reach, rename_reaches, then_reaches}
use Rattle.tftp_folder.proofs.replacing.rename_over.Goals as goal

pub returns-in-Ok-rename-clause-over : goal.returns-in-Ok-rename-clause-over
returns-in-Ok-rename-clause-over g c = grind (arith, common_steps)

pub returns-in-Err-rename-clause-over : goal.returns-in-Err-rename-clause-over
returns-in-Err-rename-clause-over g c = grind (arith, common_steps)

pub returns-in-Err-clause-within : goal.returns-in-Err-clause-within
returns-in-Err-clause-within g c =
    looks_within c.args.draft.now _ _ c.check_named.ensures.looks (λ root below. c.check_named.ensures.inside root
    below.target)

pub returns-in-Ok-rename-clause-within : goal.returns-in-Ok-rename-clause-within
returns-in-Ok-rename-clause-within g c = record {
  there = λ there.
      rename_there _ _ _ _ _ _ _ _ c.check_named.ensures.looks.placed (same_making c.check_named.new.draft
      c.file.result.now c.file.ensures) c.as_str-path.ensures.value c.in-Ok-rename.ensures (same_there
      c.args.draft.now c.check_named.new.draft (g.D.Looks.log c.args.disk.now) c.check_named.ensures.names there);
  reaches = λ root reached.
      then_reaches _ _ _ _ (looks_reach root _ _ c.check_named.ensures.looks.placed) (rename_reaches _ _ _ _ _ _ _ _
      (c.as_str-target.ensures.value ∙ ap string_bytes c.check_named.ensures.names.target) c.in-Ok-rename.ensures
      (c.in-Ok.ensures.reached root reached));
  follows = search rules;
  inside = λ root below all.
      rename_inside _ _ _ _ _ _ _ _ c.as_str-path.ensures.value c.as_str-target.ensures.value c.in-Ok-rename.ensures
      (stays_below _ _ _ c.check_named.ensures.names below) (c.check_named.ensures.inside root below.target all);
}

pub returns-in-Err-rename-clause-within : goal.returns-in-Err-rename-clause-within
returns-in-Err-rename-clause-within g c = record {
  there = λ there.
      rename_there _ _ _ _ _ _ _ _ c.check_named.ensures.looks.placed (same_making c.check_named.new.draft
      c.file.result.now c.file.ensures) c.as_str-path.ensures.value c.in-Err-rename.ensures (same_there
      c.args.draft.now c.check_named.new.draft (g.D.Looks.log c.args.disk.now) c.check_named.ensures.names there);
  reaches = λ root reached.
      then_reaches _ _ _ _ (looks_reach root _ _ c.check_named.ensures.looks.placed) (rename_reaches _ _ _ _ _ _ _ _
      (c.as_str-target.ensures.value ∙ ap string_bytes c.check_named.ensures.names.target) c.in-Err-rename.ensures
      (c.in-Ok.ensures.reached root reached));
  follows = search rules;
  inside = λ root below all.
      rename_inside _ _ _ _ _ _ _ _ c.as_str-path.ensures.value c.as_str-target.ensures.value c.in-Err-rename.ensures
      (stays_below _ _ _ c.check_named.ensures.names below) (c.check_named.ensures.inside root below.target all);
}
