-- The draft is linked to its name, or renamed once that was refused.
use Rattle.tftp_folder.proofs.LeavesLemmas.{link_within, refused_within}
use Rattle.tftp_folder.proofs.PlacedLemmas.{same_making}
use Rattle.tftp_folder.proofs.naming.name_new.Goals as goal

pub returns-in-Ok-clause-within : goal.returns-in-Ok-clause-within
returns-in-Ok-clause-within g c =
    link_within _ _ _ _ (same_making c.args.draft.now c.file.result.now c.file.ensures) c.as_str-path.ensures.value
    c.as_str-target.ensures.value _ _ _ c.link.ensures

pub returns-then-eq-clause-within : goal.returns-then-eq-clause-within
returns-then-eq-clause-within g c =
    link_within _ _ _ _ (same_making c.args.draft.now c.file.result.now c.file.ensures) c.as_str-path.ensures.value
    c.as_str-target.ensures.value _ _ _ c.link.ensures

pub returns-in-Ok-rename_locked-clause-within : goal.returns-in-Ok-rename_locked-clause-within
returns-in-Ok-rename_locked-clause-within g c =
    refused_within _ _ _ _ (same_making c.args.draft.now c.file.result.now c.file.ensures) c.as_str-path.ensures.value
    c.as_str-target.ensures.value _ _ _ _ c.in-Err.ensures c.rename_locked.ensures.within

pub returns-in-Err-rename_locked-clause-within : goal.returns-in-Err-rename_locked-clause-within
returns-in-Err-rename_locked-clause-within g c =
    refused_within _ _ _ _ (same_making c.args.draft.now c.file.result.now c.file.ensures) c.as_str-path.ensures.value
    c.as_str-target.ensures.value _ _ _ _ c.in-Err.ensures c.rename_locked.ensures.within
