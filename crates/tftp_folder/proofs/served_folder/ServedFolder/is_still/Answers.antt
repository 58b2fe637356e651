-- The folders of a path below the root are inside it.
use Rattle.std.proofs.Common.{inr, rules}
use Rattle.tftp_folder.proofs.InsideLemmas.{folders_inside}
use Rattle.tftp_folder.proofs.served_folder.ServedFolder.is_still.Goals as goal

pub returns-then-has_no_link-clause-inside : goal.returns-then-has_no_link-clause-inside
returns-then-has_no_link-clause-inside g c = λ below all.
    c.is_at.ensures.inside (inr below) (folders_inside _ _ _ _ _ _ c.as_str.ensures.value below c.folder_of.ensures
    c.has_no_link.ensures.inside all)

pub returns-else-has_no_link-clause-inside : goal.returns-else-has_no_link-clause-inside
returns-else-has_no_link-clause-inside g c = search (rules, folders_inside)
