-- The root and the folder of the drafts are looked at.
use Rattle.std.proofs.lemmas.Grind.{common_steps}
use Rattle.std.proofs.Common.{arith, rules}
use Rattle.tftp_folder.proofs.served_folder.ServedFolder.folder_to_write.Goals as goal

pub returns-in_err-drafts-clause-inside : goal.returns-in_err-drafts-clause-inside
returns-in_err-drafts-clause-inside g c = search rules

pub returns-then-folder-drafts-clause-inside : goal.returns-then-folder-drafts-clause-inside
returns-then-folder-drafts-clause-inside g c = search rules

pub returns-else-folder-drafts-clause-inside : goal.returns-else-folder-drafts-clause-inside
returns-else-folder-drafts-clause-inside g c = grind (arith, common_steps)
