-- The draft got no name, whether it may replace a file or not.
use Rattle.std.proofs.lemmas.Grind.{common_steps}
use Rattle.std.proofs.Common.{arith, rules}
use Rattle.tftp_folder.proofs.InsideLemmas.{names_inside}
use Rattle.tftp_folder.proofs.folder_store.FolderStore.name_draft.Goals as goal

pub returns-in-Err-System-clause-not_named : goal.returns-in-Err-System-clause-not_named
returns-in-Err-System-clause-not_named g c = rw (← c.of-existing.ensures) c.in-Err-System.ensures.err

pub returns-in-Err-Rule-clause-not_named : goal.returns-in-Err-Rule-clause-not_named
returns-in-Err-Rule-clause-not_named g c = rw (← c.of-existing.ensures) c.in-Err-Rule.ensures.err

pub returns-in-Ok-clause-over : goal.returns-in-Ok-clause-over
returns-in-Ok-clause-over g c = grind (arith, common_steps)

pub returns-in-Err-System-clause-over : goal.returns-in-Err-System-clause-over
returns-in-Err-System-clause-over g c = grind (arith, common_steps)

pub returns-in-Err-Rule-clause-over : goal.returns-in-Err-Rule-clause-over
returns-in-Err-Rule-clause-over g c = grind (arith, common_steps)

pub returns-in-Ok-clause-inside : goal.returns-in-Ok-clause-inside
returns-in-Ok-clause-inside g c = search rules

pub returns-in-Err-System-clause-inside : goal.returns-in-Err-System-clause-inside
returns-in-Err-System-clause-inside g c = search (rules, names_inside)

pub returns-in-Err-Rule-clause-inside : goal.returns-in-Err-Rule-clause-inside
returns-in-Err-Rule-clause-inside g c = search (rules, names_inside)

pub returns-in-Ok-clause-there : goal.returns-in-Ok-clause-there
returns-in-Ok-clause-there g c = search rules

pub returns-in-Err-System-clause-there : goal.returns-in-Err-System-clause-there
returns-in-Err-System-clause-there g c = grind (arith, common_steps)

pub returns-in-Err-Rule-clause-there : goal.returns-in-Err-Rule-clause-there
returns-in-Err-Rule-clause-there g c = grind (arith, common_steps)

pub returns-in-Ok-clause-reaches : goal.returns-in-Ok-clause-reaches
returns-in-Ok-clause-reaches g c = grind (arith, common_steps)

pub returns-in-Err-System-clause-reaches : goal.returns-in-Err-System-clause-reaches
returns-in-Err-System-clause-reaches g c = grind (arith, common_steps)

pub returns-in-Err-Rule-clause-reaches : goal.returns-in-Err-Rule-clause-reaches
returns-in-Err-Rule-clause-reaches g c = grind (arith, common_steps)
