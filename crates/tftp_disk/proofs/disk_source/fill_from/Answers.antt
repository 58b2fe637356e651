-- Each piece is moved after those before it.
use Rattle.std.proofs.lemmas.Grind.{common_steps}
use Rattle.std.proofs.Common.{rules, arith}
use Rattle.tftp_disk.proofs.DiskSourceLemmas.{passes_end, passes_nothing}
use Rattle.tftp_disk.proofs.disk_source.fill_from.Goals as goal

pub loop-count-init : goal.loop-count-init
loop-count-init g c = search (rules, passes_nothing)

pub returns-in-Ok-eq0-clause-ok : goal.returns-in-Ok-eq0-clause-ok
returns-in-Ok-eq0-clause-ok g c = grind (arith, common_steps, passes_end)

pub loop-count-preserved : goal.loop-count-preserved
loop-count-preserved g c = grind (arith, common_steps)
