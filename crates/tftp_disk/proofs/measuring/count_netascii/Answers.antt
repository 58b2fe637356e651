-- The pass ends at the end of the file, or once the text is too long.
use Rattle.std.proofs.lemmas.Grind.{common_steps}
use Rattle.std.proofs.Common.{arith, rules}
use Rattle.tftp_disk.proofs.MeasuringLemmas.{counts_past}
use Rattle.tftp_disk.proofs.measuring.count_netascii.Goals as goal

pub loop-total-init : goal.loop-total-init
loop-total-init g c = search rules

pub loop-total-preserved : goal.loop-total-preserved
loop-total-preserved g c = grind (arith, common_steps)

pub returns-then-count-eq0-clause-counts : goal.returns-then-count-eq0-clause-counts
returns-then-count-eq0-clause-counts g c = grind (arith, common_steps)

pub returns-clause-counts : goal.returns-clause-counts
returns-clause-counts g c =
    counts_past _ _ c.loop-total.total c.loop-total.invariant.counted c.loop-total-test.false
