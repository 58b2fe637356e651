use Rattle.std.proofs.Common.{rules}
use Rattle.tftp_loop.proofs.Common.{woken_if}
use Rattle.tftp_loop.proofs.Waits.{changed_more}
use Rattle.tftp_loop.proofs.transfer_port.wake_all.Goals as goal

pub loop-port-preserved : goal.loop-port-preserved
loop-port-preserved c = search (rules, changed_more, woken_if)
