-- Only closed transfers were skipped.
use Rattle.std.proofs.Common.{◌≡◌, length}
use Rattle.tftp_server.specs.State.{open_records}
use Rattle.tftp_server.specs.Table.{joined}
use Rattle.tftp_server.proofs.open_transfers.OpenTransfersIterator.next.Given as goal

abbrev pub invariant-loop-tid : goal.invariant-loop-tid
invariant-loop-tid g l = open_records (joined l.self-inside.index l.self-inside.slots.now) ≡ l.fn.self

abbrev pub decreases-loop-tid : goal.decreases-loop-tid
decreases-loop-tid g l = length l.self-inside.index
