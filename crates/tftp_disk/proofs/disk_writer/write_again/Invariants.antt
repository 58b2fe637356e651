-- Only writes that were interrupted were tried.
use Rattle.std.proofs.Common.{◌≡◌}
use Rattle.tftp_disk.specs.DiskTrace.{written}
use Rattle.tftp_disk.specs.DiskWriter.{NoSyncs}
use Rattle.tftp_disk.proofs.disk_writer.write_again.Given as goal

abbrev pub invariant-loop-try : goal.invariant-loop-try
invariant-loop-try g l =
    (written l.file.trace.events ≡ written l.fn.file.trace.events)
    × NoSyncs l.fn.file.trace.events l.file.trace.events
