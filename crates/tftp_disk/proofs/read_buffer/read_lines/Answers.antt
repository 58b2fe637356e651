-- The read returned bytes.
use Rattle.std.proofs.Common.{take}
use Rattle.tftp_disk.proofs.ReadLemmas.{reads_given}
use Rattle.tftp_disk.proofs.read_buffer.read_lines.Goals as goal

pub returns-in-Err-push-clause-err : goal.returns-in-Err-push-clause-err
returns-in-Err-push-clause-err g c =
    (take c.in-Ok.count c.read.new.buffer, reads_given _ _ _ c.in-Ok.ensures.noted)
