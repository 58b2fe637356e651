-- The bytes after those that are taken.
use Rattle.std.proofs.Common.{rules}
use Rattle.tftp_disk.proofs.ReadLemmas.{taken_between}
use Rattle.tftp_disk.proofs.read_buffer.ReadBuffer.take.Goals as goal

pub returns : goal.returns
returns c = search (rules, taken_between)
