-- The writer was handed what it was, and its buffer gets shorter, in no less space.
use Rattle.std.proofs.Common.{◌≡◌, ◌≤◌, vec_capacity, vec_len}
use Rattle.tftp_disk.specs.DiskWriter.{calls_of, handed, NoSyncs}
use Rattle.tftp_disk.proofs.disk_writer.DiskWriter.flush.Given as goal

abbrev pub invariant-loop-self : goal.invariant-loop-self
invariant-loop-self g l =
    (handed l.self ≡ handed l.fn.self) × NoSyncs (calls_of l.fn.self) (calls_of l.self)
    × (vec_capacity l.fn.self.buffer ≤ vec_capacity l.self.buffer)

abbrev pub decreases-loop-self : goal.decreases-loop-self
decreases-loop-self g l = vec_len l.self.buffer
