use Rattle.std.proofs.Common.{refl}
use Rattle.tftp_sockets.specs.declared.entry.Direction.TheVariants.{Read, Write}
use Rattle.tftp_status.proofs.counts.Counts.new.Goals as goal

pub returns : goal.returns
returns c = rw (c.new.ensures Read) (rw (c.new-2.ensures Write) refl)
