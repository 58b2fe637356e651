-- The number of ports left decreases.
use Rattle.std.proofs.Common.{length}
use Rattle.tftp_sockets.proofs.port.+wait_for.Given as goal

abbrev pub decreases-wait_for : goal.decreases-wait_for
decreases-wait_for g l = length l.ports.now
