-- `packet_in` computes the packet that the bytes spell, and so its line.
use Rattle.std.proofs.Common.{rules}
use Rattle.tftp_wire.proofs.datagram.show_datagram.Goals as goal

pub returns-in-Ok-show_ref-clause-appended : goal.returns-in-Ok-show_ref-clause-appended
returns-in-Ok-show_ref-clause-appended c = search rules
