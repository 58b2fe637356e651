-- Options that may be requested are valid options of a packet.
use Rattle.std.proofs.Common.{rules as std_rules}
use Rattle.tftp_ends.proofs.request.may_ask_put.Goals as goal

pub is_packet-requires : goal.is_packet-requires
is_packet-requires c = search std_rules
