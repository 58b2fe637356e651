-- An action fits the datagram.
use Rattle.tftp_ends.proofs.Common.{sym, subst, Action, BytesFit}
use Rattle.tftp_ends.proofs.ActionLemmas.{packet_fits}
use Rattle.tftp_ends.proofs.end.End.datagram_action.Goals as goal

pub returns-clause-bytes : goal.returns-clause-bytes
returns-clause-bytes c =
    subst (λ (a : Action). BytesFit c.args.self.now c.args.bytes.now a) (sym c.packet_action.ensures.action)
    (packet_fits c.args.self.now c.args.from c.args.bytes.now _ c.packet_action.ensures.sound
    c.decode_packet-decoded.ensures)
