-- The ACK of the newest DATA from the peer of a sender.
use Rattle.std.proofs.Common.{rules as std_rules}
use Rattle.tftp_ends.proofs.Common.{◌≡◌, ◌∙◌, sym, Ack, Some, Spells, Send, Sending}
use Rattle.tftp_ends.specs.Action.{datagram_action}
use Rattle.tftp_ends.specs.Sender.{acked_action}
use Rattle.tftp_ends.proofs.end.End.next_ack.Goals as goal

pub returns-in-Send-clause-action : goal.returns-in-Send-clause-action
returns-in-Send-clause-action c =
    let e = c.args.self.now in
    let phase : e.position.phase ≡ Sending c.in-Sending.agreed c.in-Sending.number = search std_rules in
    let spelled : Spells (Ack c.in-Sending.number) c.args.bytes.now = search std_rules in
    let acts : datagram_action e c.args.from c.args.bytes.now (Some (Ack c.in-Sending.number))
    ≡ acked_action e.role.length c.in-Sending.agreed c.in-Sending.number c.in-Sending.number = search std_rules in
    let does : Send c.in-Send.terms c.in-Send.next
    ≡ acked_action e.role.length c.in-Sending.agreed c.in-Sending.number c.in-Sending.number = search std_rules in
    (Some (Ack c.in-Sending.number), spelled, does ∙ sym acts)
