-- Bytes spell a packet exactly if it is the packet decoded from them.
use Rattle.std.proofs.Common.{subst}
use Rattle.tftp_wire.specs.declared.packet.Packet.{Packet}
use Rattle.tftp_wire.specs.Borrowed.{owned}
use Rattle.tftp_wire.specs.Spelling.{Spells}
use Rattle.tftp_wire.proofs.packet.PacketRef.is_spelled.Goals as goal

pub returns-in-Ok : goal.returns-in-Ok
returns-in-Ok c = (
  λ same. subst (λ (p : Packet). Spells p c.args.bytes.now) (c.is_same.ensures.0 same) c.in-Ok.ensures.found,
  λ spells. c.is_same.ensures.1 (c.in-Ok.ensures.only (owned c.args.self.now) spells),
)

pub returns-in-Err : goal.returns-in-Err
returns-in-Err c = (λ same. absurd (cc), λ spells. absurd (c.in-Err.ensures.only (owned c.args.self.now) spells))
