-- A datagram with a fault spells no packet.
use Rattle.tftp_c.specs.Faults.{packet_of}
use Rattle.tftp_c.proofs.serving.request_in.Goals as goal

pub returns-in-Err-clause-none : goal.returns-in-Err-clause-none
returns-in-Err-clause-none c = λ _ request spells. c.in-Err.ensures.only (packet_of c.args.kind request) spells
