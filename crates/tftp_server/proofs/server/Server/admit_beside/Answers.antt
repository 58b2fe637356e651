-- The tests that ask no store find the transfers of the caller.
use Rattle.std.proofs.Common.{refl}
use Rattle.tftp_server.proofs.server.Server.admit_beside.Goals as goal

pub returns-in-Ok-clause-admits : goal.returns-in-Ok-clause-admits
returns-in-Ok-clause-admits g c = (_, c.decode_packet-decoded.ensures, rw (← c.self.view_is) c.in-Ok.ensures.asks)

pub returns-in-Err-clause-acts : goal.returns-in-Err-clause-acts
returns-in-Err-clause-acts g c =
    (_, (_, c.decode_packet-decoded.ensures, refl), rw (← c.self.view_is) c.in-Err.ensures.acts)
