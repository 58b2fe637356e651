-- An admission that is carried out is a step of the request port.
use Rattle.std.proofs.Common.{rules}
use Rattle.tftp_server.proofs.RequestLemmas.{requested}
use Rattle.tftp_server.proofs.server.Server.on_request.Goals as goal

pub returns-in-Ok-clause-steps : goal.returns-in-Ok-clause-steps
returns-in-Ok-clause-steps g c =
    requested g.S.Store.meaning g.S.Source.Source.meaning _ _ _ _ _ _ _ _ c.open.result c.in-Ok.ensures.admits
    (rw (c.in-Ok.ensures.from, c.in-Ok.ensures.bytes) at c.open.ensures.carries_out)

pub returns-in-Ok-clause-why : goal.returns-in-Ok-clause-why
returns-in-Ok-clause-why g c = search rules

pub returns-in-Ok-clause-acts : goal.returns-in-Ok-clause-acts
returns-in-Ok-clause-acts g c = search rules

pub returns-in-Ok-clause-in_use : goal.returns-in-Ok-clause-in_use
returns-in-Ok-clause-in_use g c = search rules
