-- A datagram that spells no write request is not served.
use Rattle.tftp_c.proofs.Common.{inl, inr, refl}
use Rattle.tftp_c.proofs.serving.serve_put.Goals as goal

pub returns-clause-err : goal.returns-clause-err
returns-clause-err c = inr (inl (refl, c.in-None.ensures.none refl))
