-- The file of the transfer at the identifier works; every other transfer stays.
use Rattle.std.proofs.Common.{refl}
use Rattle.tftp_server.proofs.server.Server.work.Goals as goal

pub returns-in-Some-clause-works : goal.returns-in-Some-clause-works
returns-in-Some-clause-works g c =
    rw (← c.self.view_is, ← c.in-Some.ensures.value) (c.work.new.self, c.work.ensures, refl)
