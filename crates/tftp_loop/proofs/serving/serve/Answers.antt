use Rattle.tftp_loop.proofs.Common.{refl}
use Rattle.tftp_loop.specs.WholeRun.RunsServer.{Bound, Unbound}
use Rattle.tftp_loop.proofs.serving.serve.Goals as goal

pub returns-in-Ok-clause-runs : goal.returns-in-Ok-clause-runs
returns-in-Ok-clause-runs g c =
    let bound = c.in-Ok.ensures.bound in
    let made = c.new-running.ensures in
    Bound c.in-Ok.sockets.requests.port (search) (rw (made.server, made.sockets, bound.same_ip) at c.listen.ensures.runs)

pub returns-in-Err-clause-runs : goal.returns-in-Err-clause-runs
returns-in-Err-clause-runs g c = Unbound refl
