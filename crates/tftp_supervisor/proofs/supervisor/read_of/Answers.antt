-- The output gave bytes, which were passed on, or it is closed.
use Rattle.std.proofs.Common.{refl, rules}
use Rattle.tftp_supervisor.specs.Watching.ReadsOutput.{Given}
use Rattle.tftp_supervisor.proofs.Starting.{finished_so}
use Rattle.tftp_supervisor.proofs.supervisor.read_of.Goals as goal

pub returns-in_default-clause-ok : goal.returns-in_default-clause-ok
returns-in_default-clause-ok g c = search (rules, finished_so)

pub returns-clause-ok : goal.returns-clause-ok
returns-clause-ok g c =
    let gave = rw c.in-Some.is at c.in-Ok.ensures.gave in
    Given c.in-Some.bytes.now gave (c.in_ok-pass_on.ensures c.requires.begun) refl
