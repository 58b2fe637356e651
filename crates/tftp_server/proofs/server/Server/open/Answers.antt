-- An ERROR is sent if that was decided.
use Rattle.std.proofs.Common.{ap, rules}
use Rattle.tftp_server.specs.Request.{ask_of}
use Rattle.tftp_server.proofs.RequestLemmas.{carried, refuses}
use Rattle.tftp_server.proofs.server.Server.open.Goals as goal

pub returns-in-Refuse-clause-carries_out : goal.returns-in-Refuse-clause-carries_out
returns-in-Refuse-clause-carries_out g c =
    rw (← c.admission.view_is) (refuses g.S.Store.meaning g.S.Source.Source.meaning c.args.self.now _
    c.admission.inside.incoming.bytes.now _ _ _ _ _ _ (ap ask_of c.in-Refuse.is) c.refuse.ensures.opened
    c.refuse.ensures.ok)

pub returns-in-Read-clause-carries_out : goal.returns-in-Read-clause-carries_out
returns-in-Read-clause-carries_out g c =
    rw (← c.admission.view_is, c.in-Read.is) (carried g.S.Store.meaning g.S.Source.Source.meaning c.args.self.now _ _
    _ _ _ _ _ _ _ (λ came h. h) c.read_from.ensures.reads)

pub returns-in-Write-clause-carries_out : goal.returns-in-Write-clause-carries_out
returns-in-Write-clause-carries_out g c =
    rw (← c.admission.view_is, c.in-Write.is) (carried g.S.Store.meaning g.S.Source.Source.meaning c.args.self.now _ _
    _ _ _ _ _ _ _ (λ came h. h) c.write_from.ensures.writes)

pub returns-in-Nothing-clause-carries_out : goal.returns-in-Nothing-clause-carries_out
returns-in-Nothing-clause-carries_out g c = search rules

pub returns-in-Refuse-clause-acts : goal.returns-in-Refuse-clause-acts
returns-in-Refuse-clause-acts g c = search rules

pub returns-in-Refuse-clause-why : goal.returns-in-Refuse-clause-why
returns-in-Refuse-clause-why g c = search rules

pub returns-in-Read-clause-in_use : goal.returns-in-Read-clause-in_use
returns-in-Read-clause-in_use g c = search rules

pub returns-in-Read-clause-fault : goal.returns-in-Read-clause-fault
returns-in-Read-clause-fault g c = search rules

pub returns-in-Read-clause-acts : goal.returns-in-Read-clause-acts
returns-in-Read-clause-acts g c = search rules

pub returns-in-Read-clause-why : goal.returns-in-Read-clause-why
returns-in-Read-clause-why g c = search rules

pub returns-in-Write-clause-in_use : goal.returns-in-Write-clause-in_use
returns-in-Write-clause-in_use g c = search rules

pub returns-in-Write-clause-fault : goal.returns-in-Write-clause-fault
returns-in-Write-clause-fault g c = search rules

pub returns-in-Write-clause-acts : goal.returns-in-Write-clause-acts
returns-in-Write-clause-acts g c = search rules

pub returns-in-Write-clause-why : goal.returns-in-Write-clause-why
returns-in-Write-clause-why g c = search rules
