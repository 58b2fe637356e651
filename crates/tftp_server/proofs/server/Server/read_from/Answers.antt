-- A transfer that opens is held; otherwise an ERROR is sent.
use Rattle.std.proofs.Common.{◌≡◌, length, refl, rules}
use Rattle.tftp_server.proofs.RequestLemmas.{cut_back, not_held, read_opened, read_refused}
use Rattle.tftp_server.proofs.server.Server.read_from.Goals as goal

pub returns-in-Ok-insert-clause-reads : goal.returns-in-Ok-insert-clause-reads
returns-in-Ok-insert-clause-reads g c =
    rw (← c.self.view_is, c.in-Ok-insert.ensures.ok) (read_opened g.S.Store.meaning g.S.Source.Source.meaning _ _ _
    c.args.incoming.bytes.now _ _ _ _ c.in-Ok.transfer (rw (← c.self.view_is) at c.in-Ok.ensures.asks)
    c.in-Ok.ensures.sent refl)

pub returns-in-Err-clause-reads : goal.returns-in-Err-clause-reads
returns-in-Err-clause-reads g c =
    read_refused g.S.Store.meaning g.S.Source.Source.meaning _ _ _ c.args.incoming.bytes.now _ _ _ _ _ _ c.in-Err.unopened
    _ refl c.in-Err.ensures.asks c.in-Err.ensures.sent c.refuse.ensures.opened c.refuse.ensures.ok

pub returns-in_default-clause-err : goal.returns-in_default-clause-err
returns-in_default-clause-err g c =
    let start : c.len-start.result ≡ length c.args.out.now.items = search rules in
    rw (← c.self.view_is) (not_held _ _ _ _ _ _ c.in_default.ensures.err
    (cut_back _ _ _ _ _ start c.in-Ok.ensures.sent c.truncate.ensures.items))

pub returns-in_default-clause-why : goal.returns-in_default-clause-why
returns-in_default-clause-why g c = search rules

pub returns-in-Err-clause-why : goal.returns-in-Err-clause-why
returns-in-Err-clause-why g c = search rules

pub returns-in-Err-clause-err : goal.returns-in-Err-clause-err
returns-in-Err-clause-err g c = search rules
