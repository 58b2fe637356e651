-- A draft that the store began fills the reserved slot; otherwise the table is as it was.
use Rattle.std.proofs.Common.{ap, refl, ◌∙◌}
use Rattle.std.specs.BTreeMap.{insert_entry}
use Rattle.std.specs.Ordering.{nat_cmp}
use Rattle.tftp_server.specs.State.{ServerState}
use Rattle.tftp_server.proofs.RequestLemmas.{in_room, write_failed, write_opened, write_refused}
use Rattle.tftp_server.proofs.server.Server.write_from.Goals as goal

pub returns-in-Ok-write-clause-writes : goal.returns-in-Ok-write-clause-writes
returns-in-Ok-write-clause-writes g c =
    let filled =
    c.fill.ensures c.args.tid c.replace-table.result c.in-Ok.ensures.spot ∙ ap (λ xs. insert_entry nat_cmp xs c.args.tid
    c.in-Ok-write.transfer) c.replace-table.ensures.value in
    rw (← c.self.view_is) (write_opened _ _ _ _ _ _ _ _ _ _ _ _ _ _ refl c.write.ensures.rest (ap (λ (s : ServerState
    g.row.S.Denot g.row.S-Source.Denot g.row.S-Draft.Denot). record s { held = c.fill.result }) c.self-in-Ok.view_is) _ _ c.in-Ok-write.transfer filled
    c.in-Ok-write.ensures.asks c.in-Ok-write.ensures.sent)

pub returns-in-Err-write-clause-writes : goal.returns-in-Err-write-clause-writes
returns-in-Err-write-clause-writes g c =
    let back = c.give_up.ensures c.replace-table.result c.in-Ok.ensures.spot ∙ c.replace-table.ensures.value in
    rw (← c.self.view_is) (write_refused _ _ _ _ _ _ _ _ _ _ _ _ _ _ refl c.write.ensures.rest (ap (λ (s : ServerState
    g.row.S.Denot g.row.S-Source.Denot g.row.S-Draft.Denot). record s { held = c.give_up.result }) c.self-in-Ok.view_is) _ _ _ back c.in-Err-write.ensures.sent _ _
    c.in-Err-write.ensures.asks c.refuse.ensures.opened c.refuse.ensures.ok)

pub returns-in-Err-write-clause-err : goal.returns-in-Err-write-clause-err
returns-in-Err-write-clause-err g c =
    let back = c.give_up.ensures c.replace-table.result c.in-Ok.ensures.spot ∙ c.replace-table.ensures.value in
    rw (← c.self.view_is) (write_failed g.S.Store.meaning g.S.Source.Source.meaning _ _ _ _ c.args.incoming.from c.args.incoming.bytes.now
    c.args.write.path c.args.write.mode c.args.write.agreed c.args.tid _ _ refl c.write.ensures.rest (ap (λ (s : ServerState
    g.row.S.Denot g.row.S-Source.Denot g.row.S-Draft.Denot). record s { held = c.give_up.result }) c.self-in-Ok.view_is) _ _ _ back c.in-Err-write.ensures.sent _ _
    c.in-Err-write.ensures.asks (in_room _ _ _ _ _ c.refuse.result c.in-Err-write.ensures.room
    c.in-Err-write.ensures.sent c.refuse.ensures.room) c.refuse.ensures.err)
