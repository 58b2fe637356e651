use Rattle.std.proofs.Common.{rules}
use Rattle.tftp_loop.proofs.Common.{◌≡◌, ◌-◌, not, refl, ap, ◌∙◌, Port, TransferSocket, ServerLoop, slice_index_or}
use Rattle.tftp_loop.proofs.ListLemmas.{one_at}
use Rattle.tftp_loop.proofs.Visits.{stays_by, goes_by}
use Rattle.tftp_loop.proofs.server_loop.ServerLoop.finish.Goals as goal

pub returns-then-is_none-clause-finishes : goal.returns-then-is_none-clause-finishes
returns-then-is_none-clause-finishes g c =
    let taken = c.record_of_closed-closed in
    stays_by g.S.Store.meaning g.S.Source.Source.meaning c.args.self.now _ c.args.index c.index-port.result.now
    c.port.result taken.result c.requires.within c.index-port.ensures c.port.ensures
    taken.ensures.found taken.ensures.held taken.ensures.rest (g.N.Udp.log c.args.net.now) (c.is_none.ensures ∙ ap not c.if-is_none.true) refl

pub returns-clause-finishes : goal.returns-clause-finishes
returns-clause-finishes g c =
    let old = c.args.self.now in
    let taken = c.record_of_closed-closed in
    let port = c.swap_remove-port.result in
    let is_port : port ≡ slice_index_or old.ports.items c.args.index port = search rules in
    let same : c.index-port.result.now ≡ port = search (rules, one_at) in
    let after : ServerLoop _ _ _ = record old {
      server = taken.new.server;
      ports = c.swap_remove-port.new.self;
      left = old.left - 1;
    } in
    goes_by g.S.Store.meaning g.S.Source.Source.meaning old after c.args.index port c.port.result taken.result
    c.requires.within is_port (c.port.ensures ∙ ap (λ (p : Port TransferSocket). p.socket.udp.port) same)
    taken.ensures.found taken.ensures.held taken.ensures.rest (g.N.Udp.log c.args.net.now)
    (g.N.Udp.log c.report_close.new.net) (c.is_none.ensures ∙ ap not c.if-is_none.false) c.requires.left
    (search rules) c.report_close.ensures.events refl
