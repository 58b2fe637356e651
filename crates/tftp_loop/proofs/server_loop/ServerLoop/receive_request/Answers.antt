use Rattle.std.proofs.lemmas.Grind.{common_steps}
use Rattle.std.proofs.Common.{arith}
use Rattle.tftp_loop.proofs.Common.{refl}
use Rattle.tftp_loop.proofs.Receipts.{handled_few, handled_run, handled_settled, handled_tried, finds_none}
use Rattle.tftp_loop.proofs.Receipts.{fails_to_find}
use Rattle.tftp_loop.proofs.server_loop.ServerLoop.receive_request.Goals as goal

pub returns-in-Datagram-clause-works : goal.returns-in-Datagram-clause-works
returns-in-Datagram-clause-works g c =
    handled_run _ _ c.args.request.now _ _ _ _ _ _ _ _ _ c.requires.pending c.requires.reads c.requires.first refl
    c.in-Datagram.ensures.noted c.take_received.ensures.handles

pub returns-in-Datagram-clause-settled : goal.returns-in-Datagram-clause-settled
returns-in-Datagram-clause-settled g c =
    handled_settled _ _ c.args.request.now _ _ _ _ _ _ _ _ _ c.requires.pending c.requires.reads c.requires.first refl
    c.in-Datagram.ensures.noted c.take_received.ensures.handles

pub returns-in-Datagram-clause-few : goal.returns-in-Datagram-clause-few
returns-in-Datagram-clause-few g c = λ few.
    handled_few _ _ c.args.request.now _ _ _ _ _ _ _ _ _ c.requires.pending c.requires.reads c.requires.first refl
    c.in-Datagram.ensures.noted _ c.take_received.ensures.handles few

pub returns-in-Datagram-clause-tried : goal.returns-in-Datagram-clause-tried
returns-in-Datagram-clause-tried g c =
    handled_tried _ _ c.args.request.now _ _ _ _ _ _ _ _ _ c.requires.pending c.requires.reads c.requires.first refl
    c.in-Datagram.ensures.noted c.take_received.ensures.handles

pub returns-in-Nothing-clause-works : goal.returns-in-Nothing-clause-works
returns-in-Nothing-clause-works g c =
    finds_none g.S.Store.meaning g.S.Source.Source.meaning c.args.request.now c.receive_request.new.buffer c.args.self.now _
    (g.N.Udp.log c.args.net.now) (g.N.Udp.log c.receive_request.new.self) c.requires.pending c.requires.reads refl c.in-Nothing.ensures.noted

pub returns-in-Failed-clause-works : goal.returns-in-Failed-clause-works
returns-in-Failed-clause-works g c = grind (arith, common_steps, fails_to_find)
