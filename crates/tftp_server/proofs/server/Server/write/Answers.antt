-- A write sends the first datagram of its end, or an ERROR.
use Rattle.std.proofs.Common.{◌≡◌, length, rules}
use Rattle.tftp_server.proofs.RequestLemmas.{asks_to_write, refused_to_write, cut_off}
use Rattle.tftp_server.proofs.server.Server.write.Goals as goal
use Rattle.tftp_server.proofs.server.Server.write.Goals.{in-Ok-begin, in-Err}

pub returns-clause-sent : goal.returns-clause-sent
returns-clause-sent g c =
    let start : c.len-start.result ≡ length c.args.out.now.items = search rules in
    elim c.match-begin.branch [
      | in-Ok-begin w ↦ rw (w.result-is, w.out-is, w.new.ensures) c.in-Ok.ensures.end.1
      | in-Err w ↦
          rw (w.result-is, w.out-is) (cut_off _ _ _ _ _ start c.in-Ok.ensures.end.1 w.truncate.ensures.items)
    ]

pub returns-clause-asks : goal.returns-clause-asks
returns-clause-asks g c =
    elim c.match-begin.branch [
      | in-Ok-begin w ↦
          rw (w.result-is, ← c.self.view_is) (asks_to_write _ g.S.Source.Source.meaning _ _ _ _ _ _ _ _ _ _ _
          w.in-Ok-begin.ensures.begins w.in-Ok-begin.ensures.begun c.in-Ok.ensures.end.0 c.in-Ok.ensures.request
          w.new.ensures)
      | in-Err w ↦
          rw (w.result-is, ← c.self.view_is) (refused_to_write _ g.S.Source.Source.meaning _ c.args.incoming.from
          c.args.incoming.bytes.now _ c.args.write.mode c.args.write.agreed _ _ _ w.in-Err.ensures.begins
          w.in-Err.ensures.refused w.in-Err.ensures.begun w.in-Err.ensures.memory w.begin_refused.ensures)
    ]

pub returns-clause-room : goal.returns-clause-room
returns-clause-room g c =
    elim c.match-begin.branch [
      | in-Ok-begin w ↦ rw w.out-is (λ e. c.in-Ok.ensures.room)
      | in-Err w ↦ rw (w.out-is, w.truncate.ensures.capacity) (λ e. c.in-Ok.ensures.room)
    ]
