use Rattle.std.proofs.lemmas.Grind.{common_steps}
use Rattle.tftp_loop.proofs.Common.{List, arith, ◌≡◌, ◌<◌, ℕ, length, refl, sym, subst, ◌∙◌, slice_index_or}
use Rattle.tftp_loop.proofs.Common.{SourceMeaning, StoreMeaning, ServerState, SocketEvent, Port, MOST_AT_ONCE}
use Rattle.tftp_loop.proofs.Common.{ServerLoop, TransferSocket, Start, PortState, timer_of, IsHeld, ReceivedFew}
use Rattle.tftp_loop.proofs.Common.{before_visit}
use Rattle.std.proofs.Common.{rules, arith as std_arith}
use Rattle.std.specs.Vec.{with_item}
use Rattle.tftp_loop.specs.Fair.{ReceivesAtMost}
use Rattle.tftp_loop.specs.LoopStates.{OnlyServesPort, at_port}
use Rattle.tftp_loop.specs.MayWait.{Stays, VisitsPort, leaves_by}
use Rattle.tftp_loop.proofs.ListLemmas.{map_is, map_within}
use Rattle.tftp_loop.proofs.PortEnds.{config_along}
use Rattle.tftp_loop.proofs.Reserving.{room_same}
use Rattle.tftp_loop.proofs.Visits.{before, few_before, visit_settled, visited_after, works_after}
use Rattle.tftp_loop.proofs.Unclosed.{idle_visited, open_at, unless_not}
use Rattle.tftp_loop.proofs.server_loop.ServerLoop.visit.Goals as goal

-- a visit by what it leaves of the server, the port and the history
visits_by : {S F D : Type 0} (meaning : StoreMeaning S D) (sources : SourceMeaning F)
    (leaves : PortState S F D → ℕ → Type 0) (index : ℕ) (old : ServerLoop S F D) (port next : Port TransferSocket)
    (server : ServerState S F D) (before after : List SocketEvent) → index < length old.ports.items
    → port ≡ slice_index_or old.ports.items index port
    → OnlyServesPort meaning sources old.sockets.watch.now old.server port before server next after
    → leaves (at_port server next after) old.sockets.watch.now
    → ReceivesAtMost MOST_AT_ONCE before after
    → VisitsPort meaning sources leaves index old before
    (record old { server = server; ports = with_item old.ports index next }) after
visits_by meaning sources leaves index old port next server before after within is_port serves left few = search rules

pub returns-then-index-len-clause-works : goal.returns-then-index-len-clause-works
returns-then-index-len-clause-works g c = λ buffer. Start

pub returns-then-index-len-clause-waiting : goal.returns-then-index-len-clause-waiting
returns-then-index-len-clause-waiting g c = λ k d l h. c.requires.waiting k d (omega (arith, l)) h

pub returns-then-not-is_visited-clause-works : goal.returns-then-not-is_visited-clause-works
returns-then-not-is_visited-clause-works g c = λ buffer. Start

pub returns-then-not-is_visited-clause-visited : goal.returns-then-not-is_visited-clause-visited
returns-then-not-is_visited-clause-visited g c =
    let ports = c.args.self.now.ports in
    idle_visited _ _ _ (g.N.Udp.log c.args.net.now) _ (omega (arith, ports.ok.0, c.len.ensures, c.if-index-len.false))
    c.index.ensures (c.is_visited.ensures c.if-not-is_visited.true) c.requires.settled c.requires.waiting

pub returns-then-not-is_visited-clause-waiting : goal.returns-then-not-is_visited-clause-waiting
returns-then-not-is_visited-clause-waiting g c = λ k d l h. c.requires.waiting k d (omega (arith, l)) h

pub visit_port-status-requires : goal.visit_port-status-requires
visit_port-status-requires g c =
    let ports = c.args.self.now.ports in
    let port = c.index_mut-port.result.now in
    let within = map_within timer_of _ _ (omega (arith, ports.ok.0, c.len.ensures, c.if-index-len.false)) in
    let is = sym (map_is timer_of ports.items c.args.index port c.index_mut-port.ensures.value) in
    record {
      long = c.requires.long;
      due =
          (subst (IsHeld c.args.self.now.server.held) is (c.requires.settled.kept.each c.args.index (timer_of port)
          within)).look;
      few =
          few_before c.args.pass (timer_of port) (subst (ReceivedFew (before_visit c.args.pass)) is (c.requires.waiting
          c.args.index (timer_of port) (omega arith) within));
    }

pub returns-then-not-is_closed : goal.returns-then-not-is_closed
returns-then-not-is_closed g c =
    let old = c.args.self.now in
    let visit = c.visit_port-status in
    let within : c.args.index < length old.ports.items =
    omega (arith, old.ports.ok.0, c.len.ensures, c.if-index-len.false) in
    let visits = visits_by g.S.Store.meaning g.S.Source.Source.meaning (leaves_by c.args.pass) c.args.index old
    c.index_mut-port.result.now visit.new.port visit.new.server (g.N.Udp.log c.args.net.now) (g.N.Udp.log visit.new.net)
    within c.index_mut-port.ensures.value visit.ensures.serves visit.ensures.leaves visit.ensures.received in
    let stays =
    Stays refl refl (open_at old c.args.index c.index_mut-port.result.now visit.new.port visit.new.server.held _ within
    c.index_mut-port.ensures.value refl c.requires.settled (unless_not visit.result (c.is_closed.ensures
    c.if-not-is_closed.true) visit.ensures.open)) in
    record {
      works = works_after g.S.Store.meaning g.S.Source.Source.meaning visits stays;
      settled = visit_settled g.S.Store.meaning g.S.Source.Source.meaning visits stays c.requires.settled;
      visited = λ visited.
          visited_after g.S.Store.meaning g.S.Source.Source.meaning c.args.pass visits stays c.requires.waiting visited;
      waiting = before g.S.Store.meaning g.S.Source.Source.meaning visits stays (ReceivedFew (before_visit c.args.pass))
          c.requires.waiting;
      asked = refl;
      rounds = refl;
      fault = search rules;
      room = grind (std_arith, common_steps, room_same, config_along);
      file = visit.ensures.file;
    }

pub returns : goal.returns
returns g c =
    let old = c.args.self.now in
    let visit = c.visit_port-status in
    let visits = visits_by g.S.Store.meaning g.S.Source.Source.meaning (leaves_by c.args.pass) c.args.index old
    c.index_mut-port.result.now visit.new.port visit.new.server (g.N.Udp.log c.args.net.now) (g.N.Udp.log visit.new.net)
    (omega (arith, old.ports.ok.0, c.len.ensures, c.if-index-len.false)) c.index_mut-port.ensures.value
    visit.ensures.serves visit.ensures.leaves visit.ensures.received in
    let ends = c.finish.ensures in
    record {
      works = works_after _ _ visits ends.finishes;
      settled = visit_settled _ _ visits ends.finishes c.requires.settled;
      visited = λ visited.
          visited_after _ _ _ visits ends.finishes c.requires.waiting visited;
      waiting =
          before g.S.Store.meaning g.S.Source.Source.meaning visits ends.finishes (ReceivedFew (before_visit
          c.args.pass)) c.requires.waiting;
      asked = ends.asked;
      rounds = ends.rounds;
      fault = ends.fault;
      room = grind (std_arith, common_steps, room_same, config_along);
      file = ends.file ∙ visit.ensures.file;
    }
