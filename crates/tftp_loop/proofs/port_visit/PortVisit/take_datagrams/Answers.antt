use Rattle.std.proofs.Common.{rules}
use Rattle.tftp_loop.proofs.Common.{arith, refl, inl, inr, ◌∙◌}
use Rattle.tftp_loop.proofs.PortRuns.{finds_nothing, fails_to_receive}
use Rattle.tftp_loop.proofs.VisitLemmas.{idles, receives_none, serves_onward, serves_received, tried_received}
use Rattle.tftp_loop.proofs.Unclosed.{unless_map}
use Rattle.tftp_loop.proofs.port_visit.PortVisit.take_datagrams.Goals as goal

pub loop-count-init : goal.loop-count-init
loop-count-init g c = (idles g.N.Udp.log g.S.Store.meaning g.S.Source.Source.meaning 0 _, omega arith, inl refl, λ unclosed. unclosed, refl)

pub loop-count-preserved : goal.loop-count-preserved
loop-count-preserved g c =
    let noted = c.in-Datagram.ensures.noted in
    let answers = c.answer.ensures.answers in (
      serves_onward _ _ _ _ 1 _ _ _ _ (omega arith) c.loop-count.invariant.0 (serves_received g.N.Udp.log
          g.S.Store.meaning g.S.Source.Source.meaning _ c.loop-count.self _ _ refl noted answers),
      let before = c.loop-count.invariant.1 in let one = c.answer.ensures.counted in omega (arith, before, one),
      inr (
        tried_received g.N.Udp.log g.S.Store.meaning g.S.Source.Source.meaning _ c.loop-count.self _ _ noted answers,
        c.in-Unfinished.ensures.status.timer,
      ),
      λ unclosed. c.in-Unfinished.ensures.open (c.loop-count.invariant.3 unclosed),
      c.answer.ensures.file ∙ (c.receive.ensures.file ∙ c.loop-count.invariant.4),
    )

pub answer-requires : goal.answer-requires
answer-requires g c = search rules

pub returns-in_default-clause-serves : goal.returns-in_default-clause-serves
returns-in_default-clause-serves g c =
    serves_onward _ _ _ _ 1 _ _ _ _ (omega arith) c.loop-count.invariant.0 (serves_received _ _ _ _ _ _ _ refl
    c.in-Datagram.ensures.noted c.answer.ensures.answers)

pub returns-in_default-clause-tried : goal.returns-in_default-clause-tried
returns-in_default-clause-tried g c =
    tried_received g.N.Udp.log g.S.Store.meaning g.S.Source.Source.meaning _ c.loop-count.self _ _ c.in-Datagram.ensures.noted
    c.answer.ensures.answers

pub returns-in_default-clause-open : goal.returns-in_default-clause-open
returns-in_default-clause-open g c =
    unless_map c.answer.result (λ stays unclosed. stays (c.loop-count.invariant.3 unclosed)) c.answer.ensures.open

pub returns-in-Nothing-clause-serves : goal.returns-in-Nothing-clause-serves
returns-in-Nothing-clause-serves g c =
    let visit = c.loop-count.self in
    let noted = c.in-Nothing.ensures.noted in
    serves_onward _ _ _ _ 0 _ _ _ _ (omega arith) c.loop-count.invariant.0 (record {
      same = record { server = refl; port = refl; net = refl; now = refl; active = refl };
      serves = finds_nothing g.S.Store.meaning g.S.Source.Source.meaning visit.now visit.server.now _ _ _ _ noted
          c.mark_empty.ensures;
      received = receives_none _ 0 _ _ noted;
    })

pub returns-in-Failed-clause-serves : goal.returns-in-Failed-clause-serves
returns-in-Failed-clause-serves g c =
    let visit = c.loop-count.self in
    let noted = c.in-Failed.ensures.noted in
    serves_onward _ _ _ _ 0 _ _ _ _ (omega arith) c.loop-count.invariant.0 (record {
      same = record { server = refl; port = refl; net = refl; now = refl; active = refl };
      serves = fails_to_receive g.S.Store.meaning g.S.Source.Source.meaning visit.now visit.server.now _ _ _ _ noted
          c.mark_ready.ensures;
      received = receives_none _ 0 _ _ noted;
    })

pub returns-in-Nothing-clause-open : goal.returns-in-Nothing-clause-open
returns-in-Nothing-clause-open g c = search rules

pub returns-in-Failed-clause-open : goal.returns-in-Failed-clause-open
returns-in-Failed-clause-open g c = search rules
