use Rattle.std.proofs.Common.{arith as std_arith}
use Rattle.std.proofs.lemmas.Grind.{common_steps}
use Rattle.tftp_loop.proofs.Common.{arith}
use Rattle.std.proofs.lemmas.Result.{on_ok_weaker}
use Rattle.tftp_loop.proofs.LoopStays.{work_keeps}
use Rattle.tftp_loop.proofs.Receipts.{from_state, to_state}
use Rattle.tftp_loop.proofs.RunLemmas.{onward}
use Rattle.tftp_loop.proofs.server_loop.ServerLoop.take_round.Goals as goal

pub returns-in-Err-clause-works : goal.returns-in-Err-clause-works
returns-in-Err-clause-works g c = grind (std_arith, common_steps, onward)

pub returns-then-self-eq0-clause-works : goal.returns-then-self-eq0-clause-works
returns-then-self-eq0-clause-works g c = grind (std_arith, common_steps, onward)

pub returns-clause-works : goal.returns-clause-works
returns-clause-works g c =
    onward (c.look_at_signal.ensures.works c.args.request.now)
    (onward (c.pass_over.ensures.works c.args.request.now)
    (onward c.take_request.ensures.works (c.pass_over-2.ensures.works c.take_request.new.request)))

pub returns-clause-tended : goal.returns-clause-tended
returns-clause-tended g c =
    let buffer = c.take_request.new.request in
    let asked = work_keeps g.S.Store.meaning g.S.Source.Source.meaning _ _ c.take_request.ensures.works in
    let timed = work_keeps g.S.Store.meaning g.S.Source.Source.meaning _ _ (c.pass_over-2.ensures.works buffer) in
    let some = c.if-self-eq0.false in
    on_ok_weaker c.pass_over-2.result
    (λ due left.
    record {
      settled = c.pass_over-2.ensures.settled;
      read =
          λ k d l h. timed.read (asked.read (λ k d h. (c.in_default.ensures.visited (omega (arith, some)) k d
          (omega arith) h).0)) k d h;
      timed = due left;
      requests =
          from_state buffer c.pass_over-2.new.self (g.N.Udp.log c.pass_over-2.new.net)
          (timed.tried (to_state buffer c.take_request.new.self (g.N.Udp.log c.take_request.new.net)
          c.take_request.ensures.tried));
    })
    c.pass_over-2.ensures.visited

pub take_request-requires : goal.take_request-requires
take_request-requires g c = grind (std_arith, common_steps)

pub pass_over-requires-2-clause-few : goal.pass_over-requires-2-clause-few
pass_over-requires-2-clause-few g c =
    let some = c.if-self-eq0.false in
    c.take_request.ensures.few
    (λ k d h. (c.in_default.ensures.visited (omega (arith, some)) k d (omega arith) h).1)
