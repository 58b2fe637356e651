use Rattle.std.proofs.lemmas.Grind.{common_steps}
use Rattle.std.proofs.Common.{arith}
use Rattle.tftp_loop.proofs.Common.{refl, ap, inl, inr, state_of, Start}
use Rattle.tftp_loop.proofs.LoopRuns.{runs_as}
use Rattle.tftp_loop.proofs.Receipts.{found_it, found_nothing}
use Rattle.tftp_loop.proofs.RunLemmas.{idle, onward}
use Rattle.tftp_loop.proofs.server_loop.ServerLoop.take_rounds.Goals as goal

pub loop-fault-init : goal.loop-fault-init
loop-fault-init g c = record {
  serves = Start;
  settled = c.requires.settled;
  few = c.requires.few;
  first = c.requires.first;
  file = refl;
  room = c.requires.room;
}

pub loop-fault-preserved : goal.loop-fault-preserved
loop-fault-preserved g c =
    let same = found_nothing c.has_no_reader.result _ _ _ c.if-has_no_reader.false c.has_no_reader.ensures.noted in
    record {
      serves =
          onward c.loop-fault.invariant.serves (onward (runs_as g.S.Store.meaning g.S.Source.Source.meaning
          c.take_round.ensures.works) (onward (c.wait.ensures.waits.serves c.take_round.new.request) (idle
          (ap (state_of c.take_round.new.request c.wait.new.self) same))));
      settled = c.wait.ensures.waits.settled;
      few = c.wait.ensures.waits.few;
      first = c.wait.ensures.waits.first;
      file = grind (arith, common_steps);
      room = c.wait.ensures.waits.room c.take_round.ensures.room;
    }

pub returns-in-Err-clause-serves : goal.returns-in-Err-clause-serves
returns-in-Err-clause-serves g c =
    record {
      served = g.N.Udp.log c.take_round.new.net;
      serves =
          onward c.loop-fault.invariant.serves (runs_as g.S.Store.meaning g.S.Source.Source.meaning
          c.take_round.ensures.works);
      noted = rw (c.in-Err.ensures.fault.is_output) refl;
      fault = inr c.in-Err.ensures.fault;
    }

pub returns-then-is_over-clause-serves : goal.returns-then-is_over-clause-serves
returns-then-is_over-clause-serves g c = record {
  served = g.N.Udp.log c.take_round.new.net;
  serves =
      onward c.loop-fault.invariant.serves (runs_as g.S.Store.meaning g.S.Source.Source.meaning
      c.take_round.ensures.works);
  noted = refl;
  fault = tt;
}

pub returns-then-has_no_reader-clause-serves : goal.returns-then-has_no_reader-clause-serves
returns-then-has_no_reader-clause-serves g c = record {
  served = g.N.Udp.log c.wait.new.net;
  serves =
      onward c.loop-fault.invariant.serves (onward (runs_as g.S.Store.meaning g.S.Source.Source.meaning
      c.take_round.ensures.works) (c.wait.ensures.waits.serves c.take_round.new.request));
  noted = found_it c.has_no_reader.result _ _ _ c.if-has_no_reader.true c.has_no_reader.ensures.noted;
  fault = inl refl;
}
