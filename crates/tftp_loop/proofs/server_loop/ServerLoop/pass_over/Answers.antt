use Rattle.std.proofs.Common.{arith as std_arith}
use Rattle.std.proofs.lemmas.Grind.{common_steps}
use Rattle.tftp_loop.proofs.Common.{arith, refl, ◌∙◌, length-map, Start, timer_of}
use Rattle.tftp_loop.proofs.RunLemmas.{onward}
use Rattle.tftp_loop.proofs.server_loop.ServerLoop.pass_over.Goals as goal

pub loop-index-init : goal.loop-index-init
loop-index-init g c =
    let ports = c.args.self.now.ports in
    let long = length-map ports.items timer_of in
    record {
      works = λ buffer. Start;
      settled = c.requires.settled;
      visited = λ k d l h. absurd (omega (arith, ports.ok.0, c.len-index.ensures, long, l, h));
      waiting = λ k d l h. c.requires.few k d h;
      asked = refl;
      file = refl;
      rounds = refl;
      room = λ room. room;
    }

pub loop-index-preserved : goal.loop-index-preserved
loop-index-preserved g c =
    let i = c.loop-index.invariant in
    let test = c.loop-index-test.true in
    record {
      works = λ buffer. onward (i.works buffer) (c.visit.ensures.works buffer);
      settled = c.visit.ensures.settled;
      visited = c.visit.ensures.visited (λ k d l h. i.visited k d (omega (arith, test, l)) h);
      waiting = λ k d l h. c.visit.ensures.waiting k d l h;
      asked = c.visit.ensures.asked ∙ i.asked;
      file = c.visit.ensures.file ∙ i.file;
      rounds = c.visit.ensures.rounds ∙ i.rounds;
      room = λ room. c.visit.ensures.room (i.room room);
    }

pub returns-then-self-eq0-clause-works : goal.returns-then-self-eq0-clause-works
returns-then-self-eq0-clause-works g c = c.loop-index.invariant.works

pub returns-in-Err-clause-works : goal.returns-in-Err-clause-works
returns-in-Err-clause-works g c = grind (std_arith, common_steps, onward)

pub returns-clause-visited : goal.returns-clause-visited
returns-clause-visited g c = grind (std_arith, common_steps)

pub visit-requires-clause-waiting : goal.visit-requires-clause-waiting
visit-requires-clause-waiting g c =
    let test = c.loop-index-test.true in
    λ k d l h. c.loop-index.invariant.waiting k d (omega (arith, test, l)) h
