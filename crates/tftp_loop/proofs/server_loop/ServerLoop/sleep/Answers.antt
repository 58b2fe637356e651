use Rattle.std.proofs.Common.{rules}
use Rattle.tftp_loop.proofs.Common.{arith, inl, refl, ServerLoop}
use Rattle.tftp_loop.specs.MayWait.{HasSlept, millis_of}
use Rattle.tftp_loop.proofs.Waits.{may_wait, read_settled, slept_settled, waits_as, woken_few, woken_settled}
use Rattle.tftp_loop.proofs.server_loop.ServerLoop.sleep.Goals as goal

pub returns-clause-waits : goal.returns-clause-waits
returns-clause-waits g c =
    let read = c.read_clock.new.self in
    let millis = millis_of read in
    let ports = c.wait.new.reports.ports.items in
    let reads = c.read_clock.ensures.reads in
    let after : ServerLoop _ _ _ = record read { sockets = record read.sockets { poll = c.wait.new.poll } } in
    let slept : HasSlept millis ports read (g.N.Udp.log c.read_clock.new.net) after (g.N.Udp.log c.wait.new.self) =
    record { rest = refl; rounds = refl; room = λ room. room; events = search rules } in
    let woken = c.wake.ensures.woken in
    let may = c.requires.may in
    let own = may.tended in
    let some = may.rounds in
    let first = reads.rounds in
    let second = slept.rounds in
    let third = woken.rounds in
    record {
      serves =
          λ buffer.
          waits_as g.S.Store.meaning g.S.Source.Source.meaning _ _ _ _ _ _ _ reads (may_wait buffer _ _ _ _ _ _ reads
          (record {
            settled = own.settled;
            read = own.read;
            timed = own.timed;
            requests = own.requests;
          }) may.left may.rounds (omega arith) (λ h. inl h)) slept woken;
      settled =
          woken_settled g.S.Store.meaning g.S.Source.Source.meaning _ _ _ woken (slept_settled g.S.Store.meaning
          g.S.Source.Source.meaning _ _ _ _ slept (read_settled g.S.Store.meaning g.S.Source.Source.meaning _ _ reads
          own.settled));
      few = woken_few g.S.Store.meaning g.S.Source.Source.meaning _ _ _ woken;
      first = woken.asked;
      rounds = omega (arith, some, first, second, third);
      room = λ room. woken.room (slept.room (reads.room room));
    }
