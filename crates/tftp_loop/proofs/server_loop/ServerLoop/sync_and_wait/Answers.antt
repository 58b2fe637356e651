use Rattle.std.proofs.Common.{rules}
use Rattle.tftp_loop.proofs.Common.{arith, ap, inr, refl, sym, true, ◌≡◌, ◌∙◌, ServerLoop}
use Rattle.tftp_sockets.specs.declared.port_poll.Reports.{Reports}
use Rattle.tftp_loop.proofs.LoopRuns.{runs_as}
use Rattle.tftp_loop.proofs.RunLemmas.{onward}
use Rattle.tftp_loop.proofs.Waits.{may_wait, read_settled, waits_as, woken_few, woken_settled}
use Rattle.tftp_loop.proofs.server_loop.ServerLoop.sync_and_wait.Goals as goal

pub returns-then-poll_now-clause-waits : goal.returns-then-poll_now-clause-waits
returns-then-poll_now-clause-waits g c =
    let ports = c.note_poll.new.reports.ports.items in
    let same : ports ≡ c.poll_now.new.reports.ports.items =
    ap (λ (r : Reports). r.ports.items) c.note_poll.ensures.once in
    let read = c.read_clock.new.self in
    let reads = c.read_clock.ensures.reads in
    let woken = c.wake.ensures.woken in
    let may = c.requires.may in
    let own = may.tended in
    let some = may.rounds in
    let first = reads.rounds in
    let second = woken.rounds in
    record {
      serves =
          λ buffer.
          waits_as g.S.Store.meaning g.S.Source.Source.meaning buffer _ read _ c.wake.new.self 0 ports reads (may_wait
          buffer _ read _ _ 0 ports reads (record {
            settled = own.settled;
            read = own.read;
            timed = own.timed;
            requests = own.requests;
          }) may.left may.rounds (omega arith) (λ h. inr (λ e. c.poll_now.ensures.some c.if-poll_now.true (sym same ∙
          e)))) (record { rest = refl; rounds = refl; room = λ h. h; events = search rules }) woken;
      settled =
          woken_settled g.S.Store.meaning g.S.Source.Source.meaning _ _ _ woken (read_settled g.S.Store.meaning
          g.S.Source.Source.meaning _ _ reads own.settled);
      few = woken_few g.S.Store.meaning g.S.Source.Source.meaning _ _ _ woken;
      first = woken.asked;
      rounds = omega (arith, some, first, second);
      room = λ room. woken.room (reads.room room);
    }

pub returns-clause-waits : goal.returns-clause-waits
returns-clause-waits g c =
    let waits = c.sleep.ensures.waits in
    record {
      serves =
          λ buffer.
          onward (runs_as g.S.Store.meaning g.S.Source.Source.meaning (c.sync.ensures.works _ buffer))
          (waits.serves buffer);
      settled = waits.settled;
      few = waits.few;
      first = waits.first;
      rounds = waits.rounds ∙ ap (λ (d : ServerLoop _ _ _). d.rounds) c.sync.ensures.rest;
      room = λ room. waits.room (c.sync.ensures.room room);
    }
