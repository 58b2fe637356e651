use Rattle.std.proofs.Common.{rules, arith as std_arith}
use Rattle.std.proofs.lemmas.Grind.{common_steps}
use Rattle.tftp_loop.proofs.Common.{arith, refl, sym, ap, subst, ◌∙◌, IsSome, option_map, Err, lent, at, taken_of}
use Rattle.tftp_loop.proofs.Common.{Timer, timer_of, IsUnclosed, KeepsTries}
use Rattle.tftp_loop.proofs.PortLemmas.{bytes_lent, closed_by, found_next, handled, lost}
use Rattle.tftp_loop.proofs.PortRuns.{receives, receives_late, receives_lost, then_works}
use Rattle.tftp_loop.proofs.PortStays.{after_port, after_received, replied_tries}
use Rattle.tftp_loop.proofs.Unclosed.{lost_open, open_after, open_by, unless_map}
use Rattle.tftp_loop.proofs.port_visit.PortVisit.answer.Goals as goal

pub returns-then-self-clause-answers : goal.returns-then-self-clause-answers
returns-then-self-clause-answers g c =
    let old = c.args.self.now in
    record {
      same = record { server = refl; port = refl; net = refl; now = refl; active = refl };
      serves = search (rules, receives_late, timer_of);
      tries = λ q h. h;
      received = omega arith;
    }

pub returns-then-self-clause-counted : goal.returns-then-self-clause-counted
returns-then-self-clause-counted g c = ap (λ (t : Timer). t.received) c.note_received.ensures

pub returns-then-self-clause-open : goal.returns-then-self-clause-open
returns-then-self-clause-open g c = search rules

pub returns-in_default-clause-answers : goal.returns-in_default-clause-answers
returns-in_default-clause-answers g c =
    let old = c.args.self.now in
    record {
      same = record { server = refl; port = refl; net = refl; now = refl; active = refl };
      serves = λ events noted.
          receives_lost _ _ _ _ _ _ _ _ _ _ _ _ (omega (arith)) c.requires noted (lost _ _ _ _ _ _ _ _ _ (cc)
          c.in_default.ensures.fault (λ e. c.in_default.ensures.why (ap Err e)) c.in_default.ensures.err
          c.in_default.ensures.rest) refl c.note_received-in_default.ensures;
      tries = λ q h. h;
      received = omega arith;
    }

pub returns-clause-answers : goal.returns-clause-answers
returns-clause-answers g c =
    let old = c.args.self.now in
    let takes = c.in-Ok.ensures.takes in
    let found = found_next g.S.Store.meaning g.S.Source.Source.meaning _ old.server.now c.handle_datagram.new.self
    c.in-Ok.step c.in-Ok.outgoing c.args.datagram.from c.args.datagram.bytes.now takes in
    let sent = bytes_lent c.bytes_of.result _ c.unwrap_or_default-answer.result _ (lent c.in-Ok.outgoing takes.next.end)
    c.bytes_of.ensures (ap (option_map (λ held. lent c.in-Ok.outgoing held.end)) found)
    c.unwrap_or_default-answer.ensures in
    record {
      same = record { server = refl; port = refl; net = refl; now = refl; active = refl };
      serves = λ events noted.
          then_works _ _ old.now _ _ _ _ _ _ (receives g.S.Store.meaning g.S.Source.Source.meaning old.now
          old.server.now c.handle_datagram.new.self (timer_of old.port.now) (timer_of c.note_step.new.port) events
          (g.N.Udp.log old.net.now) (g.N.Udp.log c.reply-sent.new.net) c.args.datagram.from c.args.datagram.bytes.now
          c.in-Ok.step (omega (arith)) c.requires noted (handled g.S.Store.meaning g.S.Source.Source.meaning _
          old.server.now c.handle_datagram.new.self c.in-Ok.step c.in-Ok.outgoing old.port.now.socket.udp.port
          c.args.datagram.from c.args.datagram.bytes.now (g.N.Udp.log old.net.now) (g.N.Udp.log c.reply-sent.new.net)
          c.unwrap_or_default-answer.result.now (cc) takes c.in-Ok.ensures.rest sent c.reply-sent.ensures.events)
          c.note_step.ensures) refl c.work_after.ensures.works;
      tries =
          subst (KeepsTries (g.N.Udp.log old.net.now)) (sym c.reply-sent.ensures.events) (replied_tries _
          c.in-Ok.step.to c.unwrap_or_default-answer.result.now (g.N.Udp.log old.net.now));
      received = c.reply-sent.ensures.received;
    }

pub returns-clause-status : goal.returns-clause-status
returns-clause-status g c =
    let old = c.args.self.now in
    let same =
    ap (λ t. t.port) c.note_step.ensures ∙ after_port old.now c.in-Ok.step.progress (timer_of old.port.now) in
    record {
      closed = λ is.
          let some = c.status_of.ensures.closed is in
          subst (λ p. IsSome (taken_of (at p c.work_after.new.server.held))) (sym same) (subst (λ s. IsSome (taken_of
          (at old.port.now.socket.udp.port s.held))) (sym (c.work_after.ensures.closed some)) (closed_by _ _ _ _ _ _ _ _
          _ _ (cc) c.in-Ok.ensures.takes some));
      timer = grind (std_arith, common_steps);
    }

pub returns-in_default-clause-counted : goal.returns-in_default-clause-counted
returns-in_default-clause-counted g c = ap (λ (t : Timer). t.received) c.note_received-in_default.ensures

pub returns-clause-counted : goal.returns-clause-counted
returns-clause-counted g c = grind (std_arith, common_steps, after_received, timer_of)

pub returns-in_default-clause-open : goal.returns-in_default-clause-open
returns-in_default-clause-open g c = grind (std_arith, common_steps, lost_open)

pub returns-clause-open : goal.returns-clause-open
returns-clause-open g c =
    let old = c.args.self.now in
    let port = c.note_step.new.port.socket.udp.port in
    let same =
    ap (λ t. t.port) c.note_step.ensures ∙ after_port old.now c.in-Ok.step.progress (timer_of old.port.now) in
    unless_map c.status_of.result (λ none unclosed.
    open_after _ _ _ _ _ c.work_after.ensures.works (subst (λ p. IsUnclosed p c.handle_datagram.new.self.held) (sym
    same) (open_by _ _ _ _ _ _ _ _ _ _ (cc) c.in-Ok.ensures.takes none))) c.status_of.ensures.open
