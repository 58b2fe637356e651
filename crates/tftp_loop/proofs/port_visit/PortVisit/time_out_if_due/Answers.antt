use Rattle.std.proofs.lemmas.Grind.{common_steps}
use Rattle.std.proofs.Common.{arith}
use Rattle.tftp_loop.proofs.Common.{◌≡◌, ap, Timer, restarted, timer_of}
use Rattle.tftp_loop.proofs.PortRuns.{elapses_either}
use Rattle.tftp_loop.proofs.VisitLemmas.{elapses_none, idles}
use Rattle.tftp_loop.proofs.port_visit.PortVisit.time_out_if_due.Goals as goal

pub returns-then-not-is_due-clause-serves : goal.returns-then-not-is_due-clause-serves
returns-then-not-is_due-clause-serves g c = idles g.N.Udp.log g.S.Store.meaning g.S.Source.Source.meaning 0 c.args.self.now

pub returns-clause-serves : goal.returns-clause-serves
returns-clause-serves g c = grind (arith, common_steps, elapses_either, timer_of, restarted, elapses_none)

pub returns-clause-timed : goal.returns-clause-timed
returns-clause-timed g c = grind (arith, common_steps)

pub returns-clause-open : goal.returns-clause-open
returns-clause-open g c =
    let old = c.args.self.now in
    let port = old.port.now.socket.udp.port in
    let same : c.restart.new.port.socket.udp.port ≡ port = ap (λ (t : Timer). t.port) c.restart.ensures in
    grind (arith, common_steps)
