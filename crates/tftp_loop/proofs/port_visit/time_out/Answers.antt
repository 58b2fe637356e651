use Rattle.std.proofs.lemmas.Grind.{common_steps}
use Rattle.std.proofs.Common.{arith, rules}
use Rattle.tftp_loop.proofs.Common.{ap, option_map, lent}
use Rattle.tftp_loop.proofs.PortLemmas.{bytes_lent, found_timed, timed_out}
use Rattle.tftp_loop.proofs.Unclosed.{open_timed}
use Rattle.tftp_loop.proofs.port_visit.time_out.Goals as goal

pub returns-clause-steps : goal.returns-clause-steps
returns-clause-steps g c =
    let t = c.in-Ok.ensures.steps in
    let found =
    found_timed c.port-tid.result c.args.server.now c.handle_timeout.new.self c.in-Ok.step c.in-Ok.outgoing t in
    let sent = bytes_lent _ _ _ _ _ c.bytes_of.ensures (ap (option_map (λ held. lent c.in-Ok.outgoing held.end)) found)
    c.unwrap_or_default-answer.ensures in
    search (rules, timed_out)

pub returns-clause-open : goal.returns-clause-open
returns-clause-open g c = grind (arith, common_steps, open_timed)
