-- The configuration of the matches, by their rows, which are not refused.
use Rattle.tftp_daemon.proofs.Refusals.{configures, starts_for}
use Rattle.tftp_daemon.proofs.command_line.read_config.Goals as goal

pub returns-in-Some-3-clause-names : goal.returns-in-Some-3-clause-names
returns-in-Some-3-clause-names c =
    configures c.args.matches.now c.in-Some-3.service c.in-Some.servers
    (rw (c.in-Some-3.is) at c.in_ok-service.ensures.names)
    (rw (c.in-Some-3.is) at c.in_ok-service.ensures.servers)
    c.in_default-excluded.ensures.stand c.in-Ok.ports c.server_count.result
    (rw (c.in-Some-3.is) at c.in_ok-service.ensures.ports) c.server_count.ensures c.in-Ok.ensures.enough
    (rw (c.in_default-2.is) at c.in_ok-no.ensures)

pub returns-in-Some-3-clause-servers : goal.returns-in-Some-3-clause-servers
returns-in-Some-3-clause-servers c =
    starts_for c.args.matches.now c.in-Some-3.service c.args.surroundings.processors c.in-Some.servers c.in-Some.ensures.number
    (rw (c.in-Some-3.is) at c.in_ok-service.ensures.servers)
