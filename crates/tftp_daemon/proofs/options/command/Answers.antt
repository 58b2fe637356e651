-- Part by part.
use Rattle.tftp_daemon.specs.Words.{folder_and_ports, limits, servers_and_log, writes_and_ending}
use Rattle.tftp_daemon.proofs.options.command.Goals as goal

pub returns : goal.returns
returns c =
    let ports = c.in_ok-command-2.ensures _ folder_and_ports c.in_ok-command.ensures c.folder_and_ports.ensures in
    let transfers = c.in_ok-command-3.ensures _ limits ports c.limits.ensures in
    let ending = c.in_ok-command-4.ensures _ writes_and_ending transfers c.writes_and_ending.ensures in
    c.with_args-4.ensures _ servers_and_log ending c.servers_and_log.ensures
