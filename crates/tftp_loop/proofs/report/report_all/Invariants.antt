use Rattle.tftp_loop.proofs.Common.{◌≡◌}
use Rattle.tftp_loop.proofs.report.report_all.Given as goal

-- no event, nothing is told, and the file stays
abbrev pub invariant-loop-port : goal.invariant-loop-port
invariant-loop-port g l =
    (g.N.Udp.log l.net ≡ g.N.Udp.log l.initial.net) × (g.N.ServerUdp.told l.net ≡ g.N.ServerUdp.told l.initial.net)
    × (g.N.Udp.file l.net ≡ g.N.Udp.file l.initial.net)
