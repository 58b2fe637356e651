use Rattle.tftp_loop.proofs.Common.{◌≡◌, ◌≤◌, ◌+◌, ◌⊎◌}
use Rattle.tftp_loop.specs.MayWait.{StaysOpen}
use Rattle.tftp_loop.specs.PortVisit.{IsTried, ServesVisit, at_visit}
use Rattle.tftp_loop.proofs.port_visit.PortVisit.take_datagrams.Given as goal

-- what was done, with at most a datagram at a time; that the port was read, unless this is the first time; that the transfer
-- is open, if it was; and that the file stays
abbrev pub invariant-loop-count : goal.invariant-loop-count
invariant-loop-count g l =
    ServesVisit g.N.Udp.log g.S.Store.meaning g.S.Source.Source.meaning l.count l.initial.self l.self
    × (l.self.port.now.socket.received ≤ l.initial.self.port.now.socket.received + l.count)
    × ((l.count ≡ 0) ⊎ (IsTried g.N.Udp.log l.self × (l.self.port.now.look_at ≡ l.self.port.now.socket.deadline)))
    × StaysOpen (at_visit g.N.Udp.log l.initial.self) (at_visit g.N.Udp.log l.self)
    × (g.N.Udp.file l.self.net.now ≡ g.N.Udp.file l.initial.self.net.now)
