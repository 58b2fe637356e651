use Rattle.tftp_loop.proofs.Common.{◌≡◌, ◌≤◌, ◌+◌, List, ℕ, length, All, coming, drawn_from, TriesPorts}
use Rattle.std.specs.Prelude.{Some}
use Rattle.tftp_loop.specs.PortOrder.{HasPorts}
use Rattle.tftp_loop.specs.PortsInTurn.{UsesPorts}
use Rattle.tftp_loop.proofs.PoolLemmas.{IsMissed}
use Rattle.tftp_loop.proofs.PortUses.{ComesLast}
use Rattle.tftp_loop.proofs.port_pool.bind_next.Given as goal

-- the order is one of the same range, and no socket could be bound to any port so far, one after the other
abbrev pub invariant-loop-port : goal.invariant-loop-port
invariant-loop-port g l =
    record {
      range : l.order.range ≡ l.fn.order.range;
      ports : HasPorts l.order;
      turns : (ports : List ℕ) × UsesPorts l.fn.order ports l.order
          × (length ports + l.left ≡ length (coming l.fn.order)) × All (IsMissed (g.N.Udp.log l.net)) ports
          × ComesLast (coming l.fn.order) ports (coming l.order);
      left : 1 ≤ l.left;
      half : l.half ≡ drawn_from l.fn.order.range;
      tries : TriesPorts (Some l.fn.order.range) (g.N.Udp.log l.fn.net) (g.N.Udp.log l.net);
      told : g.N.ServerUdp.told l.net ≡ g.N.ServerUdp.told l.fn.net;
      file : g.N.Udp.file l.net ≡ g.N.Udp.file l.fn.net;
    }

abbrev pub decreases-loop-port : goal.decreases-loop-port
decreases-loop-port g l = l.left
