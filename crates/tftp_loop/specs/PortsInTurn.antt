-- The order in which a server uses the ports of its range (ours).
use Rattle.std.specs.Prelude.{ℕ, ◌≤◌, ◌+◌, nat_eq, List, [], ◌∷◌, ◌++◌, length, Option, IfSome}
use Rattle.std.specs.List.{IsDistinct}
use Rattle.tftp_sockets.specs.Bound.{IsBoundTo}
use Rattle.tftp_sockets.specs.declared.sockets.ServerSocket.{ServerSocket}
use Rattle.tftp_loop.specs.declared.port_order.PortOrder.{PortOrder}
use Rattle.tftp_loop.specs.declared.port_order.PortRange.{PortRange}
use Rattle.tftp_loop.specs.PortOrder.{IsOrderOf, Mixes, UsesNext, drawn_from, port_count}

-- a port is drawn from those that are unused for longest, and used
pub record DrawsNext (old new : PortOrder) (port : ℕ) : Type 0 where
  pub among : ℕ
  pub few : among ≤ drawn_from old.range
  pub mixed : PortOrder
  pub mixes : Mixes among old mixed
  pub uses : UsesNext mixed new port

-- from one order to another these ports were used, the first one first
pub data UsesPorts (first : PortOrder) : List ℕ → PortOrder → Type 0 where
  Unused : UsesPorts first [] first
  Uses : {ports : List ℕ} {middle last : PortOrder} {port : ℕ} → UsesPorts first ports middle
      → DrawsNext middle last port → UsesPorts first (ports ++ port ∷ []) last

-- the ports that are tried for a socket at this address are drawn from those that are unused for
-- longest, and the socket, if there is one, is bound to the last of them: whether a transfer opens
-- there or not, it counts as used
pub record TriesInTurn (ip : List ℕ) (old new : PortOrder) (made : Option ServerSocket) : Type 0 where
  pub ports : List ℕ
  pub middle : PortOrder
  pub port : ℕ
  pub earlier : UsesPorts old ports middle
  pub last : DrawsNext middle new port
  pub bound : IfSome made (λ socket. IsBoundTo (record { ip = ip; port = port }) socket.ip socket.port)

-- a port that is used comes again only after the other half of the range
abbrev pub UsesNoPortTwice : Type 0
UsesNoPortTwice =
    (range : PortRange) (first last : PortOrder) (ports : List ℕ)
    → IsOrderOf range first → UsesPorts first ports last
    → length ports + drawn_from range ≤ port_count range + 1 → IsDistinct nat_eq ports
