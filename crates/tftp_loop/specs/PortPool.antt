-- The ports that transfers are bound to (RFC 1350, section 4).
use Rattle.std.specs.Prelude.{ℕ, ◌≡◌, ⊤, true, List, [], ◌∷◌, All, Option, Some, None, IfSome}
use Rattle.std.specs.Prelude.{option_map, min}
use Rattle.tftp_sockets.specs.Trace.{SocketEvent}
use Rattle.tftp_sockets.specs.Trace.SocketEvent.{Quiet}
use Rattle.tftp_sockets.specs.Trace.QuietEvent.{New_socket, No_socket}
use Rattle.tftp_sockets.specs.Quiet.{is_among}
use Rattle.tftp_sockets.specs.declared.sockets.ServerSocket.{ServerSocket}
use Rattle.tftp_loop.specs.PortOrder.{HasPorts, IsOneOf, port_count, ports_of}
use Rattle.tftp_loop.specs.declared.port_order.PortOrder.{PortOrder}
use Rattle.tftp_loop.specs.Run.{Run}
use Rattle.tftp_loop.specs.declared.port_order.PortRange.{PortRange}

-- the address of the ports, and their range, if there is one
pub record PoolState : Type 0 where
  pub ip : List ℕ
  pub range : Option PortRange

-- the socket is bound to the address, and to a port of the range
pub record IsOfPool (pool : PoolState) (socket : ServerSocket) : Type 0 where
  pub same_ip : socket.ip ≡ pool.ip
  pub port : IsOneOf pool.range socket.port

-- the address, and the range of the order, if there is one
abbrev pub pool_state : List ℕ → Option PortOrder → PoolState
pool_state ip order = record { ip = ip; range = option_map (λ (o : PortOrder). o.range) order }

-- some port of the range comes, if there is one
abbrev pub IsPool : Option PortOrder → Type 0
IsPool order = IfSome order HasPorts

-- how many transfers, of so many, have a port each at once: no more than the range has ports, if
-- there is one
abbrev pub most_of : ℕ → Option PortRange → ℕ
most_of cap None = cap
most_of cap (Some range) = min (port_count range) cap

-- from one trace to the other no socket could be bound to a port, one of the range, if there is
-- one
pub record TriesPort (range : Option PortRange) (before after : List SocketEvent) : Type 0 where
  pub port : ℕ
  pub within : IsOneOf range port
  pub is : after ≡ Quiet (No_socket port) ∷ before

-- the same of zero or more ports
abbrev pub TriesPorts : Option PortRange → List SocketEvent → List SocketEvent → Type 0
TriesPorts range = Run (TriesPort range)

-- the ports to which no socket could be bound by the newest events, one after the other
abbrev pub missed_last : List SocketEvent → List ℕ
missed_last (Quiet (No_socket port) ∷ events) = port ∷ missed_last events
missed_last events = []

-- no socket could be bound to any port of the range, if there is one, by the newest events
abbrev pub AreAllMissed : Option PortRange → List SocketEvent → Type 0
AreAllMissed None events = ⊤
AreAllMissed (Some range) events =
    All (λ port. is_among port (missed_last events) ≡ true) (ports_of range)

-- and of one at least, or of each of the range, if there is one
pub record TriesInVain (range : Option PortRange) (before after : List SocketEvent) : Type 0 where
  pub between : List SocketEvent
  pub earlier : TriesPorts range before between
  pub last : TriesPort range between after
  pub missed : AreAllMissed range after

-- from one trace to the other a new socket is bound to this port, after others were tried
pub record Binds (range : Option PortRange) (before after : List SocketEvent) (port : ℕ)
    : Type 0 where
  pub between : List SocketEvent
  pub earlier : TriesPorts range before between
  pub is : after ≡ Quiet (New_socket port) ∷ between

-- the events of a call that returns a new socket, or none
abbrev pub Tries : Option PortRange → List SocketEvent → List SocketEvent → Option ServerSocket
    → Type 0
Tries range before after None = TriesInVain range before after
Tries range before after (Some socket) = Binds range before after socket.port

-- the trace after a bind to the port, which made this socket, or none
abbrev pub after_bind : ℕ → Option ServerSocket → List SocketEvent → List SocketEvent
after_bind port (Some socket) events = Quiet (New_socket socket.port) ∷ events
after_bind port None events = Quiet (No_socket port) ∷ events
