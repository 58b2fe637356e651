-- An endpoint as text, and as a socket's address.
use Rattle.std.specs.Prelude.{ℕ, ◌≡◌, List, ◌∷◌, ◌++◌, decimal, slice_index}
use Rattle.std.specs.Net.Addr.{ipv4_octets}
use Rattle.std.specs.Net.Socket.{v4_ip, v4_port}
use Rattle.std.specs.declared.net.socket_addr.SocketAddrV4.{SocketAddrV4}
use Rattle.tftp_ends.specs.declared.endpoint.Endpoint.{Endpoint}

-- a dot and what follows it
abbrev pub dotted : ℕ → List ℕ → List ℕ
dotted byte rest = 46 ∷ (decimal byte ++ rest)

-- the four bytes of the address with dots between them, a colon and the port, in decimal digits
abbrev pub endpoint_text : Endpoint → List ℕ
endpoint_text e =
    decimal (slice_index e.ip 0)
    ++ dotted (slice_index e.ip 1)
    (dotted (slice_index e.ip 2) (dotted (slice_index e.ip 3) (58 ∷ decimal e.port)))

-- the same address and the same port
pub record IsSameAddress (endpoint : Endpoint) (address : SocketAddrV4) : Type 0 where
  pub ip : endpoint.ip ≡ ipv4_octets (v4_ip address)
  pub port : endpoint.port ≡ v4_port address
