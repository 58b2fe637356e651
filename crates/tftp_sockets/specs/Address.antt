-- The endpoint of a socket's address, and the one that a word names (ours).
use Rattle.std.specs.Prelude.{ℕ, List, Option, Some, None}
use Rattle.std.specs.Net.Grammar.{IsSocketV4Text}
use Rattle.std.specs.declared.net.socket_addr.SocketAddr.{SocketAddr}
use Rattle.std.specs.declared.net.socket_addr.SocketAddr.TheVariants.{V4, V6}
use Rattle.std.specs.declared.net.socket_addr.SocketAddrV4.{SocketAddrV4}
use Rattle.tftp_ends.specs.Endpoint.{IsSameAddress}
use Rattle.tftp_ends.specs.declared.endpoint.Endpoint.{Endpoint}

-- the socket address of the endpoint
abbrev pub IsAddressOf : Endpoint → SocketAddr → Type 0
IsAddressOf endpoint (V4 address) = IsSameAddress endpoint address
IsAddressOf endpoint (V6 address) = ⊥

-- the endpoint of a socket address, if it has one
abbrev pub IsEndpointOf : SocketAddr → Option Endpoint → Type 0
IsEndpointOf (V4 address) (Some endpoint) = IsSameAddress endpoint address
IsEndpointOf (V4 address) None = ⊥
IsEndpointOf (V6 address) (Some endpoint) = ⊥
IsEndpointOf (V6 address) None = Unit {0}

-- the endpoint that a word names, if it names one
abbrev pub Names : List ℕ → Option Endpoint → Type 0
Names word (Some endpoint) =
    (address : SocketAddrV4) × IsSocketV4Text word address × IsSameAddress endpoint address
Names word None = (address : SocketAddrV4) → IsSocketV4Text word address → ⊥
