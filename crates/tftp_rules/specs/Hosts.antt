-- A network of two hosts: one server, and one host that its clients share.
use Rattle.std.specs.Prelude.{ℕ, if◌then◌else◌, List, [], ◌∷◌}
use Rattle.tftp_rules.specs.Machine.{Endpoint, is_same_ip, Host, At_server, At_client, Elsewhere}
use Rattle.tftp_rules.specs.Machine.{Network}

-- 10.0.0.1
abbrev pub server_ip : List ℕ
server_ip = 10 ∷ 0 ∷ 0 ∷ 1 ∷ []

-- 10.0.0.2
abbrev pub client_ip : List ℕ
client_ip = 10 ∷ 0 ∷ 0 ∷ 2 ∷ []

-- the host of this address
abbrev pub host_at : List ℕ → Host
host_at ip =
    if is_same_ip ip server_ip then At_server
    else if is_same_ip ip client_ip then At_client else Elsewhere

-- the host of this endpoint
unfoldable pub host_of : Endpoint → Host
host_of e = host_at e.ip

-- the server's request port (RFC 1350, section 4)
abbrev pub request_port : Endpoint
request_port = record { ip = server_ip; port = 69 }

-- the network of these two hosts
abbrev pub two_hosts : Network
two_hosts = record { host_of = host_of; request_port = request_port }
