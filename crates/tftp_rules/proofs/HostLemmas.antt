-- The host of an endpoint, by its address. For `is_foreign` and the crate tftp_player.
use Rattle.tftp_rules.proofs.Common.{◌≡◌, refl, rules, Bool, not, if◌then◌else◌, ◌&&◌, client_ip, server_ip, host_of}
use Rattle.tftp_rules.proofs.Common.{Endpoint, Elsewhere, At_server, At_client, is_same_ip}
use Rattle.std.specs.Prelude.{◌↔◌, IsTrue}
use Rattle.tftp_rules.specs.Machine.{Host}

-- an endpoint with the server's address is at the server, and one with the clients' at a client
pub host_server : (a : Endpoint) → a.ip ≡ server_ip → host_of a ≡ At_server
unfolding host_of
host_server a e = rw e refl

-- an endpoint with the client's address is on the client's host
pub host_client : (a : Endpoint) → a.ip ≡ client_ip → host_of a ≡ At_client
unfolding host_of
host_client a e = rw e refl

-- the host of an endpoint, by whether its address is the server's or the clients'
host_by : (a : Endpoint) (s c : Bool) → is_same_ip a.ip server_ip ≡ s → is_same_ip a.ip client_ip ≡ c →
    host_of a ≡ (if s then At_server else if c then At_client else Elsewhere)
unfolding host_of
host_by a s c e f = search rules

by_tests : (s c : Bool) (h : Host) → h ≡ (if s then At_server else if c then At_client else Elsewhere) →
    IsTrue (not s && not c) ↔ (h ≡ Elsewhere)
by_tests s c h e = search rules

-- an endpoint is at neither host if its address is not one of the two
pub foreign_by : (a : Endpoint) →
    IsTrue (not (is_same_ip a.ip server_ip) && not (is_same_ip a.ip client_ip)) ↔ (host_of a ≡ Elsewhere)
foreign_by a = search (rules, by_tests, host_by)
