-- The address of a server as text, for runs that show that the premises of a law can be met.
use Rattle.std.proofs.Common.{◌∙◌, ◌∷◌, Some, List, [], append-nil, refl, subst, sym, ℕ}
use Rattle.std.proofs.NetLemmas.Sockets.{read_socket_v4_sound}
use Rattle.std.specs.Net.Grammar.{IsSocketV4Text}
use Rattle.std.specs.Net.Reader.{read_ipv4, read_number, read_octet, read_port, read_socket_v4}
use Rattle.std.specs.Prelude.{codes}
use Rattle.std.specs.declared.net.socket_addr.SocketAddrV4.{SocketAddrV4}
use Rattle.tftp_ends.specs.declared.endpoint.Endpoint.{Endpoint}
use Rattle.tftp_sockets.specs.Address.{Names}

abbrev pub server : Endpoint
server = record { ip = 1 ∷ 2 ∷ 3 ∷ 4 ∷ []; port = 69 }

pub its_name : Names (codes "1.2.3.4:69") (Some server)
unfolding read_socket_v4 read_ipv4 read_octet read_number read_port
its_name =
    let address : SocketAddrV4 = record { ip = record { octets = server.ip }; port = server.port } in
    let read = read_socket_v4_sound (codes "1.2.3.4:69") [] address refl in (
      address,
      subst (λ (text : List ℕ). IsSocketV4Text text address) (sym (read.1 ∙ append-nil read.0)) read.2,
      record { ip = refl; port = refl },
    )
