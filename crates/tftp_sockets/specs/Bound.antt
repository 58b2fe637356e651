-- Where a socket is bound (RFC 1350, section 4).
use Rattle.std.specs.Prelude.{ℕ, ◌≡◌, ◌≢◌, List}
use Rattle.tftp_ends.specs.declared.endpoint.Endpoint.{Endpoint}

-- a socket of this address and port is bound as it was told: to that address, and to that port, or
-- to one that the system chose for 0; and it has a port, which 0 is none (RFC 768)
pub record IsBoundTo (at : Endpoint) (ip : List ℕ) (port : ℕ) : Type 0 where
  pub same_ip : ip ≡ at.ip
  pub same_port : at.port ≢ 0 → port ≡ at.port
  pub has_port : port ≢ 0
