-- Where the programs are in their network.
use Rattle.std.specs.List.{Contains}
use Rattle.std.specs.Prelude.{ℕ, ◌≡◌, Some, slice_get, ◌↔◌}
use Rattle.tftp_promises.specs.Common.{SourceMeaning, StoreMeaning, Endpoint, SinkMeaning}
use Rattle.tftp_promises.specs.Common.{At_server, At_client, Elsewhere}
use Rattle.tftp_promises.specs.Openings.{ArePortsFresh, server_ports}
use Rattle.tftp_promises.specs.Order.{Programs, IsStranger, ClientOf}
use Rattle.tftp_promises.specs.Programs.{endpoint, client_at}
use Rattle.tftp_promises.specs.Network.{joined}

module _ {S F D G K : Type 0} {stores : StoreMeaning S D} {sources : SourceMeaning F}
    {inputs : SourceMeaning G} {outputs : SinkMeaning K}
    (programs : Programs stores sources inputs outputs) where
  -- each client is at a client's endpoint
  abbrev pub ClientsAreThere : Type 0
  ClientsAreThere =
      (k : ℕ) (client : ClientOf programs) → slice_get programs.clients k ≡ Some client
      → (joined programs).host_of (client_at client) ≡ At_client

  -- each port of the server that its clients know is at the server, if the ports are fresh
  abbrev pub ServerIsThere : Type 0
  ServerIsThere =
      ArePortsFresh programs → (port : ℕ) → Contains (server_ports programs) port
      → (joined programs).host_of (endpoint programs.ip port) ≡ At_server

  -- only strangers are elsewhere, so that what is claimed of peers has no other exception
  abbrev pub StrangersAreElsewhere : Type 0
  StrangersAreElsewhere =
      (a : Endpoint) → ((joined programs).host_of a ≡ Elsewhere) ↔ IsStranger programs a
