-- The effect of a datagram on the ends of a world and the server, for every list of sent datagrams.
use Rattle.std.specs.Prelude.{ℕ, ◌≡◌, ◌+◌, ◌<◌, ⊤, List, ◌++◌, length}
use Rattle.tftp_player.specs.Common.{host_of, request_port, Datagram, Effect, Event, Stray}
use Rattle.tftp_player.specs.Common.{WorldFault, NoPort, Memory, Endpoint}
use Rattle.tftp_player.specs.Effect.{said_by, report_by}
use Rattle.tftp_rules.specs.Machine.{Elsewhere as Far}
use Rattle.tftp_player.specs.ServerEnd.{PlayedServer}
use Rattle.tftp_player.specs.Simulation.{world_of}
use Rattle.tftp_player.specs.World.{WorldState, WorldEnd}
use Rattle.tftp_player.specs.WorldSteps.{Delivery, LacksPort}

-- why an arrival is refused
abbrev pub ArrivalRefuses : WorldState → Endpoint → WorldFault → Type 0
ArrivalRefuses w to NoPort = LacksPort w to
ArrivalRefuses w to Memory = LacksPort w to → ⊥
ArrivalRefuses w to fault = ⊥

-- the result of a datagram, for every list of sent datagrams
abbrev pub EndsDelivery : Endpoint → Endpoint → List ℕ → PlayedServer → PlayedServer
    → List WorldEnd → List WorldEnd → Effect → Type 0
EndsDelivery from to bytes before after ends ends' effect =
    (sent : List Datagram)
    → Delivery (world_of before.config sent before ends) from to bytes (report_by sent effect)
    (world_of before.config (sent ++ said_by effect.from effect.to effect.bytes) after ends')

-- the result of a datagram at the request port, for every list of sent datagrams
abbrev pub EndsAsk : Endpoint → List ℕ → PlayedServer → PlayedServer → List WorldEnd
    → List WorldEnd → Effect → Type 0
EndsAsk from bytes before after ends ends' effect =
    EndsDelivery from request_port bytes before after ends ends' effect

-- no port is left for an end that the datagram could open
abbrev pub EndsLackPort : Endpoint → List WorldEnd → Type 0
EndsLackPort to ends = (to ≡ request_port) × (65535 < 1024 + length ends)

-- why it is refused
abbrev pub EndsRefuse : Endpoint → List WorldEnd → WorldFault → Type 0
EndsRefuse to ends NoPort = EndsLackPort to ends
EndsRefuse to ends Memory = EndsLackPort to ends → ⊥
EndsRefuse to ends fault = ⊥

-- the event can be played: the sender of a stray is at neither host
abbrev pub IsPlayable : Event → Type 0
IsPlayable (Stray from to bytes) = host_of from ≡ Far
IsPlayable event = ⊤
