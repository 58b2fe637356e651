-- The result of an event, before it is recorded in the world.
use Rattle.std.specs.Prelude.{ℕ, List, [], ◌∷◌, length, Option, Some, None, option_map}
use Rattle.tftp_player.specs.Common.{outcome_of, Turn, Reply, Datagram, Effect, Report, Endpoint}
use Rattle.tftp_ends.specs.Step.{reply_bytes}
use Rattle.tftp_player.specs.World.{datagram, closed_at}

-- the result of a step of the end there
abbrev pub effect_of : Endpoint → Turn → Effect
effect_of at turn =
    record {
      from = at;
      to = option_map (λ (r : Reply). r.to) turn.reply;
      bytes = reply_bytes turn.reply;
      closed = outcome_of turn.position.phase;
    }

-- no datagram is sent, and no end closes
abbrev pub no_effect : Endpoint → Effect
no_effect at = record { from = at; to = None; bytes = []; closed = None }

-- the datagram that is sent from there, if any
abbrev pub said_by : Endpoint → Option Endpoint → List ℕ → List Datagram
said_by from None bytes = []
said_by from (Some to) bytes = datagram from to bytes ∷ []

-- its index in all that was sent
abbrev pub index_after : List Datagram → Option Endpoint → Option ℕ
index_after sent None = None
index_after sent (Some to) = Some (length sent)

-- the report of it
abbrev pub report_by : List Datagram → Effect → Report
report_by sent effect =
    record { added = index_after sent effect.to; closed = closed_at effect.from effect.closed }
