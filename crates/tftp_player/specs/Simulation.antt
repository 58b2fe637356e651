-- The ends of a world with its server, and the effect of an event.
use Rattle.std.specs.Prelude.{ℕ, ◌+◌, ◌≡◌, ◌≢◌, ◌⊎◌, ◌-◌, nat_lt, if◌then◌else◌, Bool, false, List}
use Rattle.std.specs.Prelude.{[], ◌∷◌, ◌++◌, slice_get, slice_set, Option, Some, None, option_map}
use Rattle.std.specs.Prelude.{option_and_then, unwrap_or}
use Rattle.tftp_player.specs.Common.{Record, is_sender, Config, Datagram, Effect, Report, Endpoint}
use Rattle.tftp_player.specs.Effect.{no_effect, said_by, report_by}
use Rattle.tftp_player.specs.EndSteps.{EndTimesOut, EndTakes}
use Rattle.tftp_player.specs.Played.{client_end, records_from}
use Rattle.tftp_player.specs.PlayedClient.{PlayedClient}
use Rattle.tftp_player.specs.ServerEnd.{PlayedServer}
use Rattle.tftp_player.specs.World.{WorldState, WorldEnd, end_record, end_address, end_stored}
use Rattle.tftp_player.specs.World.{end_committed, next_port, standing}
use Rattle.tftp_player.specs.WorldSteps.{HasPort}
use Rattle.tftp_player.specs.declared.client.ClientSetup.{ClientSetup}
use Rattle.tftp_player.specs.declared.ends.Ends.{Ends}

-- the ends, the server and the records are consistent
pub record ArePartsConsistent (server : PlayedServer) (ends : List WorldEnd)
    (records : List (ℕ × Record)) : Type 0 where
  pub recorded : records ≡ records_from 1024 ends
  -- the end at index k has port 1024 + k
  pub ports : (k : ℕ) (x : WorldEnd) → slice_get ends k ≡ Some x
      → (end_address x).port ≡ 1024 + k
  -- each transfer is with its end, and none with the server
  pub empty : server.held ≡ []
  -- between two events the store is not set to refuse
  pub quiet : server.store.refuses ≡ false

-- the same of the struct that holds them
abbrev pub AreConsistent : Ends → Type 0
AreConsistent ends = ArePartsConsistent ends.server ends.players.items ends.records.items

-- nothing but the reserved capacity has changed
abbrev pub AreAsBefore : Ends → Ends → Type 0
AreAsBefore old new = (new.server ≡ old.server) × (new.players.items ≡ old.players.items)

-- a timeout of the end at this index: all ends after it
pub record EndsTimeOut (index : ℕ) (ends ends' : List WorldEnd) (effect : Effect) : Type 0 where
  pub end : WorldEnd
  pub next : WorldEnd
  pub found : slice_get ends index ≡ Some end
  pub times_out : EndTimesOut end next effect
  pub is : ends' ≡ slice_set ends index next

-- the end at a port
abbrev pub opened_at : List WorldEnd → ℕ → Option WorldEnd
opened_at ends port = if nat_lt port 1024 then None else slice_get ends (port - 1024)

-- what a receiver has stored
abbrev pub stored_in : WorldEnd → Option (List ℕ)
stored_in x = if is_sender (end_record x).side then None else Some (end_stored x)

abbrev pub stored_at : List WorldEnd → ℕ → Option (List ℕ)
stored_at ends port = option_and_then stored_in (opened_at ends port)

-- whether it is committed
abbrev pub committed_at : List WorldEnd → ℕ → Bool
committed_at ends port = unwrap_or (option_map end_committed (opened_at ends port)) false

-- the world that is played by these
abbrev pub world_of : Config → List Datagram → PlayedServer → List WorldEnd → WorldState
world_of config sent server ends =
    record {
      sent = sent;
      files = server.store.files;
      ends = ends;
      limits = config.limits;
      retries = config.retries;
      cap = config.cap;
      overwrite = config.overwrite;
    }

-- what a world gives its next client
pub record IsSetup (w : WorldState) (setup : ClientSetup) : Type 0 where
  pub port : setup.port ≡ next_port w
  pub has : HasPort w
  pub limits : setup.config.limits ≡ w.limits
  pub retries : setup.config.retries ≡ w.retries

-- another client opened, at this port, and sent this
pub record Enters (old : WorldState) (port : ℕ) (c : PlayedClient) (effect : Effect)
    (report : Report) (new : WorldState) : Type 0 where
  pub reports : report ≡ report_by old.sent effect
  pub is : new ≡ record old {
    sent = old.sent ++ said_by effect.from effect.to effect.bytes;
    ends = old.ends ++ standing (client_end port c) ∷ [];
  }

-- the datagram was lost
pub record LostAt (to : Endpoint) (before after : PlayedServer) (ends ends' : List WorldEnd)
    (effect : Effect) : Type 0 where
  pub effects : effect ≡ no_effect to
  pub next : ends' ≡ ends
  pub stays : after.store.files ≡ before.store.files

-- a datagram was handled by the end at this index
pub record EndTakesAt (index : ℕ) (end : WorldEnd) (from : Endpoint) (bytes : List ℕ)
    (before after : PlayedServer) (ends ends' : List WorldEnd) (effect : Effect) : Type 0 where
  pub next : WorldEnd
  pub takes : EndTakes before.config.overwrite from bytes end next before.store.files
      after.store.files effect
  pub is : ends' ≡ slice_set ends index next

-- a datagram for the end at this index: all ends and the server after it
pub record EndsTake (index : ℕ) (from to : Endpoint) (bytes : List ℕ)
    (before after : PlayedServer) (ends ends' : List WorldEnd) (effect : Effect) : Type 0 where
  pub end : WorldEnd
  pub found : slice_get ends index ≡ Some end
  pub comes : ((end_address end ≢ to) × LostAt to before after ends ends' effect)
      ⊎ ((end_address end ≡ to) × EndTakesAt index end from bytes before after ends ends' effect)
  pub config : after.config ≡ before.config
