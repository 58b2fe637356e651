-- The client of a world, as the struct that plays the world holds it.
use Rattle.std.specs.Prelude.{ℕ, ◌≡◌, true, false, if◌then◌else◌, is_some, List, [], Option, Some}
use Rattle.std.specs.Prelude.{None, ⊤}
use Rattle.tftp_player.specs.Common.{Mode, Asked, Files, Source, Sink, Holding, EndState}
use Rattle.tftp_player.specs.Common.{outcome_of, AreSame, Turn, after_turn, server_ip, client_ip}
use Rattle.tftp_player.specs.Common.{request_port, Effect, WorldFault, BadRequest, Memory, Endpoint}
use Rattle.tftp_wire.specs.Spelling.{canonical}
use Rattle.tftp_wire.specs.declared.packet.Packet.TheVariants.{Read, Write}
use Rattle.tftp_ends.specs.declared.fault.OpenFault.{OpenFault}
use Rattle.tftp_ends.specs.declared.fault.OpenFault.TheVariants as opening
use Rattle.tftp_ends.specs.Opening.{request_of}
use Rattle.tftp_player.specs.Effect.{effect_of}
use Rattle.tftp_player.specs.PlayedClient.{PlayedClient}
use Rattle.tftp_player.specs.WorldSteps.{EndStep}

-- the endpoint of a client's end, and of the server's
abbrev pub client_at : ℕ → Endpoint
client_at port = record { ip = client_ip; port = port }

abbrev pub server_at : ℕ → Endpoint
server_at port = record { ip = server_ip; port = port }

-- what a source has left
abbrev pub left_in : {K : Type 0} → Files (List ℕ) K → List ℕ
left_in (Source left) = left
left_in (Sink sink) = []

-- a sink that holds nothing
abbrev pub no_holding : Holding
no_holding = record { bytes = []; committed = false; refuses = false }

-- what a sink holds
abbrev pub holding_in : Files (List ℕ) Holding → Holding
holding_in (Source left) = no_holding
holding_in (Sink holding) = holding

-- a client made this step; `files` is its file after it
pub record ClientTurns (port : ℕ) (old new : PlayedClient) (turn : Turn)
    (files : Files (List ℕ) Holding) (effect : Effect) : Type 0 where
  pub effects : effect ≡ effect_of (client_at port) turn
  pub client : new ≡ record old { end = after_turn old.end turn; files = files }

-- a client handled a datagram
pub record ClientDatagramStep (port : ℕ) (from : Endpoint) (bytes : List ℕ) (old new : PlayedClient)
    (effect : Effect) : Type 0 where
  pub turn : Turn
  pub steps : EndStep true None from bytes old.end old.files turn new.files
  pub kind : AreSame (λ (a b : List ℕ). ⊤) (λ (a b : Holding). ⊤) old.files new.files
  pub turns : ClientTurns port old new turn new.files effect

-- a client that has sent a read request
abbrev pub asking_client : EndState → PlayedClient
asking_client end = record { end = end; files = Sink no_holding; file = [] }

-- its request
abbrev pub asking_effect : ℕ → List ℕ → Mode → Asked → Effect
asking_effect port name mode asked =
    record {
      from = client_at port;
      to = Some request_port;
      bytes = canonical (Read (request_of name mode asked));
      closed = None;
    }

-- a client that has sent a write request for this file, with this text left
abbrev pub sending_client : EndState → List ℕ → List ℕ → PlayedClient
sending_client end left file = record { end = end; files = Source left; file = file }

-- its request
abbrev pub sending_effect : ℕ → List ℕ → Mode → Asked → Effect
sending_effect port name mode asked =
    record {
      from = client_at port;
      to = Some request_port;
      bytes = canonical (Write (request_of name mode asked));
      closed = None;
    }

-- what a receiver has stored
abbrev pub stored_by : Files (List ℕ) Holding → Option (List ℕ)
stored_by (Source left) = None
stored_by (Sink holding) = Some holding.bytes

-- the files, set to refuse the next append or commit
abbrev pub armed_files : Files (List ℕ) Holding → Files (List ℕ) Holding
armed_files (Source left) = Source left
armed_files (Sink holding) = Sink (record holding { refuses = true })

-- the client, set to refuse while it is open
abbrev pub armed_client : PlayedClient → PlayedClient
armed_client c =
    if is_some (outcome_of c.end.position.phase) then c
    else record c { files = armed_files c.files }

-- why no client was opened
abbrev pub open_fault : OpenFault → WorldFault
open_fault opening.BadRequest = BadRequest
open_fault opening.TooLarge = BadRequest
open_fault opening.SourceFault = BadRequest
open_fault opening.Memory = Memory

-- why a client does not open: the request is not possible, or it is out of memory
abbrev pub AskRefuses : Type 0 → WorldFault → Type 0
AskRefuses can BadRequest = can → ⊥
AskRefuses can Memory = can
AskRefuses can fault = ⊥
