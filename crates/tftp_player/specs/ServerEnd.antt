-- An end of a world's server, as the struct that plays it holds it.
use Rattle.std.specs.Prelude.{ℕ, ◌≡◌, Bool, true, false, ◌&&◌, not, if◌then◌else◌, is_some, List}
use Rattle.std.specs.Prelude.{[], Option, Some, None, ⊤}
use Rattle.tftp_player.specs.Common.{memory_source, Files, Source, Sink, Phase, is_client}
use Rattle.tftp_player.specs.Common.{AreFilesOf, AreSame, Turn, after_turn, timeout_turn, Drafted}
use Rattle.tftp_player.specs.Common.{new_draft, Effect, Endpoint}
use Rattle.tftp_ends.specs.End.{is_complete, terms_of}
use Rattle.tftp_server.specs.Draft.{files_in, KeepsStore}
use Rattle.tftp_store.specs.Memory.{memory_meaning, with_armed}
use Rattle.tftp_server.specs.State.{TransferState, ServerState, draft_of, is_closed}
use Rattle.tftp_server.specs.Steps.{StepIn, with_end}
use Rattle.tftp_store.specs.Store.{Stored}
use Rattle.tftp_player.specs.Clients.{server_at}
use Rattle.tftp_player.specs.Effect.{effect_of}
use Rattle.tftp_player.specs.declared.server_end.ServerEnd.{ServerEnd}

-- the server that is asked, and a transfer that it opened
abbrev pub PlayedServer : Type 0
PlayedServer = ServerState Stored (List ℕ) Drafted

abbrev pub ServerTransfer : Type 0
ServerTransfer = TransferState (List ℕ) Drafted

-- the server, with its store set to refuse or not
abbrev pub server_armed : PlayedServer → Bool → PlayedServer
server_armed server armed = record server { store = with_armed server.store armed }

-- a draft, or an empty one
abbrev pub draft_or_new : Option Drafted → Drafted
draft_or_new None = new_draft
draft_or_new (Some draft) = draft

-- the draft of an end
abbrev pub server_end_draft : ServerEnd → Option Drafted
server_end_draft s = draft_of s.transfer.files

-- the file of a sender, by what was at its path; a receiver has none
abbrev pub file_sent : Bool → Option (List ℕ) → List ℕ
file_sent true (Some file) = file
file_sent true None = []
file_sent false there = []

-- a draft is not committed before its end is complete
abbrev pub CommitsLast : Files (List ℕ) Drafted → Phase → Type 0
CommitsLast (Source left) phase = Unit {0}
CommitsLast (Sink draft) phase = is_complete phase ≡ false → draft.committed ≡ false

-- what holds of an end of the server: it has a peer, and the file of its side
pub record ServerEndKept (s : ServerEnd) : Type 0 where
  pub side : is_client s.transfer.end.role.side ≡ false
  pub files : AreFilesOf s.transfer.end.role.side s.transfer.files
  pub commits : CommitsLast s.transfer.files s.transfer.end.position.phase
  pub known : is_some (terms_of s.transfer.end.position.phase) ≡ true

-- the step of a timeout
pub record ServerEndTimesOut (port : ℕ) (old new : ServerEnd) (effect : Effect) : Type 0 where
  pub effects : effect ≡ effect_of (server_at port) (timeout_turn old.transfer.end)
  pub next : new ≡ record old {
    transfer = with_end (after_turn old.transfer.end (timeout_turn old.transfer.end)) old.transfer;
  }

-- the step of a datagram: while it is handled the store is set to refuse as the end is
pub record ServerEndTakes (port : ℕ) (from : Endpoint) (bytes : List ℕ) (old new : ServerEnd)
    (before after : PlayedServer) (effect : Effect) : Type 0 where
  pub turn : Turn
  pub store : Stored
  pub steps : StepIn memory_meaning memory_source from bytes old.transfer.end
      (files_in (with_armed before.store old.refuses) old.transfer.path before.config.overwrite
      old.transfer.files)
      turn (files_in store new.transfer.path before.config.overwrite new.transfer.files)
  pub stays : KeepsStore old.transfer.files (with_armed before.store old.refuses) store
  pub kind : AreSame (λ (a b : List ℕ). ⊤) (λ (a b : Drafted). ⊤) old.transfer.files
      new.transfer.files
  pub end : new.transfer.end ≡ after_turn old.transfer.end turn
  pub path : new.transfer.path ≡ old.transfer.path
  pub request : new.transfer.request ≡ old.transfer.request
  pub file : new.file ≡ old.file
  pub refuses : new.refuses ≡ store.refuses
  pub effects : effect ≡ effect_of (server_at port) turn
  pub server : after ≡ record before { store = with_armed store false }

-- the end, set to refuse its next append or commit if it is an open receiver
abbrev pub armed_server_end : ServerEnd → ServerEnd
armed_server_end s =
    if not (is_closed s.transfer) && is_some (server_end_draft s) then
    record s { refuses = true } else s
