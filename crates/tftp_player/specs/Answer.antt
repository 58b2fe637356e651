-- What the server's request port answers, in the words of a world.
use Rattle.std.specs.Prelude.{ℕ, ◌≡◌, false, List, [], Option, Some, None}
use Rattle.tftp_player.specs.Common.{Packet, Files, Source, Sink, Decodes, is_sender, error_bytes}
use Rattle.tftp_player.specs.Common.{Service, Silent, Refused, Sends, Takes, Drafted, new_draft}
use Rattle.tftp_player.specs.Common.{OpenEnd, Endpoint}
use Rattle.tftp_server.specs.declared.server.admission.Occupancy.{Occupancy}
use Rattle.tftp_player.specs.Openings.{sending_end, receiving_end}
use Rattle.tftp_player.specs.Requests.{open_transfers, service}
use Rattle.tftp_player.specs.ServerEnd.{PlayedServer, ServerTransfer, file_sent}
use Rattle.tftp_player.specs.World.{WorldState, StoredFile, file_at}
use Rattle.tftp_player.specs.declared.ends.asking.Answer.{Answer}
use Rattle.tftp_player.specs.declared.server_end.ServerEnd.{ServerEnd}

-- the server's configuration and its files are the world's
pub record IsServerOf (w : WorldState) (server : PlayedServer) : Type 0 where
  pub files : server.store.files ≡ w.files
  pub limits : server.config.limits ≡ w.limits
  pub retries : server.config.retries ≡ w.retries
  pub cap : server.config.cap ≡ w.cap
  pub overwrite : server.config.overwrite ≡ w.overwrite

-- the end of the server whose transfer was released
abbrev pub released_end : ServerTransfer → List StoredFile → ServerEnd
released_end transfer files =
    record {
      transfer = transfer;
      file = file_sent (is_sender transfer.end.role.side) (file_at files transfer.path);
      refuses = false;
    }

-- an end of the server as it opens, with its source or its draft
abbrev pub opening_end : OpenEnd → Files (List ℕ) Drafted → ServerEnd
opening_end x files =
    record {
      transfer =
          record { end = x.state; files = files; path = x.path; request = x.request };
      file = x.file;
      refuses = false;
    }

-- this end opens, and sends its first datagram
pub record AnswerOpens (x : OpenEnd) (files : Files (List ℕ) Drafted) (from : Endpoint)
    (answer : Answer) : Type 0 where
  pub to : answer.to ≡ Some from
  pub bytes : answer.bytes.items ≡ x.state.position.last_sent
  pub opened : answer.opened ≡ Some (opening_end x files)

-- no end opens
pub record AnswerSends (there : Option Endpoint) (sent : List ℕ) (answer : Answer) : Type 0 where
  pub to : answer.to ≡ there
  pub bytes : answer.bytes.items ≡ sent
  pub opened : answer.opened ≡ None

-- the answer of this service
abbrev pub AnswersAs : Service → WorldState → Endpoint → List ℕ → Answer → Type 0
AnswersAs Silent w from bytes answer = AnswerSends None [] answer
AnswersAs (Refused reply) w from bytes answer =
    AnswerSends (Some from) (error_bytes reply) answer
AnswersAs (Sends path mode length agreed) w from bytes answer =
    (file : List ℕ) × (file_at w.files path ≡ Some file)
    × AnswerOpens (sending_end w from bytes mode path file agreed)
    (Source (sending_end w from bytes mode path file agreed).left) from answer
AnswersAs (Takes path mode agreed) w from bytes answer =
    AnswerOpens (receiving_end w from bytes mode path agreed) (Sink new_draft) from answer

-- that to a datagram which finds these transfers, in each world of the server
abbrev pub AnswersAll : PlayedServer → Occupancy → Endpoint → List ℕ → Answer → Type 0
AnswersAll server occupancy from bytes answer =
    (w : WorldState) (decoded : Option Packet) → IsServerOf w server
    → occupancy.count ≡ open_transfers w.ends → Decodes bytes decoded
    → AnswersAs (service w occupancy.is_repeated bytes decoded) w from bytes answer
