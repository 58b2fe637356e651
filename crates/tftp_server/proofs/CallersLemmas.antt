-- A step that is lent a file, and a transfer that is held, as the server's list has them. For `Server::hold`,
-- `Server::lend_sink` and `Server::lend_source`.
use Rattle.std.proofs.Common.{◌≡◌, ℕ, List, Some, Result, Ok, Err, IfOk, refl, sym, ap}
use Rattle.tftp_file.specs.declared.files.Files.{Files}
use Rattle.tftp_ends.specs.declared.fault.EndFault.{EndFault}
use Rattle.tftp_ends.specs.declared.outgoing.Outgoing.{Outgoing}
use Rattle.tftp_ends.specs.declared.record.Step.{Step}
use Rattle.tftp_ends.specs.End.{EndState}
use Rattle.tftp_ends.specs.Step.{Turn, Lends, reported}
use Rattle.tftp_server.specs.declared.config.Config.{Config}
use Rattle.tftp_server.specs.CallersFiles.{StepsLent}
use Rattle.tftp_server.specs.Fault.{by_end}
use Rattle.tftp_server.specs.State.{TransferState, ServerState, at, with_new, with_next}
use Rattle.tftp_server.specs.Steps.{with_end}

module _ {F D : Type 0} (tid : ℕ) (held : List (ℕ × TransferState F D)) (transfer next : TransferState F D)
    (found : Some transfer ≡ at tid held) where
  -- the step of the transfer that was found
  pub lent_step : (makes : EndState → Turn → Type 0) (r : Result (Step × Outgoing) EndFault) →
      IfOk r (λ answer. (turn : Turn) × makes transfer.end turn
      × Lends transfer.end turn next.end answer.0.to answer.1
      × (answer.0 ≡ reported transfer.end turn) × (next ≡ with_end next.end transfer)) →
      IfOk (by_end r) (λ answer. StepsLent makes tid held (with_next tid next held) answer.0 answer.1)
  lent_step makes (Ok answer) h = search (sym found, ap (λ (t : TransferState F D). with_next tid t held) h.4)
  lent_step makes (Err fault) h = tt

-- the server with a new transfer
pub held_new : {S F D : Type 0} (config : Config) (store : S) (tid : ℕ)
    (table table' : List (ℕ × TransferState F D)) (transfer : TransferState F D) (end : EndState)
    (files : Files F D) (path request bytes : List ℕ) →
    table' ≡ with_new tid transfer table →
    transfer ≡ record { end = end; files = files; path = path; request = request } →
    request ≡ bytes →
    ◌≡◌ {A = ServerState S F D} (record { config = config; store = store; held = table' })
    (record {
      config = config;
      store = store;
      held = with_new tid (record { end = end; files = files; path = path; request = bytes }) table;
    })
held_new config store tid table table' transfer end files path request bytes inserted made same =
    rw (inserted, made, same) refl
