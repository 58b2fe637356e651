-- The step of the loop in which a transfer handles a datagram, made of the step of its end: for runs that show that the
-- premises of a law can be met.
use Rattle.tftp_loop.proofs.Common.{Endpoint, Files, List, Received, Some, SourceMeaning, StoreMeaning}
use Rattle.tftp_loop.proofs.Common.{TransferState, Turn, after_turn, answered, at, false, is_closed, length, lent, refl}
use Rattle.tftp_loop.proofs.Common.{slice_index_or, slice_set, with_next, ℕ, ⊤, ◌<◌, ◌≡◌, ◌≤◌, ◌∷◌}
use Rattle.tftp_ends.specs.Files.{AreSame}
use Rattle.tftp_ends.specs.Step.{reply_bytes, reported}
use Rattle.tftp_ends.specs.declared.outgoing.Outgoing.{Outgoing}
use Rattle.tftp_server.specs.Draft.{KeepsStore, files_in}
use Rattle.tftp_server.specs.Steps.{StepIn}
use Rattle.tftp_loop.specs.Steps.{LoopState, LoopStep, PortState, Timer, most_in_round, timer_after}
use Rattle.tftp_loop.specs.Steps.LoopStep.{At_port}
use Rattle.tftp_loop.specs.Steps.PortStep.{A_datagram}

-- a transfer at this index of the timers handles a datagram by this turn, with this file and this store after it
module _ {S F D : Type 0} (old : LoopState S F D) (index : ℕ) (timer : Timer) (transfer : TransferState F D)
    (from : Endpoint) (bytes : List ℕ) (turn : Turn) (outgoing : Outgoing) (its_store : S) (files : Files F D) where
  abbrev handled : TransferState F D
  handled = record transfer { end = after_turn transfer.end turn; files = files }

  abbrev port_after : PortState S F D
  port_after = record {
    server = record old.server { store = its_store; held = with_next timer.port handled old.server.held };
    timer = timer_after old.now (reported transfer.end turn).progress timer;
    events = answered timer.port turn.reply (Received timer.port from bytes ∷ old.events);
  }

  abbrev pub after_it : LoopState S F D
  after_it = record old {
    server = port_after.server;
    timers = slice_set old.timers index port_after.timer;
    events = port_after.events;
  }

  module _ {stores : StoreMeaning S D} {sources : SourceMeaning F} where
    unfoldable pub handles : old.now ≤ timer.age_limit → timer.received < most_in_round → index < length old.timers →
        timer ≡ slice_index_or old.timers index timer → at timer.port old.server.held ≡ Some transfer →
        is_closed transfer ≡ false → StepIn stores sources from bytes transfer.end
        (files_in old.server.store transfer.path old.server.config.overwrite transfer.files) turn
        (files_in its_store transfer.path old.server.config.overwrite files) →
        lent outgoing (after_turn transfer.end turn) ≡ reply_bytes turn.reply →
        KeepsStore transfer.files old.server.store its_store →
        AreSame (λ (a b : F). ⊤) (λ (a b : D). ⊤) transfer.files files → LoopStep stores sources old after_it
    handles in_time few within is_timer found still steps lends stays kind = At_port (record {
      index = index;
      timer = timer;
      within = within;
      is_timer = is_timer;
      next = port_after;
      does = A_datagram (record {
        few = few;
        in_time = in_time;
        from = from;
        bytes = bytes;
        step = reported transfer.end turn;
        handles = record {
          outgoing = outgoing;
          takes = record {
            transfer = transfer;
            next = handled;
            found = found;
            still = still;
            takes = record {
              turn = turn;
              steps = steps;
              carries = record { state = refl; goes = refl; bytes = lends };
              reports = refl;
              stays = stays;
              kind = kind;
              path = refl;
              request = refl;
            };
            held = refl;
          };
          config = refl;
          events = refl;
        };
        timer = refl;
      });
      is = refl;
    })
