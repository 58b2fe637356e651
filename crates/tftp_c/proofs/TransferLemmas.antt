-- A step of a transfer that a server holds, as an event reports it.
use Rattle.tftp_c.proofs.Common.{ℕ, false, length, take, Option, Some, IsSome, refl, ap, sym, subst, ◌∙◌, Endpoint}
use Rattle.tftp_c.proofs.Common.{Outgoing, EndState, ReceiverStep, Lends, reported, sink_through, at, TftpEndpoint}
use Rattle.tftp_c.proofs.Common.{TftpEvent, endpoint_of, Table}
use Rattle.std.specs.Prelude.{◌≡◌, ◌-◌, List}
use Rattle.tftp_ends.specs.declared.record.Step.{Step}
use Rattle.tftp_ends.specs.OneFile.{SenderStep}
use Rattle.tftp_ends.specs.Step.{lent, timeout_turn}
use Rattle.tftp_file.specs.Memory.{memory_sink, memory_source, new_mem_sink}
use Rattle.tftp_server.specs.CallersFiles.{SendsLent, StoresLent}
use Rattle.tftp_server.proofs.HeldLemmas.{next_there}
use Rattle.tftp_server.specs.State.{with_next}
use Rattle.tftp_server.specs.Steps.{TimesOutLent, with_end}
use Rattle.tftp_c.specs.declared.slice_sink.SliceSink.{SliceSink}
use Rattle.tftp_c.specs.Handled.{Received, Sent, Stored, Taken, TimedOut}
use Rattle.tftp_c.specs.Reports.{Reports, Sends}
use Rattle.tftp_c.specs.HeldServer.{CallersTransfer, StepsAt}
use Rattle.tftp_c.proofs.ReplyLemmas.{received, sent, timed_out}
use Rattle.tftp_c.proofs.StoredLemmas.{seen, stored_made}

pub some_of : {T : Type 0} (o : Option T) (x : T) → o ≡ Some x → IsSome o
some_of {T = T} o x is = subst (λ (p : Option T). IsSome p) (sym is) refl

-- a transfer that made a step is held
pub held_after : (tid : ℕ) (old new : List (ℕ × CallersTransfer)) (was now : CallersTransfer) → at tid old ≡ Some was →
    new ≡ with_next tid now old → IsSome (at tid new)
held_after tid old new was now found is =
    subst (λ (h : List (ℕ × CallersTransfer)). IsSome (at tid h)) (sym is)
    (some_of (at tid (with_next tid now old)) now (next_there tid old was now found))

module _ (tid : ℕ) {does : EndState → EndState → Type 0} (old new : Table) (h : StepsAt tid does old new) where
  -- the transfer after its step
  abbrev stepped : CallersTransfer
  stepped = with_end h.end h.transfer

  stepped_there : at tid new.held ≡ Some stepped
  stepped_there =
      subst (λ (t : Table). at tid t.held ≡ Some stepped) (sym h.held)
      (next_there tid old.held h.transfer stepped h.found)

  -- what is known of the end after it
  pub steps_as : (makes : EndState → EndState → Type 0) (after : EndState → Type 0) →
      ((it : CallersTransfer) → at tid new.held ≡ Some it → after it.end) →
      ((before e : EndState) → does before e → after e → makes before e) →
      StepsAt tid makes old new
  steps_as makes after known then =
      record {
        transfer = h.transfer;
        found = h.found;
        end = h.end;
        steps = then h.transfer.end h.end h.steps (known stepped stepped_there);
        held = h.held;
      }

-- what an event tells of an end: the datagram to send, and its state
abbrev Told : Step → Outgoing → List ℕ → TftpEvent → EndState → Type 0
Told step outgoing reply event e = Sends step.to (lent outgoing e) reply event × Reports e event

module _ (tid : ℕ) (old new : Table) (step : Step) (outgoing : Outgoing) (count : ℕ) (reply : List ℕ)
    (event : TftpEvent)
    (sends : (it : CallersTransfer) → at tid new.held ≡ Some it → Sends step.to (lent outgoing it.end) reply event)
    (reports : (it : CallersTransfer) → at tid new.held ≡ Some it → Reports it.end event)
    (file : event.file_len ≡ count) (progress : event.progress ≡ step.progress) where
  told : (it : CallersTransfer) → at tid new.held ≡ Some it → Told step outgoing reply event it.end
  told it there = (sends it there, reports it there)

  pub received_at : (from : TftpEndpoint) (at : Endpoint) (datagram room bytes : List ℕ) → at ≡ endpoint_of from →
      StepsAt tid (λ before e. Stored at datagram before e room bytes step outgoing count) old new →
      StepsAt tid (λ before e. Received from datagram before e room bytes reply event) old new
  received_at from at datagram room bytes is h =
      steps_as tid old new h (λ before e. Received from datagram before e room bytes reply event)
      (Told step outgoing reply event) told
      (λ before e s t.
      received from at datagram before e room bytes step outgoing count reply event is s t.0 file progress t.1)

  pub sent_at : (from : TftpEndpoint) (at : Endpoint) (datagram next : List ℕ) → at ≡ endpoint_of from →
      StepsAt tid (λ before e. Taken at datagram before e next step outgoing count) old new →
      StepsAt tid (λ before e. Sent from datagram before e next reply event) old new
  sent_at from at datagram next is h =
      steps_as tid old new h (λ before e. Sent from datagram before e next reply event)
      (Told step outgoing reply event) told
      (λ before e s t.
      sent from at datagram before e next step outgoing count reply event is s t.0 file progress t.1)

  pub timed_out_at :
      StepsAt tid (λ before e. Lends before (timeout_turn before) e step.to outgoing
      × (step ≡ reported before (timeout_turn before))) old new →
      count ≡ 0 →
      StepsAt tid (λ before e. TimedOut before e reply event) old new
  timed_out_at h none =
      steps_as tid old new h (λ before e. TimedOut before e reply event)
      (Told step outgoing reply event) told
      (λ before e s t. timed_out before e step outgoing reply event s.0 s.1 t.0 (file ∙ none) progress t.1)

-- ---- what the server's calls make, as steps of a transfer
module _ (tid : ℕ) (old new : Table) (step : Step) (outgoing : Outgoing) (rest : new ≡ record old { held = new.held }) where
  -- the table has the transfer after its step
  with_step : (it : CallersTransfer) → new.held ≡ with_next tid it old.held → new ≡ record old { held = with_next tid it old.held }
  with_step it held = rest ∙ ap (λ (h : List (ℕ × CallersTransfer)). record old { held = h }) held

  pub lent_at : TimesOutLent tid old.held new.held step outgoing →
      StepsAt tid (λ before e. Lends before (timeout_turn before) e step.to outgoing
      × (step ≡ reported before (timeout_turn before))) old new
  lent_at h =
      record {
        transfer = h.transfer;
        found = h.found;
        end = h.end;
        steps = (h.carries, h.reports);
        held = with_step (with_end h.end h.transfer) h.held;
      }

  pub stored_at : (from : Endpoint) (datagram : List ℕ) (k k' : SliceSink) (room file : List ℕ) (count : ℕ) →
      seen k ≡ new_mem_sink (length room) false →
      file ≡ k'.room.now →
      count ≡ k'.used →
      StoresLent (sink_through memory_sink seen) k k' from datagram tid old.held new.held step outgoing →
      StepsAt tid (λ before e. Stored from datagram before e room file step outgoing count) old new
  stored_at from datagram k k' room file count empty same used h =
      record {
        transfer = h.transfer;
        found = h.found;
        end = h.end;
        steps = stored_made from datagram h.transfer.end h.end k k' room file step outgoing count empty same used
            (h.turn, h.steps, h.lends, h.reports);
        held = with_step (with_end h.end h.transfer) h.held;
      }

  pub taken_at : (from : Endpoint) (datagram next source left : List ℕ) (count : ℕ) →
      source ≡ next →
      count ≡ length next - length left →
      SendsLent memory_source source left from datagram tid old.held new.held step outgoing →
      StepsAt tid (λ before e. Taken from datagram before e next step outgoing count) old new
  taken_at from datagram next source left count same taken h =
      record {
        transfer = h.transfer;
        found = h.found;
        end = h.end;
        steps = record {
          turn = h.turn;
          rest = left;
          makes = subst (λ (n : List ℕ). SenderStep memory_source from datagram h.transfer.end n h.turn left) same h.steps;
          lends = h.lends;
          reports = h.reports;
          taken = taken;
        };
        held = with_step (with_end h.end h.transfer) h.held;
      }
