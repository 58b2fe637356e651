-- A server's calls and its socket's datagrams, as steps at a port. For `PortVisit::answer`, `time_out` and Unclosed.
use Rattle.tftp_loop.proofs.Common.{◌≡◌, ℕ, List, Option, Some, IsSome, refl, sym, ap, ◌∙◌, option_map, is_some}
use Rattle.tftp_loop.proofs.Common.{SourceMeaning, Endpoint, Step, EndState, outcome_of, lent, StoreMeaning}
use Rattle.tftp_loop.proofs.Common.{TransferState, ServerState, at, taken_of, KeepsHeld, with_end, SocketEvent, replied}
use Rattle.std.proofs.Common.{Bor, rules}
use Rattle.std.specs.Option.{UnwrapsOrElse}
use Rattle.tftp_ends.specs.declared.outgoing.Outgoing.{Outgoing}
use Rattle.tftp_ends.specs.Shortage.{AppendsNothing}
use Rattle.tftp_server.specs.Steps.{TakesDatagramLent, TimesOutLent, DatagramFaultLent}
use Rattle.tftp_server.specs.Shortage.{LacksMemoryAt}
use Rattle.tftp_server.specs.declared.fault.ServerFault.{ServerFault}
use Rattle.tftp_server.specs.declared.fault.ServerFault.TheVariants.{Memory}
use Rattle.tftp_loop.specs.Steps.{AnswersDatagram, LosesDatagram, AnswersTimeout}
use Rattle.tftp_loop.proofs.Tables.{next_found}

-- the bytes that were lent, or none
pub bytes_lent : (o : Option (Bor (List ℕ))) (P : Bor (List ℕ) → Type 0) (r : Bor (List ℕ)) (m : Option (List ℕ))
    (xs : List ℕ)
    → option_map (λ (b : Bor (List ℕ)). b.now) o ≡ m → m ≡ Some xs → UnwrapsOrElse o P r → r.now ≡ xs
bytes_lent o P r m xs e f u = search rules

module _ {F D : Type 0} where
  -- a transfer that closed can be taken
  pub closed_taken : (o : Option (TransferState F D)) (held : TransferState F D) → o ≡ Some held →
      IsSome (outcome_of held.end.position.phase) → IsSome (taken_of o)
  closed_taken o held e h = rw (e, h) refl

module _ {S F D : Type 0} (meaning : StoreMeaning S D) (sources : SourceMeaning F) (tid : ℕ)
    (old new : ServerState S F D) (step : Step) (outgoing : Outgoing) where
  -- the transfer that made the step is found
  pub found_next : (from : Endpoint) (bytes : List ℕ) (takes : TakesDatagramLent meaning sources tid from bytes old new
      step outgoing)
      → at tid new.held ≡ Some takes.next
  found_next from bytes takes =
      next_found tid old.held new.held takes.transfer takes.next takes.found takes.held

  -- the transfer handled a datagram, and its answer was sent from the port
  pub handled : (port : ℕ) (from : Endpoint) (bytes : List ℕ) (before after : List SocketEvent) (sent : List ℕ)
      → tid ≡ port → (takes : TakesDatagramLent meaning sources tid from bytes old new step outgoing)
      → new ≡ record old { store = new.store; held = new.held } → sent ≡ lent outgoing takes.next.end
      → after ≡ replied port step.to sent before → AnswersDatagram meaning sources port from bytes old new before after
      step
  handled port from bytes before after sent same takes rest lends events =
      rw (← same) (record {
        outgoing = outgoing;
        takes = takes;
        config = ap (λ (s : ServerState S F D). s.config) rest;
        events = search rules;
      })

  -- the transfer closed by the step
  pub closed_by : (port : ℕ) (from : Endpoint) (bytes : List ℕ) → tid ≡ port →
      (takes : TakesDatagramLent meaning sources tid from bytes old new step outgoing)
      → IsSome step.closed → IsSome (taken_of (at port new.held))
  closed_by port from bytes same takes h =
      rw (← same) (closed_taken _ _ (found_next _ _ takes) (ap (λ (e : EndState). is_some (outcome_of e.position.phase))
      takes.takes.carries.state ∙ sym (ap (λ (s : Step). is_some s.closed) takes.takes.reports) ∙ h))

-- a datagram was not handled
pub lost : {S F D : Type 0} (meaning : StoreMeaning S D) (sources : SourceMeaning F) (tid port : ℕ) (from : Endpoint)
    (bytes : List ℕ) (old new : ServerState S F D) (fault : ServerFault)
    → tid ≡ port → DatagramFaultLent from bytes (at tid old.held) fault →
    (fault ≡ Memory → LacksMemoryAt meaning sources AppendsNothing tid from bytes old new) →
    KeepsHeld meaning sources tid (at tid old.held) old new
    → new ≡ record old { store = new.store; held = new.held } → LosesDatagram meaning sources port from bytes old new
lost {S = S} {F = F} {D = D} meaning sources tid port from bytes old new fault same why lacks keeps rest =
    rw (← same) (record {
      fault = fault;
      why = why;
      lacks = lacks;
      keeps = keeps;
      config = ap (λ (s : ServerState S F D). s.config) rest;
    })

module _ {S F D : Type 0} (tid : ℕ) (old new : ServerState S F D) (step : Step) (outgoing : Outgoing) where
  -- the transfer that timed out is found
  pub found_timed : (t : TimesOutLent tid old.held new.held step outgoing) →
      at tid new.held ≡ Some (with_end t.end t.transfer)
  found_timed t =
      next_found tid old.held new.held t.transfer (with_end t.end t.transfer) t.found t.held

  -- the transfer timed out, and its datagram was sent from the port
  pub timed_out : (port : ℕ) (before after : List SocketEvent) (sent : List ℕ) → tid ≡ port →
      (t : TimesOutLent tid old.held new.held step outgoing)
      → new ≡ record old { held = new.held } → sent ≡ lent outgoing t.end → after ≡ replied port step.to sent before →
      AnswersTimeout port old new before after step
  timed_out port before after sent same t rest lends events =
      rw (← same) (record {
        outgoing = outgoing;
        times_out = t;
        rest = rest;
        events = search rules;
      })
