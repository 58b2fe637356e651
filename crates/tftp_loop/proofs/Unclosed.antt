-- A visit that did not close its transfer left it open. For five functions.
use Rattle.std.proofs.Common.{rules}
use Rattle.tftp_loop.proofs.Common.{◌≡◌, ◌⊎◌, ℕ, false, List, Option, Some, None, refl, sym, ap, subst, ◌∙◌, ◌<◌, ◌≤◌}
use Rattle.tftp_loop.proofs.Common.{◌+◌, length, map, is_some, if◌then◌else◌, slice_set, slice_index_or, cases_eq}
use Rattle.tftp_loop.proofs.Common.{SourceMeaning, Endpoint, Step, EndState, outcome_of, StoreMeaning, TransferState}
use Rattle.tftp_loop.proofs.Common.{ServerState, at, is_closed, taken_of, KeepsHeld, Port, SocketEvent, ServerLoop}
use Rattle.tftp_loop.proofs.Common.{TransferSocket, timer_of, AwaitVisit, WereVisited, IsOpen, IsSettled, IsUnclosed}
use Rattle.tftp_loop.proofs.Common.{ReceivedFew, before_visit, timers_of, Timer, WorksAtPort}
use Rattle.tftp_ends.specs.declared.outgoing.Outgoing.{Outgoing}
use Rattle.tftp_server.specs.Steps.{TakesDatagramLent, TimesOutLent}
use Rattle.tftp_loop.specs.declared.port_visit.PortStatus.{PortStatus}
use Rattle.tftp_loop.specs.declared.port_visit.PortStatus.TheVariants as statuses
use Rattle.tftp_loop.specs.declared.port_visit.Pass.{Pass}
use Rattle.tftp_loop.specs.declared.port_visit.Pass.TheVariants as passes
use Rattle.tftp_loop.specs.MayWait.{IsNotVisited, WasVisited, UnlessClosed}
use Rattle.tftp_loop.proofs.ListLemmas.{map_is, map_set, map_within}
use Rattle.tftp_loop.proofs.PortLemmas.{found_next, found_timed}
use Rattle.tftp_loop.proofs.Tables.{any_default, next_found, not_taken, set_own}
use Rattle.tftp_loop.proofs.Visits.{works_unclosed}

-- what follows unless a transfer closed may be replaced by what follows from it
pub unless_map : {P Q : Type 0} (status : PortStatus) → (P → Q) → UnlessClosed status P → UnlessClosed status Q
unless_map statuses.Closed f h = tt
unless_map status f h = f h

-- it holds if the status is not that it closed
pub unless_not : {P : Type 0} (status : PortStatus) → (status ≡ statuses.Closed → ⊥) → UnlessClosed status P → P
unless_not statuses.Closed apart h = absurd (apart refl)
unless_not status apart h = h

module _ {F D : Type 0} where
  -- a transfer that is open cannot be taken
  open_untaken : (o : Option (TransferState F D)) (held : TransferState F D) → o ≡ Some held →
      is_closed held ≡ false → taken_of o ≡ None
  open_untaken o held e h = search rules

module _ {S F D : Type 0} (meaning : StoreMeaning S D) (sources : SourceMeaning F) (tid : ℕ)
    (old new : ServerState S F D) (step : Step) (outgoing : Outgoing) where
  -- the transfer did not close by its step
  pub open_by : (port : ℕ) (from : Endpoint) (bytes : List ℕ) → tid ≡ port →
      (takes : TakesDatagramLent meaning sources tid from bytes old new step outgoing)
      → step.closed ≡ None → IsUnclosed port new.held
  open_by port from bytes same takes none =
      rw (← same)
      (open_untaken (at tid new.held) takes.next
      (found_next meaning sources tid old new step outgoing from bytes takes)
      (ap (λ (e : EndState). is_some (outcome_of e.position.phase)) takes.takes.carries.state
      ∙ sym (ap (λ (s : Step). is_some s.closed) takes.takes.reports) ∙ ap is_some none))

module _ {S F D : Type 0} (tid : ℕ) (old new : ServerState S F D) (step : Step) (outgoing : Outgoing) where
  -- nor by its timeout
  pub open_timed : (port : ℕ) → tid ≡ port → (t : TimesOutLent tid old.held new.held step outgoing) →
      step.closed ≡ None → IsUnclosed port new.held
  open_timed port same t none =
      rw (← same) (open_untaken _ _ (found_timed tid old new step outgoing t) (ap (λ (e : EndState). is_some (outcome_of
      e.position.phase)) t.carries.state ∙ sym (ap (λ (s : Step). is_some s.closed) t.reports) ∙ ap is_some none))

module _ {S F D : Type 0} (meaning : StoreMeaning S D) (sources : SourceMeaning F) where
  -- a datagram that was lost left it open
  keeps_open : (port : ℕ) (o : Option (TransferState F D)) (old new : ServerState S F D) → at port old.held ≡ o →
      KeepsHeld meaning sources port o old new → IsUnclosed port old.held → IsUnclosed port new.held
  keeps_open port None old new found keeps unclosed = ap (λ s. taken_of (at port s.held)) keeps ∙ unclosed
  keeps_open port (Some transfer) old new found keeps unclosed =
      let next = keeps.0 in
      let still = not_taken _ _ (ap (λ p. taken_of p) (sym found) ∙ unclosed) in
      open_untaken _ _ (next_found _ _ _ _ _ found keeps.2) (ap (λ e. is_some (outcome_of e.position.phase)) keeps.1.end
      ∙ still)

  -- a datagram that is lost leaves the transfer open
  pub lost_open : (tid port : ℕ) (old new : ServerState S F D) → tid ≡ port →
      KeepsHeld meaning sources tid (at tid old.held) old new → IsUnclosed port old.held → IsUnclosed port new.held
  lost_open tid port old new same keeps =
      rw (← same) (keeps_open tid (at tid old.held) old new refl keeps)

  -- file work after a step leaves it open
  pub open_after : (port : ℕ) (middle new : ServerState S F D) →
      (new ≡ middle) ⊎ WorksAtPort meaning sources port middle new → IsUnclosed port middle.held
      → IsUnclosed port new.held
  open_after port middle new works unclosed = search (rules, taken_of, at, works_unclosed)

module _ {S F D : Type 0} where
  -- a transfer that a visit left open is open at its index
  pub open_at : (old : ServerLoop S F D) (index : ℕ) (port next : Port TransferSocket)
      (held : List (ℕ × TransferState F D)) (items : List (Port TransferSocket)) → index < length old.ports.items
      → port ≡ slice_index_or old.ports.items index port → items ≡ slice_set old.ports.items index next →
      IsSettled old → (IsOpen old.server.held (timer_of port) → IsOpen held (timer_of next)) → (t : Timer) →
      IsOpen held (slice_index_or (map timer_of items) index t)
  open_at old index port next held items inside is_port set settled stays t =
      let within = map_within timer_of old.ports.items index inside in
      let was = map_is timer_of old.ports.items index port is_port in
      let own =
      ap (λ (ts : List Timer). slice_index_or ts index t) (ap (map timer_of) set ∙ map_set timer_of old.ports.items
      index next) ∙ set_own (timers_of old) index (timer_of next) t within in
      subst (IsOpen held) (sym own) (stays (subst (IsOpen old.server.held) (sym was) (settled.none_closed index
      (timer_of port) within)))

  own_visited : (pass : Pass) (d : ServerLoop S F D) (events : List SocketEvent) (timer : Timer) →
      IsNotVisited pass d.sockets.watch.now timer →
      ReceivedFew (before_visit pass) timer → timer.look_at ≤ timer.deadline → WasVisited pass d events timer
  own_visited pass d events timer none few look = search rules

  -- a port that a pass is not for was visited
  pub idle_visited : (pass : Pass) (index : ℕ) (d : ServerLoop S F D) (events : List SocketEvent)
      (port : Port TransferSocket) →
      index < length d.ports.items → port ≡ slice_index_or d.ports.items index port →
      IsNotVisited pass d.sockets.watch.now (timer_of port) → IsSettled d → AwaitVisit pass (index + 1) d →
      WereVisited pass (index + 1) d events → WereVisited pass index d events
  idle_visited pass index d events port inside is_port none settled waiting visited k t l h =
      let within = map_within timer_of d.ports.items index inside in
      let was : timer_of port ≡ slice_index_or (timers_of d) index (timer_of port) =
      map_is timer_of d.ports.items index port is_port in
      search (rules, cases_eq, timer_of, slice_index_or, timers_of, any_default, own_visited, before_visit)
