-- What is received at the request port, and what becomes of it. For six functions.
use Rattle.std.proofs.Common.{rules}
use Rattle.tftp_loop.proofs.Common.{◌≡◌, ◌||◌, ◌&&◌, not, ℕ, Bool, true, false, List, [], ◌∷◌, length, take, min}
use Rattle.tftp_loop.proofs.Common.{Option, Some, None, refl, sym, ap, subst, ◌∙◌, ◌⊎◌, All, Result}
use Rattle.tftp_loop.proofs.Common.{SourceMeaning, Endpoint, StoreMeaning, SocketEvent, Received, Quiet, Empty, Failed}
use Rattle.tftp_loop.proofs.Common.{ServerLoop, LoopState, Timer, is_draining, No_request_found, Request_not_received}
use Rattle.tftp_loop.proofs.Common.{Drain_begun, Work_by, loop_state, pending_in, state_of, timers_of, TransferState}
use Rattle.tftp_loop.proofs.Common.{AreSettled, IsSettled, ReceivedFew}
use Rattle.std.specs.Prelude.{IfErr, OnOk}
use Rattle.std.proofs.lemmas.Bool.{cases_lt}
use Rattle.std.proofs.lemmas.List.{take_all}
use Rattle.tftp_sockets.specs.Trace.{QuietEvent, looked}
use Rattle.tftp_sockets.specs.Trace.QuietEvent.{Drain_signalled}
use Rattle.tftp_loop.specs.declared.serving.LoopFault.{LoopFault}
use Rattle.tftp_loop.specs.WholeRun.{EndsBy}
use Rattle.tftp_loop.specs.declared.drain.Drain.TheVariants.{Awaited, Begun}
use Rattle.tftp_loop.specs.LoopStates.{StopsRunning}
use Rattle.tftp_loop.specs.LoopStates.{IsEmptied, WorksRound}
use Rattle.tftp_loop.specs.MayWait.{AnswersPending, AreTried, HandlesReceived, HasFew, HasTriedRequests, reads_of}
use Rattle.tftp_loop.proofs.LoopRuns.{Runs}
use Rattle.tftp_loop.proofs.LoopStays.{work_keeps}
use Rattle.tftp_loop.proofs.Opened.{concludes_asked, concludes_few, concludes_settled}
use Rattle.tftp_loop.proofs.RequestRuns.{concludes_run, receives_as}
use Rattle.tftp_loop.proofs.RunLemmas.{idle, once, onward}
use Rattle.tftp_loop.proofs.Waits.{pending_same}

take_least : {X : Type 0} (n : ℕ) (xs : List X) → take (min n (length xs)) xs ≡ take n xs
take_least n xs = search (rules, cases_lt, length, take, min, take_all)

-- a look that found nothing, or what it is for
pub found_nothing : (b : Bool) (event : QuietEvent) (es ns : List SocketEvent) → b ≡ false → ns ≡ looked b event es
    → ns ≡ es
found_nothing b event es ns none is = is ∙ ap (λ (c : Bool). looked c event es) none

-- an event that was looked for and found is noted
pub found_it : (b : Bool) (event : QuietEvent) (es ns : List SocketEvent) → b ≡ true → ns ≡ looked b event es
    → ns ≡ Quiet event ∷ es
found_it b event es ns found is = is ∙ ap (λ (c : Bool). looked c event es) found

-- when the request port is read
pub reads_when : (drains ready : Bool) → (not drains && ready) ≡ true → (drains ≡ false) × (ready ≡ true)
reads_when true ready e = absurd (let f : false ≡ true = e in cc)
reads_when false ready e = (refl, e)

module _ {S F D : Type 0} where
  -- whether the datagram is pending does not depend on the buffer
  pub to_state : (buffer : List ℕ) (d : ServerLoop S F D) (events : List SocketEvent) → HasTriedRequests d events →
      AreTried (state_of buffer d events)
  to_state buffer d events h m = h (ap (λ (b : Bool). reads_of d || b) (sym (pending_same d.pending buffer)) ∙ m)

  -- what the state says of the request port holds of the loop
  pub from_state : (buffer : List ℕ) (d : ServerLoop S F D) (events : List SocketEvent) →
      AreTried (state_of buffer d events) → HasTriedRequests d events
  from_state buffer d events h m = h (ap (λ (b : Bool). reads_of d || b) (pending_same d.pending buffer) ∙ m)

  -- no datagram is pending
  none_pending : (buffer : List ℕ) (d : ServerLoop S F D) (events : List SocketEvent) → d.pending ≡ None →
      state_of buffer d events ≡ loop_state None d events
  none_pending buffer d events e =
      ap (λ (p : Option (Endpoint × ℕ)). loop_state (pending_in p buffer) d events) e

module _ {S F D : Type 0} (meaning : StoreMeaning S D) (sources : SourceMeaning F) where
  -- the pending datagram was answered or lost
  pub answered_run : (buffer bytes : List ℕ) (old middle : ServerLoop S F D) (es ms : List SocketEvent)
      (from : Endpoint) (count : ℕ) →
      old.pending ≡ Some (from, count) → bytes ≡ take (min count (length buffer)) buffer
      → AnswersPending meaning sources from bytes old es middle ms →
      Runs meaning sources (state_of buffer old es) (loop_state None middle ms)
  answered_run buffer bytes old middle es ms from count pending same answers =
      search (rules, take, take_least, state_of, loop_state, pending_in, concludes_run)

  -- an answer to the pending request leaves every transfer settled
  pub answered_settled : (bytes : List ℕ) (old middle : ServerLoop S F D) (es ms : List SocketEvent)
      (from : Endpoint) → AnswersPending meaning sources from bytes old es middle ms → IsSettled old → IsSettled middle
  answered_settled bytes old middle es ms from answers settled = concludes_settled _ _ _ _ answers settled

  -- what was received is counted so
  pub answered_asked : (bytes : List ℕ) (old middle : ServerLoop S F D) (es ms : List SocketEvent)
      (from : Endpoint) → AnswersPending meaning sources from bytes old es middle ms
      → middle.sockets.has_received ≡ old.sockets.has_received
  answered_asked bytes old middle es ms from answers = search (rules, concludes_asked, loop_state)

  -- and the counts of datagrams
  pub answered_few : (most : ℕ) (bytes : List ℕ) (old middle : ServerLoop S F D) (es ms : List SocketEvent)
      (from : Endpoint) → AnswersPending meaning sources from bytes old es middle ms → HasFew most old
      → HasFew most middle
  answered_few most bytes old middle es ms from answers few = concludes_few _ _ _ _ _ answers few

  -- ---- a datagram was received
  module _ (before buffer : List ℕ) (old noted new : ServerLoop S F D) (es ms ns : List SocketEvent)
      (from : Endpoint) (count : ℕ)
      (none : old.pending ≡ None) (reads : reads_of old ≡ true)
      (first : old.sockets.has_received ≡ false)
      (is : noted ≡ record old { sockets = record old.sockets { has_received = true } })
      (events : ms ≡ Received old.sockets.requests.port from (take count buffer) ∷ es) where
    abbrev received : LoopState S F D
    received = loop_state (Some (from, take count buffer)) noted ms

    received_run : Runs meaning sources (state_of before old es) received
    received_run =
        subst (λ (s : LoopState S F D). Runs meaning sources s received) (sym (none_pending before old es none))
        (receives_as meaning sources (loop_state None old es) received from (take count buffer) refl first
        (reads_when (is_draining old.drain) old.sockets.is_ready reads).0
        (ap (λ (d : ServerLoop S F D). loop_state (Some (from, take count buffer)) d ms) is
        ∙ (λ i. record (loop_state (Some (from, take count buffer)) old es) {
          marked = (reads_when (is_draining old.drain) old.sockets.is_ready reads).1 i;
          asked = true;
          events = events i;
        })))

    received_is_tried : AreTried received
    received_is_tried m = search rules

    then_run : HandlesReceived meaning sources from count buffer noted ms new ns →
        Runs meaning sources received (state_of buffer new ns)
    then_run handles = search (rules, none_pending, concludes_run, loop_state, idle, state_of, take)

    pub handled_run : HandlesReceived meaning sources from count buffer noted ms new ns →
        WorksRound meaning sources before old es buffer new ns
    handled_run handles = onward received_run (then_run handles)

    pub handled_tried : HandlesReceived meaning sources from count buffer noted ms new ns → HasTriedRequests new ns
    handled_tried handles = search (rules, from_state, work_keeps, state_of, then_run, received_is_tried)

    -- what an answer keeps of the transfers and their timers is kept
    kept_by : (P : List (ℕ × TransferState F D) → List Timer → Type 0)
        → (AnswersPending meaning sources from (take count buffer) noted ms new ns
        → P noted.server.held (timers_of noted) → P new.server.held (timers_of new))
        → HandlesReceived meaning sources from count buffer noted ms new ns
        → P old.server.held (timers_of old) → P new.server.held (timers_of new)
    kept_by P concluded handles holds = search rules

    pub handled_settled : HandlesReceived meaning sources from count buffer noted ms new ns → IsSettled old → IsSettled new
    handled_settled = kept_by AreSettled (answered_settled (take count buffer) noted new ms ns from)

    pub handled_few : (most : ℕ) → HandlesReceived meaning sources from count buffer noted ms new ns → HasFew most old
        → HasFew most new
    handled_few most =
        kept_by (λ held timers. All (ReceivedFew most) timers) (answered_few most (take count buffer) noted new ms ns from)

  -- ---- a receive found nothing, or failed
  looked_state : (before after : List ℕ) (old new : ServerLoop S F D) (es ns : List SocketEvent) (ready : Bool)
      (event : SocketEvent) → old.pending ≡ None
      → new ≡ record old { sockets = record old.sockets { is_ready = ready } } → ns ≡ event ∷ es →
      state_of after new ns ≡ record (state_of before old es) { marked = ready; events = event ∷ es }
  looked_state before after old new es ns ready event none is events = search rules

  -- it begins to drain
  pub drains_as : (buffer : List ℕ) (old new : ServerLoop S F D) (es ns : List SocketEvent) → old.drain ≡ Awaited
      → new ≡ record old { drain = Begun } → ns ≡ Quiet Drain_signalled ∷ es
      → Runs meaning sources (state_of buffer old es) (state_of buffer new ns)
  drains_as buffer old new es ns awaited is signalled =
      once (Work_by (Drain_begun (search (ap (λ (d : ServerLoop S F D). state_of buffer d ns) is ∙ ap (state_of buffer
      (record old { drain = Begun })) signalled))) tt)

  -- a request port without a datagram is noted as empty
  pub finds_none : (before after : List ℕ) (old new : ServerLoop S F D) (es ns : List SocketEvent) →
      old.pending ≡ None → reads_of old ≡ true →
      new ≡ record old { sockets = record old.sockets { is_ready = false } }
      → ns ≡ Quiet (Empty old.sockets.requests.port) ∷ es → WorksRound meaning sources before old es after new ns
  finds_none before after old new es ns none reads is events =
      once (Work_by (No_request_found (record {
        none = ap (λ (p : Option (Endpoint × ℕ)). pending_in p before) none;
        goes_on = (reads_when (is_draining old.drain) old.sockets.is_ready reads).0;
        is = looked_state before after old new es ns false _ none is events;
      })) tt)

  -- one that fails is noted as failed
  pub fails_to_find : (before after : List ℕ) (old new : ServerLoop S F D) (es ns : List SocketEvent) →
      old.pending ≡ None → reads_of old ≡ true → new ≡ old
      → ns ≡ Quiet (Failed old.sockets.requests.port) ∷ es → WorksRound meaning sources before old es after new ns
  fails_to_find before after old new es ns none reads is events =
      let looked = λ (ready : Bool). record old { sockets = record old.sockets { is_ready = ready } } in
      let when = reads_when (is_draining old.drain) old.sockets.is_ready reads in
      once (Work_by (Request_not_received (search (
        ap (λ (p : Option (Endpoint × ℕ)). pending_in p before) none,
        looked_state before after old new es ns true _ none (is ∙ ap looked when.1) events,
      ))) tt)

-- a result of the loop ends the run as its counts or its fault say
pub ends_by : {S F D A : Type 0} (result : Result A LoopFault) (buffer : List ℕ) (d : ServerLoop S F D)
    (before events : List SocketEvent) → OnOk result ((d.left ≡ 0) ⊎ ((d.rounds ≡ 0) ⊎ IsEmptied d))
    → IfErr result (λ fault. StopsRunning fault events) → EndsBy before result (state_of buffer d events)
ends_by result buffer d before events ends fails = search rules

-- a server without transfers
pub starts_settled : {S F D : Type 0} (d : ServerLoop S F D) → d.ports.items ≡ [] → IsSettled d
starts_settled d none = search rules

-- a loop without ports has received nothing at any
pub starts_few : {S F D : Type 0} (d : ServerLoop S F D) → d.ports.items ≡ [] → HasFew 0 d
starts_few d none = search rules
