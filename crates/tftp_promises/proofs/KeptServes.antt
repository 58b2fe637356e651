-- Each step of the server keeps the invariant.
use Rattle.tftp_promises.proofs.Common.{List, ℕ, ◌≡◌, rules, sym, Endpoint, refl, [], ◌∙◌, ap, SourceMeaning, subst}
use Rattle.tftp_promises.proofs.Common.{inl, StoreMeaning, inr, ◌∷◌, SinkMeaning, true, None, ◌++◌, Programs, EndState}
use Rattle.tftp_promises.proofs.Common.{◌⊎◌, Contains, SocketEvent, LoopState, LoopStep, joined, Received, endpoint}
use Rattle.tftp_promises.proofs.Common.{Snapshot, IsStranger, Moved, cases_Bool, Contains-push, requests_at, server_did}
use Rattle.tftp_promises.proofs.Common.{our_ports, WasSentBefore, place_at, Watched, Printed, Quiet, PortStep}
use Rattle.tftp_promises.proofs.Common.{Request_answered, state_is, error_bytes, MayCome, port_state, is_ours, CanTake}
use Rattle.tftp_promises.proofs.Common.{AllByRecursion, Slept, server_is, trace_is, ServesPort, UnknownTransferId, Woke}
use Rattle.tftp_promises.proofs.Common.{port_moves, ReceivesAndHandles, ⊤, same_Some}
use Rattle.tftp_loop.specs.Steps.{At_port, Waited, Request_received, Request_lost, Store_set, Transfer_closed}
use Rattle.tftp_loop.specs.Steps.{ReceivesRequest, A_datagram, A_lost_datagram, A_timeout, Work}
use Rattle.tftp_promises.proofs.Places.{at_port, requests_stay, strange_if, stranger_no_port}
use Rattle.tftp_promises.proofs.Invariant.{HasArrived, IsThere, IsKept, IsFreshBy, IsStrangers}
use Rattle.tftp_promises.proofs.KeptPorts.{closing_keeps}
use Rattle.tftp_promises.proofs.Orders.{IsUnsent, printed_silent, added_by, unsent_silent, first_in}
use Rattle.tftp_promises.proofs.KeptFresh.{fresh_before_server, ServerStepsKeep}
use Rattle.tftp_promises.proofs.KeptServer.{ServerStays, silent_by, still_keeps}
use Rattle.tftp_promises.proofs.KeptViews.{HasCome, arrives, errs, strays_in}
use Rattle.tftp_promises.proofs.MovedSteps.{MovesNone}
use Rattle.tftp_promises.proofs.NewPlaces.{at_server}
use Rattle.tftp_promises.proofs.PortDatagrams.{datagram_keeps, wrong_keeps}
use Rattle.tftp_promises.proofs.PortWork.{received_there, lost_keeps, missed_keeps, work_keeps, timeout_keeps}
use Rattle.tftp_promises.proofs.KeptRequests.{request_keeps}

module _ {S F D G K : Type 0} {stores : StoreMeaning S D} {sources : SourceMeaning F} {inputs : SourceMeaning G}
    {outputs : SinkMeaning K} (programs : Programs stores sources inputs outputs) (pad : ℕ) where
  -- a step that opens and removes no transfer, and handles no datagram at a port
  abbrev IsIdle : {old new : LoopState S F D} → LoopStep stores sources old new → Type 0
  IsIdle (At_port h) = ⊥
  IsIdle (Request_answered h) = ⊥
  IsIdle (Transfer_closed h) = ⊥
  IsIdle does = ⊤

  module _ (old : Snapshot programs) (new : LoopState S F D) (kept : IsKept pad old) (added : List SocketEvent)
      (events : new.events ≡ added ++ old.state.events) (take : CanTake old programs.ip added) where
    -- the events of a step
    added_is : (noted : List SocketEvent) → new.events ≡ noted ++ old.state.events → noted ≡ added
    added_is noted e = added_by 0 None noted old.state.events added (sym e ∙ events)

    -- ---- a request is received
    request_came : (h : ReceivesRequest stores sources old.state new) →
        WasSentBefore old h.from (requests_at programs) h.bytes ⊎ MayCome programs h.from h.bytes
    request_came h =
        subst (λ port. WasSentBefore old h.from (endpoint programs.ip port) h.bytes ⊎ MayCome programs h.from h.bytes)
        (requests_stay programs old.run) (take old.state.requests h.from h.bytes (subst (λ es. Contains es (Received
        old.state.requests h.from h.bytes)) (added_is (Received old.state.requests h.from h.bytes ∷ []) (ap (λ s.
        s.events) h.is)) (Contains-push [] (Received old.state.requests h.from h.bytes))))

    -- ---- the transfers are as they were
    idle_stays : (does : LoopStep stores sources old.state new) → IsIdle does → HasCome kept new.pending →
        ServerStays kept does × ((a : Endpoint) → MovesNone programs old.run does a)
    idle_stays does idle pending = search rules

    same_keeps : (does : LoopStep stores sources old.state new) → IsIdle does → {left : LoopState S F D} → new ≡ left →
        left.server.held ≡ old.state.server.held → HasCome kept left.pending → (noted : List SocketEvent) →
        left.events ≡ noted ++ old.state.events → AllByRecursion IsUnsent noted → IsKept pad (server_did old does added)
    same_keeps does idle is held pending noted e unsent =
        let stays =
        idle_stays does idle (λ from bytes f. pending from bytes (ap (λ s. s.pending) (sym is) ∙ f)) in
        still_keeps kept does stays.0 stays.1 (ap (λ s. s.server.held) is ∙ held) added
        (silent_by noted added old.state.events (ap (λ s. s.events) is ∙ e) events (unsent_silent noted unsent))

    -- ---- at the port of a transfer
    module _ (serves : ServesPort stores sources old.state new)
        (fresh_now : IsFreshBy (server_did old (At_port serves) added)) where
      old_fresh : IsFreshBy old
      old_fresh = fresh_before_server programs old new (At_port serves) added fresh_now

      -- nothing moves at a step that is no datagram
      quiet : (does : PortStep stores sources old.state.now (port_state old.state serves.timer) serves.next) →
          serves.does ≡ does → ((moved : Moved) → port_moves does moved ≡ moved) → (a : Endpoint) →
          MovesNone programs old.run (At_port serves) a
      quiet does is still = search rules

      -- its place
      abbrev port : ℕ
      port = serves.timer.port

      abbrev place : Endpoint
      place = place_at programs port old.run

      -- a datagram for a transfer at its port, or for a stranger's: from a stranger, or from one that is ours
      abbrev Handles : Type 0
      Handles = ReceivesAndHandles stores sources old.state.now (port_state old.state serves.timer) serves.next

      abbrev Keeps : Type 0
      Keeps = IsKept pad (server_did old (At_port serves) added)

      here_keeps : (h : Handles) → serves.does ≡ A_datagram h →
          WasSentBefore old h.from (endpoint programs.ip port) h.bytes ⊎ MayCome programs h.from h.bytes →
          place ≡ endpoint programs.ip port → Keeps
      here_keeps h is came here =
          let known = kept.server.opened port h.handles.takes.transfer place (inl (h.handles.takes.found, refl)) in
          let there = sym (ap (joined programs).host_of here) ∙ at_server programs old old_fresh place known in
          let a = arrives kept _ _ _ (stranger_no_port programs (endpoint programs.ip port) there) came in
          datagram_keeps a.now old_fresh serves added events h is fresh_now (subst (λ (e : Endpoint). HasArrived
          a.now.messages h.from e h.bytes) (sym here) a.come) a.spelled (inl here)

      strange_keeps : (h : Handles) → serves.does ≡ A_datagram h → IsStranger programs h.from → Keeps
      strange_keeps h is strange =
          let a = strays_in kept h.from place h.bytes strange in
          datagram_keeps a.now old_fresh serves added events h is fresh_now a.come a.spelled (inr strange)

      ours_keeps : (h : Handles) → serves.does ≡ A_datagram h →
          WasSentBefore old h.from (endpoint programs.ip port) h.bytes ⊎ MayCome programs h.from h.bytes →
          is_ours programs h.from ≡ true → (now : IsKept pad old) →
          IsThere now.messages (endpoint programs.ip port) h.from (error_bytes UnknownTransferId) →
          (place ≡ endpoint programs.ip port) ⊎ IsStrangers programs
          (now.transfers port h.handles.takes.transfer place (inl (h.handles.takes.found, refl))).end.state → Keeps
      ours_keeps h is came ours now there (inl here) = here_keeps h is came here
      ours_keeps h is came ours now there (inr s) =
          wrong_keeps now old_fresh serves added events h is fresh_now s ours there

      ours_answered : (h : Handles) → serves.does ≡ A_datagram h →
          WasSentBefore old h.from (endpoint programs.ip port) h.bytes ⊎ MayCome programs h.from h.bytes →
          is_ours programs h.from ≡ true → Keeps
      ours_answered h is came ours =
          let a = errs kept (endpoint programs.ip port) h.from UnknownTransferId in
          ours_keeps h is came ours a.now a.there (a.now.transfers port h.handles.takes.transfer place
          (inl (h.handles.takes.found, refl))).seat

      by_seat : (h : Handles) → serves.does ≡ A_datagram h →
          WasSentBefore old h.from (endpoint programs.ip port) h.bytes ⊎ MayCome programs h.from h.bytes →
          {e : EndState} → (place ≡ endpoint programs.ip port) ⊎ IsStrangers programs e → Keeps
      by_seat h is came (inl here) = here_keeps h is came here
      by_seat h is came (inr s) = elim (cases_Bool (is_ours programs h.from)) [
        | inl ours ↦ ours_answered h is came ours
        | inr not ↦ strange_keeps h is (strange_if programs h.from not)
      ]

      by_case : (does : PortStep stores sources old.state.now (port_state old.state serves.timer) serves.next) →
          serves.does ≡ does → IsKept pad (server_did old (At_port serves) added)
      by_case (A_datagram h) is =
          let came =
          received_there kept serves added events h.handles.takes.takes.turn.reply
          (Received port h.from h.bytes ∷ []) h.handles.events port h.from h.bytes
          (Contains-push [] (Received port h.from h.bytes)) take in
          by_seat h is came (kept.transfers port h.handles.takes.transfer place
          (inl (h.handles.takes.found, refl))).seat
      by_case (A_lost_datagram h) is =
          lost_keeps kept old_fresh serves added events (quiet (A_lost_datagram h) is (λ moved. refl))
          h.from h.bytes h.loses h.events
      by_case (A_timeout h) is =
          timeout_keeps kept old_fresh serves added events (quiet (A_timeout h) is (λ moved. refl)) h.step h.times_out
      by_case (Work h) is =
          work_keeps kept old_fresh serves added events (quiet (Work h) is (λ moved. refl)) h.works h.events
      by_case does is =
          missed_keeps kept old_fresh serves added events (quiet does is (λ moved. refl)) _ (search rules) (server_is does)
          (trace_is does)

      port_keeps : IsKept pad (server_did old (At_port serves) added)
      port_keeps = by_case serves.does refl

  -- each step of the server keeps the invariant
  pub server_steps_keep : ServerStepsKeep programs pad
  server_steps_keep old new (At_port serves) added kept fresh events take = port_keeps _ _ kept _ events take _ fresh
  server_steps_keep old new (Request_received h) added kept fresh events take =
      let first = first_in programs.port (our_ports programs old.run) in
      let a =
      arrives kept h.from (requests_at programs) h.bytes (stranger_no_port programs (requests_at programs) (at_port
      programs programs.port (λ k client found. fresh.ends.apart k programs.port client found first) (fresh.ends.others
      programs.port first))) (request_came old new kept added events take h) in
      same_keeps old new a.now added events take (Request_received h) tt h.is refl (λ from bytes e. subst (λ (p :
      Endpoint × List ℕ). HasArrived a.now.messages p.0 (requests_at programs) p.1) (same_Some (h.from, h.bytes) (
        from,
        bytes,
      ) e) a.come) (Received _ h.from h.bytes ∷ []) refl (tt, tt)
  server_steps_keep old new (Request_answered h) added kept fresh events take = request_keeps kept h added events fresh
  server_steps_keep old new (Request_lost h) added kept fresh events take =
      same_keeps old new kept added events take (Request_lost h) tt h.is refl (λ from bytes e. absurd (cc)) [] refl tt
  server_steps_keep old new (Waited h) added kept fresh events take =
      same_keeps old new kept added events take (Waited h) tt h.is refl kept.server.pending (Quiet (Woke h.ports) ∷
      Quiet (Slept h.millis) ∷ Watched h.watch ∷ []) refl (tt, (tt, (tt, tt)))
  server_steps_keep old new (Store_set h) added kept fresh events take =
      same_keeps old new kept added events take (Store_set h) tt h.is refl kept.server.pending [] refl tt
  server_steps_keep old new (Transfer_closed h) added kept fresh events take =
      closing_keeps kept (fresh_before_server programs old new (Transfer_closed h) added fresh) h added (silent_by
      (Printed _ ∷ []) added old.state.events (ap (λ (s : LoopState S F D). s.events) h.is) events (printed_silent _))
  server_steps_keep old new does added kept fresh events take =
      same_keeps old new kept added events take does tt (state_is does) refl kept.server.pending (_ ∷ []) refl (search
      rules)
