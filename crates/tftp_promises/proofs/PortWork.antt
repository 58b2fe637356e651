-- What a step of the server at the port of a transfer leaves as it was, and what it noted.
use Rattle.tftp_promises.proofs.Common.{List, ℕ, ◌≡◌, rules, sym, Endpoint, refl, [], ◌∙◌, ap, SourceMeaning, Some}
use Rattle.tftp_promises.proofs.Common.{subst, inl, StoreMeaning, inr, ◌∷◌, SinkMeaning, false, None, ◌++◌, Programs}
use Rattle.tftp_promises.proofs.Common.{Bool, EndState, ◌⊎◌, Contains, Files, SocketEvent, Option, true≢false}
use Rattle.tftp_promises.proofs.Common.{LoopState, TransferState, joined, outcome_of, OpenEnd, Received, endpoint}
use Rattle.tftp_promises.proofs.Common.{Snapshot, at, Turn, open_view, ServerState, cases_Bool, after_turn, Reply}
use Rattle.tftp_promises.proofs.Common.{Elapsed, timeout_turn, server_did, WasSentBefore, Outcome, place_at}
use Rattle.tftp_promises.proofs.Common.{drafting_sink, with_next, answered, end_after, is_some, Holding, MayCome}
use Rattle.tftp_promises.proofs.Common.{files_of, AreSame, files_in, CanTake, Goes, KeepsHeld, WorksAt, ServesPort}
use Rattle.tftp_promises.proofs.Common.{Stands, with_end, timeout_unblamed, KeepsFiles, timeout_goes}
use Rattle.tftp_loop.specs.Steps.{At_port, LosesDatagram, WorksAtPort, AnswersTimeout}
use Rattle.tftp_server.specs.Draft.{KeepsDraft}
use Rattle.tftp_server.specs.Work.{FilesWork}
use Rattle.tftp_ends.specs.declared.record.Step.{Step}
use Rattle.tftp_server.specs.Steps.{TimesOutLent}
use Rattle.tftp_promises.proofs.Invariant.{IsGiven, IsTaken, IsKept, HasStored, TransferKept, IsFreshBy, IsStrangers}
use Rattle.tftp_promises.proofs.Orders.{IsSilent, SendsOnly, added_by, answered_has, answered_sends, IsUnsent}
use Rattle.tftp_promises.proofs.Orders.{none_silent, unsent_silent, elapsed_silent}
use Rattle.tftp_promises.proofs.KeptServer.{ServerStays, silent_by, still_keeps, stored_after}
use Rattle.tftp_promises.proofs.MovedStores.{took_none, took_still}
use Rattle.tftp_promises.proofs.MovedSends.{gave_none, gave_still}
use Rattle.tftp_promises.proofs.KeptPorts.{as_it_was, IsSeated, turn_keeps}
use Rattle.tftp_promises.proofs.MovedSteps.{MovesNone}
use Rattle.tftp_promises.proofs.ClosedEnds.{closed_timeout_goes, stays_strangers, timeout_stays}
use Rattle.tftp_promises.proofs.MovedFiles.{file_on, file_turned, held_same}

-- an open end has no outcome
pub no_outcome : (o : Option Outcome) → is_some o ≡ false → o ≡ None
no_outcome None e = refl
no_outcome (Some outcome) e = absurd (true≢false e)

-- a datagram was received
pub datagram_silent : (own : ℕ) (from : Endpoint) (bytes : List ℕ) → IsSilent (Received own from bytes ∷ [])
datagram_silent own from bytes port to b c = search rules

module _ {S F D G K : Type 0} {stores : StoreMeaning S D} {sources : SourceMeaning F} {inputs : SourceMeaning G}
    {outputs : SinkMeaning K} {programs : Programs stores sources inputs outputs} {pad : ℕ} {old : Snapshot programs}
    (kept : IsKept pad old) {new : LoopState S F D} (serves : ServesPort stores sources old.state new)
    (added : List SocketEvent) (events : new.events ≡ added ++ old.state.events) where
  -- the server after it
  pub server_is : new.server ≡ serves.next.server
  server_is = ap (λ (s : LoopState S F D). s.server) serves.is

  pub stays_by : ServerStays kept (At_port serves)
  stays_by = record {
    seats = λ port. refl;
    removes = λ port transfer h. h;
    pending = λ from bytes e. kept.server.pending from bytes (sym (ap (λ s. s.pending) serves.is) ∙ e);
  }

  -- the events of the step
  pub events_are : serves.next.events ≡ added ++ old.state.events
  events_are = sym (ap (λ (s : LoopState S F D). s.events) serves.is) ∙ events

  module _ (reply : Option Reply) (noted : List SocketEvent) (answers : serves.next.events ≡ answered serves.timer.port reply
      (noted ++ old.state.events)) where
    pub added_is : answered serves.timer.port reply noted ≡ added
    added_is = added_by serves.timer.port reply noted old.state.events added (sym answers ∙ events_are)

    -- only the answer was sent
    pub sends_only : IsSilent noted → SendsOnly serves.timer.port reply added
    sends_only silent = rw (← added_is) (answered_sends serves.timer.port reply noted silent)

    -- what was received was sent there, or may come nevertheless
    pub received_there : (port : ℕ) (from : Endpoint) (bytes : List ℕ) → Contains noted (Received port from bytes) →
        CanTake old programs.ip added →
        WasSentBefore old from (endpoint programs.ip port) bytes ⊎ MayCome programs from bytes
    received_there port from bytes c take =
        take port from bytes (rw (← added_is) (answered_has serves.timer.port reply noted (Received port from bytes) c))

-- A step at the port of a transfer that leaves its end as it was keeps the invariant: a datagram is lost, a receive
-- finds none, a timeout finds no open transfer, or the file does its work.

module _ {S F D G K : Type 0} {stores : StoreMeaning S D} {sources : SourceMeaning F} {inputs : SourceMeaning G}
    {outputs : SinkMeaning K} {programs : Programs stores sources inputs outputs} {pad : ℕ} {old : Snapshot programs}
    (kept : IsKept pad old) (fresh : IsFreshBy old) where
  -- the end of a held transfer
  abbrev its_end : (port : ℕ) (transfer : TransferState F D) → at port old.state.server.held ≡ Some transfer →
      TransferKept pad kept.views kept.messages old port transfer (place_at programs port old.run)
  its_end port transfer found = kept.transfers port transfer (place_at programs port old.run) (inl (found, refl))

  -- ---- the steps
  module _ {new : LoopState S F D} (serves : ServesPort stores sources old.state new) (added : List SocketEvent)
      (events : new.events ≡ added ++ old.state.events) (none : (a : Endpoint) →
      MovesNone programs old.run (At_port serves) a) where
    abbrev port : ℕ
    port = serves.timer.port

    abbrev now : Snapshot programs
    now = server_did old (At_port serves) added

    -- the server is the same
    pub same_server : serves.next.server ≡ old.state.server → IsSilent added → IsKept pad now
    same_server same silent =
        let all : new.server ≡ old.state.server = server_is kept serves _ events ∙ same in
        still_keeps kept _ (stays_by kept serves _ events) none (ap (λ (s : ServerState S F D). s.held) all) _ silent

    -- the end of its transfer is the same
    same_end : (transfer next : TransferState F D) (found : at port old.state.server.held ≡ Some transfer) →
        serves.next.server.held ≡ with_next port next old.state.server.held →
        next.end ≡ transfer.end → next.path ≡ transfer.path → next.request ≡ transfer.request → IsSilent added →
        HasStored pad now (its_end port transfer found).end next.files → IsKept pad now
    same_end transfer next found held end path request silent left =
        as_it_was _ fresh _ _ found _ (stays_by kept serves _ events) _ _ (ap (λ (s : ServerState S F D). s.held)
        (server_is kept serves _ events) ∙ held) (λ a n. none a) end path request left silent

    -- a source gave no bytes, and a draft took none
    abbrev MovedNone : Files F D → Files F D → Type 0
    MovedNone files files' =
        AreSame (λ (a b : F). sources.gives a [] b) (λ (a b : D). (b ≡ a) ⊎ stores.writes_behind a b) files files'

    -- what is known of its file then
    run_left : (transfer next : TransferState F D) (found : at port old.state.server.held ≡ Some transfer) →
        MovedNone transfer.files next.files → HasStored pad now (its_end port transfer found).end next.files
    run_left transfer next found kind =
        let h = its_end port transfer found in
        let has = stored_after pad old (At_port serves) added h.end (none h.end.address) transfer.files h.has in
        search (file_on (IsGiven programs now.run) (IsTaken programs now.run) h.end _ (λ s s' same g. record {
          opening
              = g.opening;
          first = g.first;
          long = g.long;
          since = gave_none g.since same;
        }) (λ d d' same t. record {
          first = t.first;
          began = t.began;
          since = took_none same t.since;
        }) transfer.files next.files kind
        has.file)

    kept_kind : (store store' : S) (path path' : List ℕ) (replace : Bool) (files files' : Files F D) →
        KeepsDraft files files' store store' →
        KeepsFiles sources (drafting_sink stores) (files_in store path replace files)
        (files_in store' path' replace files') → MovedNone files files'
    kept_kind store store' path path' replace files files' stays keeps = search rules

    work_kind : (store store' : S) (files files' : Files F D) → FilesWork stores sources store store' files files' →
        MovedNone files files'
    work_kind store store' files files' works = search rules

    -- a datagram is lost
    pub lost_keeps : (from : Endpoint) (bytes : List ℕ) →
        LosesDatagram stores sources port from bytes old.state.server serves.next.server →
        serves.next.events ≡ Received port from bytes ∷ old.state.events → IsKept pad now
    lost_keeps from bytes loses noted = by_held (at port old.state.server.held) refl loses.keeps where
      silent : IsSilent added
      silent =
          silent_by (Received port from bytes ∷ []) added old.state.events noted (events_are kept serves added events) (datagram_silent port from bytes)

      by_held : (o : Option (TransferState F D)) → at port old.state.server.held ≡ o →
          KeepsHeld stores sources port o old.state.server serves.next.server → IsKept pad now
      by_held None e same = same_server same silent
      by_held (Some transfer) e keeps =
          same_end transfer keeps.0 e keeps.2 keeps.1.end keeps.1.path keeps.1.request silent
          (run_left transfer keeps.0 e
          (kept_kind old.state.server.store serves.next.server.store transfer.path keeps.0.path
          old.state.server.config.overwrite transfer.files keeps.0.files keeps.1.draft keeps.1.files))

    -- a receive finds nothing or fails, or a timeout finds no open transfer
    pub missed_keeps : (e : SocketEvent) → IsUnsent e → serves.next.server ≡ old.state.server →
        serves.next.events ≡ e ∷ old.state.events → IsKept pad now
    missed_keeps e unsent same noted =
        same_server same (silent_by (e ∷ []) added old.state.events noted (events_are kept serves added events) (unsent_silent (e ∷ []) (unsent, tt)))

    -- the file does its work
    pub work_keeps : WorksAtPort stores sources port old.state.server serves.next.server →
        serves.next.events ≡ old.state.events → IsKept pad now
    work_keeps works noted = by_held (at port old.state.server.held) refl works.works where
      silent : IsSilent added
      silent = silent_by [] added old.state.events noted (events_are kept serves added events) none_silent

      by_held : (o : Option (TransferState F D)) → at port old.state.server.held ≡ o →
          WorksAt stores sources port o old.state.server serves.next.server → IsKept pad now
      by_held None e same = same_server same silent
      by_held (Some transfer) e h =
          same_end transfer h.0 e h.2 (ap (λ (t : TransferState F D). t.end) h.1.rest)
          (ap (λ (t : TransferState F D). t.path) h.1.rest) (ap (λ (t : TransferState F D). t.request) h.1.rest)
          silent (run_left transfer h.0 e
          (work_kind old.state.server.store serves.next.server.store transfer.files h.0.files h.1.files))

-- A timeout that the server delivers to a transfer keeps the invariant.

open_before : (e : EndState) → outcome_of (timeout_turn e).position.phase ≡ None → outcome_of e.position.phase ≡ None
open_before e o = search rules

module _ {S F D G K : Type 0} {stores : StoreMeaning S D} {sources : SourceMeaning F} {inputs : SourceMeaning G}
    {outputs : SinkMeaning K} {programs : Programs stores sources inputs outputs} {pad : ℕ} {old : Snapshot programs}
    (kept : IsKept pad old) (fresh : IsFreshBy old) {new : LoopState S F D}
    (serves : ServesPort stores sources old.state new) (added : List SocketEvent)
    (events : new.events ≡ added ++ old.state.events)
    (none : (a : Endpoint) → MovesNone programs old.run (At_port serves) a) where
  abbrev its_port : ℕ
  its_port = serves.timer.port

  -- where its transfer is
  abbrev place : Endpoint
  place = place_at programs its_port old.run

  abbrev elapsed_now : Snapshot programs
  elapsed_now = server_did old (At_port serves) added

  module _ (step : Step) (answers : AnswersTimeout its_port old.state.server serves.next.server
      (Elapsed its_port old.state.now ∷ old.state.events) serves.next.events step) where
    abbrev timed : TimesOutLent its_port old.state.server.held serves.next.server.held step answers.outgoing
    timed = answers.times_out

    abbrev kept_end : TransferKept pad kept.views kept.messages old its_port timed.transfer place
    kept_end = kept.transfers its_port timed.transfer place (inl (timed.found, refl))

    abbrev x : OpenEnd
    x = kept_end.end

    abbrev turn : Turn
    turn = timeout_turn x.state

    abbrev y : OpenEnd
    y = end_after x turn (files_of x)

    abbrev next : TransferState F D
    next = with_end timed.end timed.transfer

    abbrev elapsed : List SocketEvent
    elapsed = Elapsed its_port old.state.now ∷ []

    held : new.server.held ≡ with_next its_port next old.state.server.held
    held = ap (λ (s : ServerState S F D). s.held) (server_is kept serves added events) ∙ timed.held

    abbrev Seated : Turn → OpenEnd → Type 0
    Seated =
        IsSeated kept fresh its_port timed.transfer timed.found (At_port serves) (stays_by kept serves added events)
        added next held

    -- what a timeout leaves of its file is what was there
    has : HasStored pad elapsed_now y timed.transfer.files
    has =
        let h = stored_after pad old (At_port serves) added x (none x.address) timed.transfer.files kept_end.has in
        search (file_turned x turn (open_before x.state) (IsGiven programs elapsed_now.run) (IsTaken programs
        elapsed_now.run) timed.transfer.files _ (λ s g. record {
          opening = g.opening;
          first = g.first;
          long =
              g.long;
          since = gave_still refl (open_before x.state) g.since;
        }) (λ d receives t. record {
          first =
              t.first;
          began = t.began;
          since = took_still (ap (λ (z : Holding). z.committed) (held_same x turn
              (open_before x.state) receives)) (open_before x.state) t.since;
        }) h.file)

    stands : Stands (joined programs) kept.shown.0 kept.views kept.messages kept_end.viewed.index (open_view x)
    stands = record { shown = kept.shown.1; viewed = kept_end.viewed.viewed }

    its_turn : Goes (joined programs) kept.shown.0 kept.views kept.messages kept_end.viewed.index x turn y
    its_turn = elim (cases_Bool (is_some (outcome_of x.state.position.phase))) [
      | inl c ↦
          closed_timeout_goes _ _ _ _ _ x stands kept_end.viewed.kept c kept_end.viewed.last_sent
      | inr o ↦
          timeout_goes (joined programs) kept.shown.0 kept.views kept.messages kept_end.viewed.index x (record {
            stands
                = stands;
            kept = kept_end.viewed.kept;
            still = o;
            last_sent = kept_end.viewed.last_sent;
          })
    ]

    only_reply : SendsOnly its_port turn.reply added
    only_reply =
        subst (λ e. SendsOnly its_port (timeout_turn e).reply added) (sym kept_end.state) (sends_only kept serves added
        events (timeout_turn timed.transfer.end).reply elapsed answers.events (elapsed_silent its_port old.state.now))

    -- where it stands then
    seated : (place ≡ endpoint programs.ip its_port) ⊎ IsStrangers programs x.state → Seated turn y
    seated h0 = search (rules, timeout_stays, stays_strangers)

    pub timeout_keeps : IsKept pad elapsed_now
    timeout_keeps =
        turn_keeps _ fresh _ _ timed.found _ (stays_by kept serves _ events) _ _ held refl refl _ (record {
          end = y;
          goes = its_turn;
          address = refl;
          state = ap (λ (e : EndState). after_turn e (timeout_turn e)) kept_end.state ∙ sym timed.carries.state;
          path = refl;
          request = refl;
          unblamed = timeout_unblamed (joined programs) kept.messages x.state kept_end.viewed.unblamed;
          has = has;
          seated = seated kept_end.seat;
        }) only_reply (λ a n. none a)
