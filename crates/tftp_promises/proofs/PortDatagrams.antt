-- A datagram that the server handles at the port of a transfer keeps the invariant.
use Rattle.std.proofs.Common.{rules as std_rules}
use Rattle.tftp_promises.proofs.Common.{List, ℕ, ◌≡◌, sym, Endpoint, refl, [], ◌∙◌, ap, SourceMeaning, subst, inl}
use Rattle.tftp_promises.proofs.Common.{StoreMeaning, inr, ◌∷◌, SinkMeaning, false, true, None, ◌++◌, Programs}
use Rattle.tftp_promises.proofs.Common.{EndState, ◌⊎◌, Files, SocketEvent, Option, true≢false, ◌≢◌, LoopState, joined}
use Rattle.tftp_promises.proofs.Common.{outcome_of, OpenEnd, is_sender, Received, endpoint, Snapshot, Turn, IsStranger}
use Rattle.tftp_promises.proofs.Common.{Moved, open_view, Sink, Source, ServerState, Spells, WirePacket, cases_Bool}
use Rattle.tftp_promises.proofs.Common.{IsPrefixOf, after_turn, server_did, place_at, moved_at, peer_of, Action}
use Rattle.tftp_promises.proofs.Common.{drafting_sink, with_next, Role, Elsewhere, Acts, datagram_action, Config}
use Rattle.tftp_promises.proofs.Common.{error_bytes, is_some, port_state, has_error_opcode, is_ours, IsUnblamed}
use Rattle.tftp_promises.proofs.Common.{AreSame, files_in, ⊤, step_moves, Goes, Drafting, ServesPort, Stands, StepIn}
use Rattle.tftp_promises.proofs.Common.{UnknownTransferId, port_moves, ReceivesAndHandles, Position, with_position}
use Rattle.tftp_promises.proofs.Common.{datagram_goes}
use Rattle.tftp_loop.specs.Steps.{At_port, A_datagram, AnswersDatagram}
use Rattle.tftp_server.specs.Steps.{TakesDatagramLent}
use Rattle.tftp_rules.specs.EndShown.{IsOpenAt}
use Rattle.tftp_promises.proofs.ClosedEnds.{ClosedAnswers, closed_datagram_goes, wrong_datagram_goes, has_peer, same_in}
use Rattle.tftp_promises.proofs.ClosedEnds.{datagram_stays, stays_strangers, wrong_peer, wrong_replies}
use Rattle.tftp_promises.proofs.Invariant.{FileSo, IsGiven, IsTaken, IsToldAt, length_of, HasArrived, HasStored}
use Rattle.tftp_promises.proofs.Invariant.{SendsText, IsThere, TransferKept, IsKept, IsFreshBy, IsStrangers}
use Rattle.tftp_promises.proofs.MovedStores.{complete_responds, fate_takes}
use Rattle.tftp_promises.proofs.MovedFiles.{MovesOver, sink_over, source_over}
use Rattle.tftp_promises.proofs.MovedSteps.{moves_here, none_at_port, none_beside}
use Rattle.tftp_promises.proofs.Places.{not_ours}
use Rattle.tftp_promises.proofs.PortWork.{no_outcome, datagram_silent, server_is, stays_by, sends_only}
use Rattle.tftp_promises.proofs.KeptServer.{file_later, stored_after}
use Rattle.tftp_promises.proofs.KeptPorts.{IsSeated, turn_keeps}
use Rattle.tftp_promises.proofs.TransferLives.{run_config}
use Rattle.tftp_promises.proofs.Texts.{pad_to}
use Rattle.tftp_promises.proofs.NewPlaces.{apart_from_requests, turn_unblamed}

module _ {S F D G K : Type 0} {stores : StoreMeaning S D} {sources : SourceMeaning F} {inputs : SourceMeaning G}
    {outputs : SinkMeaning K} {programs : Programs stores sources inputs outputs} {pad : ℕ} {old : Snapshot programs}
    (kept : IsKept pad old) (fresh : IsFreshBy old) {new : LoopState S F D}
    (serves : ServesPort stores sources old.state new) (added : List SocketEvent)
    (events : new.events ≡ added ++ old.state.events)
    (h : ReceivesAndHandles stores sources old.state.now (port_state old.state serves.timer) serves.next)
    (is : serves.does ≡ A_datagram h) (fresh_now : IsFreshBy (server_did old (At_port serves) added)) where
  abbrev port : ℕ
  port = serves.timer.port

  -- where its transfer is
  abbrev place : Endpoint
  place = place_at programs port old.run

  abbrev now : Snapshot programs
  now = server_did old (At_port serves) added

  abbrev from : Endpoint
  from = h.from

  abbrev bytes : List ℕ
  bytes = h.bytes

  abbrev answers : AnswersDatagram stores sources port from bytes old.state.server serves.next.server
      (Received port from bytes ∷ old.state.events) serves.next.events h.step
  answers = h.handles

  abbrev taken : TakesDatagramLent stores sources port from bytes old.state.server serves.next.server h.step
      answers.outgoing
  taken = answers.takes

  abbrev turn : Turn
  turn = taken.takes.turn

  abbrev was : TransferKept pad kept.views kept.messages old port taken.transfer place
  was = kept.transfers port taken.transfer place (inl (taken.found, refl))

  abbrev x : OpenEnd
  x = was.end

  abbrev received : List SocketEvent
  received = Received port from bytes ∷ []

  held : new.server.held ≡ with_next port taken.next old.state.server.held
  held = ap (λ (s : ServerState S F D). s.held) (server_is kept serves added events) ∙ taken.held

  store_is : new.server.store ≡ serves.next.server.store
  store_is = ap (λ (s : ServerState S F D). s.store) (server_is kept serves added events)

  replace_is : old.state.server.config.overwrite ≡ programs.server.start.server.config.overwrite
  replace_is = ap (λ (c : Config). c.overwrite) (run_config stores sources old.run)

  -- its end is among all that is shown
  stands : Stands (joined programs) kept.shown.0 kept.views kept.messages was.viewed.index (open_view x)
  stands = record { shown = kept.shown.1; viewed = was.viewed.viewed }

  -- its files before, and after
  abbrev before_in : Files F D → Files F (Drafting S D)
  before_in = files_in old.state.server.store taken.transfer.path old.state.server.config.overwrite

  abbrev after_in : Files F D → Files F (Drafting S D)
  after_in = files_in serves.next.server.store taken.next.path old.state.server.config.overwrite

  abbrev files_before : Files F (Drafting S D)
  files_before = before_in taken.transfer.files

  abbrev files_after : Files F (Drafting S D)
  files_after = after_in taken.next.files

  abbrev step_x : EndState → Type 0
  step_x e =
      StepIn stores sources from bytes e files_before turn files_after

  its_step : step_x x.state
  its_step = subst step_x (sym was.state) taken.takes.steps

  next_state : after_turn x.state turn ≡ taken.next.end
  next_state = ap (λ (e : EndState). after_turn e turn) was.state ∙ sym taken.takes.carries.state

  -- it stands at its port, or aside
  abbrev Seated : OpenEnd → Type 0
  Seated y =
      IsSeated kept fresh port taken.transfer taken.found (At_port serves) (stays_by kept serves added events) added
      taken.next held turn y

  -- the invariant, if the end turned so, and these files were left
  then_keeps : (end : OpenEnd) → Goes (joined programs) kept.shown.0 kept.views kept.messages was.viewed.index x turn end →
      end.address ≡ x.address → end.state ≡ taken.next.end → end.path ≡ x.path → end.request ≡ x.request →
      IsUnblamed (joined programs) (SendsText programs pad) kept.messages end.state →
      HasStored pad now end taken.next.files → Seated end → IsKept pad now
  then_keeps end goes address state path request unblamed has seated =
      turn_keeps kept fresh port taken.transfer taken.found (At_port serves) (stays_by kept serves added events) added
      taken.next held taken.takes.path taken.takes.request turn (search) (sends_only kept serves added events
      turn.reply received answers.events (datagram_silent port from bytes))
      (λ a n. none_beside programs old.run serves a n)

  -- how it answers
  abbrev Answered : Type 0
  Answered =
      (decoded : Option WirePacket) →
      ClosedAnswers (joined programs) kept.shown.0 kept.views kept.messages was.viewed.index x from
      (datagram_action x.state from bytes decoded)

  module _ (answered : Answered) (seated : x.state ≡ after_turn x.state turn → Seated x) where
    -- nothing moves at it
    quiet : (moved : Moved) → port_moves serves.does moved ≡ moved
    quiet moved =
        let answer = answered taken.takes.steps.decoded in
        let says = rw (was.state) at answer.is in
        search std_rules

    rests_keeps : IsKept pad now
    rests_keeps =
        let answer = answered its_step.decoded in
        let A : Action → Type 0 = λ (action : Action). Acts sources (drafting_sink stores) action from bytes x.state
        files_before turn files_after in
        let acts = subst A answer.is its_step.acts in
        let same = same_in _ _ _ _ _ _ _ acts.1 taken.takes.stays taken.takes.kind in
        let position = ap (λ (t : Turn). t.position) acts.0 ∙ answer.same in
        let state = ap (λ (p : Position). with_position p x.state) (sym position) in
        then_keeps x (rw (sym acts.0) at answer.goes) refl (state ∙ next_state) refl refl was.viewed.unblamed
        (subst (λ (f : Files F D). HasStored pad now x f) (sym same.1) (stored_after pad old (At_port serves) added x
        (none_at_port programs old.run _ quiet x.address) taken.transfer.files was.has)) (seated state)

  -- a stranger's transfer answers one that is ours by an ERROR, which is there already
  pub wrong_keeps : IsStrangers programs x.state → is_ours programs from ≡ true →
      IsThere kept.messages (endpoint programs.ip port) from (error_bytes UnknownTransferId) → IsKept pad now
  wrong_keeps s ours there =
      let n : s.peer ≢ from =
      λ same. true≢false (sym ours ∙ (ap (is_ours programs) (sym same) ∙ not_ours programs s.peer s.strange)) in
      let wrong = wrong_peer x.state from bytes its_step.decoded s.peer s.is_peer n in
      let acts = rw (wrong) at its_step.acts in
      rests_keeps (λ decoded. wrong_datagram_goes _ _ _ _ _ x stands was.viewed.kept _ s.is_peer _ n bytes decoded)
      (λ state. inr (record {
        strangers = s;
        replies = λ reply says.
            inr (rw ((wrong_replies sources (drafting_sink stores) from x.state (has_error_opcode bytes) bytes _ turn _
            acts reply says)) there);
      }))

  -- ---- the datagram has arrived at its place, and it is for a transfer at its port, or a stranger's
  module _ (arrived : HasArrived kept.messages from place bytes)
      (spelled : (joined programs).host_of from ≢ Elsewhere → (p : WirePacket) × Spells p bytes)
      (near : (place ≡ endpoint programs.ip port) ⊎ IsStranger programs from) where
    come : HasArrived kept.messages from x.address bytes
    come = subst (λ (a : Endpoint). HasArrived kept.messages from a bytes) (sym was.address) arrived

    -- where it stands then
    seated_by : (y : OpenEnd) → y.state ≡ after_turn x.state turn →
        (place ≡ endpoint programs.ip port) ⊎ IsStrangers programs x.state →
        (place ≡ endpoint programs.ip port) ⊎ IsStranger programs from → Seated y
    seated_by y is_y seat (inl here) = inl here
    seated_by y is_y (inl here) (inr strange) = inl here
    seated_by y is_y (inr s) (inr strange) =
        let stays =
        datagram_stays sources (drafting_sink stores) from x.state bytes its_step.decoded _ turn _ its_step.acts s.peer
        s.is_peer in
        inr (record {
          strangers = rw (is_y) (stays_strangers programs from x.state turn strange s stays);
          replies = λ reply says. inl (rw ((stays.replies reply says)) strange);
        })

    seated : (y : OpenEnd) → y.state ≡ after_turn x.state turn → Seated y
    seated y is_y = seated_by y is_y was.seat near

    -- an open end
    open_now : is_some (outcome_of x.state.position.phase) ≡ false →
        IsOpenAt (joined programs) kept.shown.0 kept.views kept.messages was.viewed.index x
    open_now o =
        record {
          stands = stands;
          kept = was.viewed.kept;
          still = o;
          last_sent = was.viewed.last_sent;
        }

    peered : is_some (outcome_of x.state.position.phase) ≡ false → peer_of x.state.position.phase ≢ None
    peered o no_peer = has_peer (joined programs) x x.state.position.phase was.viewed.kept.phase was.side o no_peer

    -- what has moved
    abbrev before : Moved
    before = moved_at programs x.address old.run

    abbrev after_by : (e : EndState) → step_x e → Moved
    after_by e step =
        step_moves sources (drafting_sink stores) from bytes e files_before turn files_after step before

    moved_now : moved_at programs x.address now.run ≡ after_by taken.transfer.end taken.takes.steps
    moved_now = moves_here programs old.run serves x.address (sym was.address) before ∙ ap (λ d. port_moves d before) is

    -- and in all
    abbrev all : List ℕ
    all = (moved_at programs x.address programs.server.run).bytes

    told : IsToldAt now x.address
    told =
        fresh_now.told x.address
        (rw (was.address) (kept.server.opened port taken.transfer place (inl (taken.found, refl))))

    text : is_sender x.state.role.side ≡ true → x.text ≡ pad_to pad x.state.role.length all
    text sends =
        let o = was.has.opened in
        was.has.text sends
        ∙ ap (λ (n : ℕ). pad_to pad n all) (ap length_of (sym told.opened ∙ o.opened) ∙ ap (λ (r : Role). r.length) o.role)

    -- the step is one over what moves
    abbrev Over : Files F D → Moved → Type 0
    Over files m = MovesOver (IsGiven programs now.run) (IsTaken programs now.run) x from bytes turn files m

    over : outcome_of x.state.position.phase ≡ None → (files files' : Files F D) →
        AreSame (λ (a b : F). ⊤) (λ (a b : D). ⊤) files files' →
        FileSo (IsGiven programs now.run) (IsTaken programs now.run) files x before →
        (step : StepIn stores sources from bytes x.state (before_in files) turn (after_in files')) →
        IsPrefixOf (step_moves sources (drafting_sink stores) from bytes x.state (before_in files) turn (after_in files')
        step before).bytes all → Over files' (step_moves sources (drafting_sink stores) from bytes x.state
        (before_in files) turn (after_in files') step before)
    over still (Source s) (Source s') same h step begins =
        source_over sources (drafting_sink stores) (IsGiven programs now.run) (IsTaken programs now.run) x (joined
        programs) was.viewed.kept still from bytes turn before s s' pad all text step begins (λ content m on g. record {
          opening = g.opening;
          first = g.first;
          long = g.long;
          since = on _ g.since;
        }) h
    over still (Sink d) (Sink d') same h step begins =
        let k : Drafting S D = record {
          store = old.state.server.store;
          draft = d;
          path = taken.transfer.path;
          replace = old.state.server.config.overwrite;
        } in
        let k' : Drafting S D = record k { store = serves.next.server.store; draft = d'; path = taken.next.path } in
        sink_over sources (drafting_sink stores) (IsGiven programs now.run) (IsTaken programs now.run) x (joined
        programs) was.viewed.kept still from bytes turn before k k' d d' step (λ after m receives fate t. search
        (fate_takes x turn k k' after before.bytes m.bytes (sym was.path) replace_is (inl store_is) still t.since
        (datagram_action x.state from bytes step.decoded) (λ c. complete_responds x.state from bytes step.decoded
        (sym (was.viewed.kept.committed receives) ∙ c)) fate)) h
    over still (Source s) (Sink d) same h step begins = absurd same
    over still (Sink d) (Source s) same h step begins = absurd same

    open_keeps : is_some (outcome_of x.state.position.phase) ≡ false → IsKept pad now
    open_keeps o =
        let still = no_outcome _ o in
        let Steps : EndState → Type 0 = λ (e : EndState). (step : step_x e) → IsPrefixOf (after_by e step).bytes all →
        Over taken.next.files (after_by e step) in
        let m =
        subst Steps was.state (λ step begins. over still taken.transfer.files taken.next.files taken.takes.kind
        (file_later _ _ (At_port serves) x _ _ was.has.file) step begins) taken.takes.steps (rw (← moved_now)
        told.bytes) in
        let unblamed =
        turn_unblamed kept fresh x was.viewed still (λ same. apart_from_requests kept fresh _ (kept.server.opened port
        taken.transfer place (inl (taken.found, refl))) (sym was.address ∙ same)) from bytes come spelled (λ no_peer
        near_port p spells answer. absurd (peered o no_peer)) turn m.content m.steps in
        then_keeps _ (datagram_goes (joined programs) kept.shown.0 kept.views kept.messages was.viewed.index x from
        bytes turn m.content (open_now o) come (λ no_peer near_port p spells answer. absurd (peered o no_peer)) m.steps)
        refl next_state refl refl unblamed (record {
          opened = record {
            opening = was.has.opened.opening;
            opened = was.has.opened.opened;
            path = was.has.opened.path;
            role = was.has.opened.role;
          };
          text = was.has.text;
          file = rw (moved_now) m.file;
        }) (seated _ refl)

    -- a closed one
    closed_keeps : is_some (outcome_of x.state.position.phase) ≡ true → IsKept pad now
    closed_keeps c =
        rests_keeps (λ decoded. closed_datagram_goes (joined programs) kept.shown.0 kept.views kept.messages
        was.viewed.index x stands was.viewed.kept c from bytes decoded) (λ state. seated x state)

    pub datagram_keeps : IsKept pad now
    datagram_keeps = elim (cases_Bool (is_some (outcome_of x.state.position.phase))) [
      | inl c ↦ closed_keeps c
      | inr o ↦ open_keeps o
    ]
