-- A datagram that the request port ignores, or answers by an ERROR, keeps the invariant.
use Rattle.tftp_promises.proofs.Common.{List, ℕ, ◌≡◌, rules, sym, Endpoint, refl, [], ◌∙◌, ap, SourceMeaning, Some}
use Rattle.tftp_promises.proofs.Common.{subst, inl, StoreMeaning, inr, ◌∷◌, SinkMeaning, false, true, None, ◌++◌}
use Rattle.tftp_promises.proofs.Common.{Programs, Bool, ◌⊎◌, Contains, SocketEvent, ◌≢◌, LoopState, length}
use Rattle.tftp_promises.proofs.Common.{TransferState, LoopStep, Sent, joined, outcome_of, OpenEnd, if◌then◌else◌}
use Rattle.tftp_promises.proofs.Common.{endpoint, Snapshot, same_Some, at, IsStranger, open_view, ServerState, Spells}
use Rattle.tftp_promises.proofs.Common.{Message, Contains-push, requests_at, Reply, ◌+◌, A_transfer, server_did}
use Rattle.tftp_promises.proofs.Common.{IsShown, message, append_cancel_right, map, place_at, peer_of, said, Came}
use Rattle.tftp_promises.proofs.Common.{Request_answered, left_by, Nothing, Left, AnswersRequest, error_bytes}
use Rattle.tftp_promises.proofs.Common.{HasClosed, is_ours, opened_ports, option_to_list, At_server, place, numbers}
use Rattle.tftp_promises.proofs.Common.{spells_own, came_if, with_new, after_request, says_error, lookup-insert_other}
use Rattle.tftp_promises.proofs.Common.{above, same_self, is_same, error_packet, valid_error, slice_get-push_new}
use Rattle.tftp_promises.proofs.Common.{opens_at, NoneAt, lookup-insert_same, Option, first_moved, moved_at, opened_at}
use Rattle.tftp_promises.proofs.Common.{opening_moves, or_before}
use Rattle.tftp_rules.specs.Machine.{Error}
use Rattle.tftp_rules.specs.EndOpens.{EndOpens}
use Rattle.tftp_promises.proofs.Places.{placed_by, places, requests_stay, strange_if}
use Rattle.tftp_promises.proofs.Invariant.{IsKept, IsThere, HasStored, IsFreshBy, IsNamed, IsStrangers, StandsAt}
use Rattle.tftp_promises.proofs.Invariant.{TransferKept}
use Rattle.tftp_promises.proofs.Orders.{IsSilent, added_none, answered_sends, none_silent, nothing_in, one_in}
use Rattle.tftp_promises.proofs.KeptServer.{AreSent, says_keeps, seat_keeps, still_keeps, ServerStays}
use Rattle.tftp_promises.proofs.Requested.{IsRefused}
use Rattle.tftp_promises.proofs.MovedSteps.{MovesNone, none_answered}
use Rattle.tftp_promises.proofs.KeptViews.{TurnsHere, opened}
use Rattle.tftp_promises.proofs.Identifiers.{at-with_new_cases}
use Rattle.tftp_promises.proofs.NewPlaces.{at_server as place_at_server, client_apart, new_place}

module _ {S F D G K : Type 0} {stores : StoreMeaning S D} {sources : SourceMeaning F} {inputs : SourceMeaning G}
    {outputs : SinkMeaning K} {programs : Programs stores sources inputs outputs} {pad : ℕ} {old : Snapshot programs}
    (kept : IsKept pad old) {new : LoopState S F D} (answers : AnswersRequest stores sources old.state new) where
  abbrev asked_server : ServerState S F D
  asked_server = old.state.server

  abbrev answered_step : LoopStep stores sources old.state new
  answered_step = Request_answered answers

  -- what the port leaves after this came
  pub left_is : (came : Came S F D) → answers.steps.came ≡ came →
      answers.left ≡ left_by came asked_server answers.from answers.tid
  left_is came is = answers.steps.left ∙ ap (λ (c : Came S F D). left_by c asked_server answers.from answers.tid) is

  -- and the state of the loop
  pub new_is : (came : Came S F D) → answers.steps.came ≡ came →
      new ≡ after_request old.state answers.from (left_by came asked_server answers.from answers.tid)
  new_is came is = answers.is ∙ ap (λ (l : Left S F D). after_request old.state answers.from l) (left_is came is)

  -- a request removes no transfer
  pub closed_earlier : (added : List SocketEvent) (port : ℕ) (transfer : TransferState F D) (a : Endpoint) →
      HasClosed programs (server_did old answered_step added).run port transfer a → HasClosed programs old.run port transfer a
  closed_earlier added port transfer a h4 = search rules

  -- one datagram was sent
  pub one_sent : (messages : List Message) (own : ℕ) (reply : Reply) (added : List SocketEvent) →
      Sent own reply.to reply.bytes ∷ [] ≡ added →
      IsThere messages (endpoint programs.ip own) reply.to reply.bytes ⊎ IsStranger programs reply.to →
      AreSent programs messages added
  one_sent messages own reply added is there port to bytes c =
      let s = answered_sends own (Some reply) [] none_silent port to bytes (rw (sym is) at c) in
      rw (same_Some reply (record { to = to; bytes = bytes }) s.1) at (rw (s.0) at there)

  -- if no transfer opens, all else is as it was, and nothing moves
  stays_so : option_to_list answers.left.opened.tid ≡ [] → new.pending ≡ None → ServerStays kept answered_step
  stays_so opens pending = search rules

  moves_none : option_to_list answers.left.opened.tid ≡ [] → (a : Endpoint) → MovesNone programs old.run answered_step a
  moves_none opens a = none_answered programs old.run answers a (λ c. nothing_in a (rw (opens) at c))

  -- a datagram that is ignored
  pub silent_keeps : (added : List SocketEvent) → new.events ≡ added ++ old.state.events → answers.steps.came ≡ Nothing →
      IsKept pad (server_did old answered_step added)
  silent_keeps added noted is =
      let e = new_is Nothing is in
      let none : [] ≡ added = added_none old.state.events added (sym (ap (λ s. s.events) e) ∙ noted) in
      let opens = ap (λ (l : Left S F D). option_to_list l.opened.tid) (left_is Nothing is) in
      still_keeps kept answered_step (stays_so opens (ap (λ s. s.pending) e)) (moves_none opens)
      (ap (λ s. s.server.held) e) added (subst IsSilent none none_silent)

  -- one that is answered by an ERROR
  pub refusal_keeps : (added : List SocketEvent) → new.events ≡ added ++ old.state.events →
      IsRefused stores sources asked_server answers.from answers.bytes answers.steps.came →
      IsKept pad (server_did old answered_step added)
  refusal_keeps added noted r =
      let e = new_is _ r.is in
      let reply : Reply = record { to = answers.from; bytes = error_bytes r.reply } in
      let m : Message = message (requests_at programs) answers.from Error in
      let one : Sent old.state.requests reply.to reply.bytes ∷ [] ≡ added =
      append_cancel_right (Sent old.state.requests reply.to reply.bytes ∷ []) added old.state.events (sym (ap (λ s.
      s.events) e) ∙ noted) in
      let said : IsThere (kept.messages ++ m ∷ []) (endpoint programs.ip programs.port) reply.to reply.bytes =
      (error_packet r.reply, spells_own (error_packet r.reply) (valid_error r.reply), Contains-push kept.messages m) in
      let there = subst (λ (n : ℕ). IsThere (kept.messages ++ m ∷ []) (endpoint programs.ip n) reply.to reply.bytes)
      (sym (requests_stay programs old.run)) said in
      let opens = ap (λ (l : Left S F D). option_to_list l.opened.tid) (left_is _ r.is) in
      let shown = says_error (joined programs) kept.shown.0 kept.views kept.messages kept.shown.1 (requests_at programs)
      answers.from in
      says_keeps kept answered_step (stays_so opens (ap (λ s. s.pending) e)) (moves_none opens) (ap (λ s. s.server.held)
      e) added (m ∷ []) (kept.shown.0 ++ shown.0, shown.2) (one_sent _ _ _ _ one (inl there))

-- A transfer that a request opens keeps the invariant.

module _ {S F D G K : Type 0} {stores : StoreMeaning S D} {sources : SourceMeaning F} {inputs : SourceMeaning G}
    {outputs : SinkMeaning K} {programs : Programs stores sources inputs outputs} {pad : ℕ} {old : Snapshot programs}
    (kept : IsKept pad old) {new : LoopState S F D} (answers : AnswersRequest stores sources old.state new)
    (added : List SocketEvent) (noted : new.events ≡ added ++ old.state.events)
    (fresh : IsFreshBy (server_did old (Request_answered answers) added)) where
  abbrev server : ServerState S F D
  server = old.state.server

  abbrev does : LoopStep stores sources old.state new
  does = Request_answered answers

  abbrev now : Snapshot programs
  now = server_did old does added

  -- the new port, and its place
  abbrev tid : ℕ
  tid = answers.tid

  abbrev count : ℕ
  count = length (opened_ports old.run)

  abbrev a : Endpoint
  a = place programs count answers.from tid

  abbrev known : List Endpoint
  known = places programs old.run

  -- ---- a transfer opens
  module _ (transfer : TransferState F D) (store : S) (is : answers.steps.came ≡ A_transfer transfer store) where
    opens_port : option_to_list answers.left.opened.tid ≡ tid ∷ []
    opens_port = search rules

    placed : placed_by programs old.run does ≡ a ∷ []
    placed = ap (map (place programs count answers.from)) opens_port

    pub its_place : Contains (places programs now.run) a
    its_place = search (rules, placed)

    -- it is what came at this place, and at this port
    came_here : opens_at programs a old.run does ≡ Some transfer
    came_here = ap (came_if (is_same a a)) is ∙ ap (λ (b : Bool). if b then Some transfer else None) (same_self a)

    pub opened_here : opened_at programs a now.run ≡ Some transfer
    opened_here = ap (λ (z : Option (TransferState F D)). or_before z (opened_at programs a old.run)) came_here

    pub moved_here : moved_at programs a now.run ≡ first_moved transfer.end
    moved_here = ap (λ (z : Option (TransferState F D)). opening_moves z (moved_at programs a old.run)) came_here

    place_now : place_at programs tid now.run ≡ a
    place_now = search rules

    place_still : (port : ℕ) → port ≢ tid → place_at programs port now.run ≡ place_at programs port old.run
    place_still port n = search rules

    -- no transfer before was at this place, or is held at this port
    place_is_new : (b : Endpoint) → Contains known b → b ≢ a
    place_is_new b c = new_place programs old answers opens_port added fresh b c

    free_port : (port : ℕ) (t : TransferState F D) → at port server.held ≡ Some t → port ≢ tid
    free_port port t e same = search rules

    pub none_there : NoneAt kept.views a
    none_there k view at same = elim (kept.only view (k, at)) [
      | inl h ↦ client_apart programs now fresh a its_place h.k h.client h.found (sym h.address ∙ same)
      | inr h ↦ place_is_new view.address (kept.server.opened h.port h.transfer view.address h.is_transfer) same
    ]

    -- it is at the server
    pub at_server : (joined programs).host_of a ≡ At_server
    at_server = place_at_server programs now fresh a its_place

    state_is : new ≡ after_request old.state answers.from (left_by (A_transfer transfer store) server answers.from tid)
    state_is = new_is kept answers (A_transfer transfer store) is

    held_is : new.server.held ≡ with_new tid transfer server.held
    held_is = ap (λ (s : LoopState S F D). s.server.held) state_is

    module _ (x : OpenEnd) (address : x.address ≡ a) (peer : peer_of x.state.position.phase ≡ Some answers.from)
        (state : x.state ≡ transfer.end) (path : x.path ≡ transfer.path) (request : x.request ≡ transfer.request)
        (named : IsNamed transfer.path transfer.request) (still : outcome_of x.state.position.phase ≡ None)
        (opens : EndOpens (joined programs) kept.shown.0 kept.views kept.messages answers.from x)
        (has : HasStored pad now x transfer.files) where
      abbrev said_now : List Message
      said_now = message a answers.from (said opens.packet) ∷ []

      abbrev messages : List Message
      messages = kept.messages ++ said_now

      abbrev turns : TurnsHere kept (λ (b : Endpoint). a ≡ b)
      turns =
          opened a x address said_now (subst (λ (e : Endpoint). IsShown (joined programs) (kept.views ++ open_view x ∷ [])
          (kept.messages ++ message e answers.from (said opens.packet) ∷ [])) address
          (kept.shown.0 ++ opens.shown.0, opens.shown.2))

      -- its first datagram is among the messages
      spelled : Spells opens.packet x.state.position.last_sent
      spelled = search rules

      says_first : IsThere messages a answers.from x.state.position.last_sent
      says_first = (opens.packet, spelled, Contains-push kept.messages (message a answers.from (said opens.packet)))

      last_sent : IsThere messages x.address x.state.position.last_sent_to x.state.position.last_sent
      last_sent = search (rules, says_first)

      one : Sent tid answers.from x.state.position.last_sent ∷ [] ≡ added
      one =
          ap (λ e. Sent tid answers.from e.position.last_sent ∷ []) state ∙ append_cancel_right (Sent tid answers.from
          transfer.end.position.last_sent ∷ []) added old.state.events (sym (ap (λ s. s.events) state_is) ∙ noted)

      -- it stands at its port, or is a stranger's
      seat_by : (b : Bool) → is_ours programs answers.from ≡ b →
          (a ≡ endpoint programs.ip tid) ⊎ IsStrangers programs x.state
      seat_by true e = inl (ap (λ (b : Bool). endpoint programs.ip (if b then tid else above programs + count)) e)
      seat_by false e =
          let strange = strange_if programs answers.from e in
          search rules

      seat : (a ≡ endpoint programs.ip tid) ⊎ IsStrangers programs x.state
      seat = seat_by (is_ours programs answers.from) refl

      first_by : (a ≡ endpoint programs.ip tid) ⊎ IsStrangers programs x.state →
          IsThere messages (endpoint programs.ip tid) answers.from x.state.position.last_sent
          ⊎ IsStranger programs answers.from
      first_by (inl here) = inl (rw (← here) says_first)
      first_by (inr s) = inr (subst (λ (to : Endpoint). IsStranger programs to) opens.last_sent_to s.last_sent_to)

      own : TransferKept pad turns.next messages now tid transfer a
      own = record {
        end = x;
        address = address;
        seat = seat;
        state = state;
        path = path;
        request = request;
        named = named;
        side = opens.side;
        viewed =
            record {
              kept = opens.kept;
              index = length kept.views;
              viewed = slice_get-push_new kept.views (open_view x);
              last_sent = last_sent;
              unblamed = search rules;
            };
        has = has;
      }

      -- nothing moves at another place
      beside : (b : Endpoint) → a ≢ b → MovesNone programs old.run does b
      beside b n = none_answered programs old.run answers b (λ d. n (one_in b a (rw (placed) at d)))

      from : (g : Bool) (q : ℕ) (u : TransferState F D) (b : Endpoint) → StandsAt now g q u b →
          ((g ≡ true) × (q ≡ tid) × (u ≡ transfer) × (b ≡ a)) ⊎ ((a ≢ b) × StandsAt old g q u b)
      from true q u b h = elim (at-with_new_cases tid q transfer u server.held (ap (at q) (sym held_is) ∙ h.0)) [
        | inl e ↦ inl (refl, e.0, sym e.1, h.1 ∙ (ap (λ (p : ℕ). place_at programs p now.run) e.0 ∙ place_now))
        | inr e ↦
            let was : StandsAt old true q u b = (e.1, h.1 ∙ place_still q e.0) in
            inr (λ same. place_is_new b (kept.server.opened q u b (inl was)) (sym same), was)
      ]
      from false q u b h =
          let was = closed_earlier kept answers added q u b h in
          inr (λ same. place_is_new b (kept.server.opened q u b (inr was)) (sym same), was)

      onto : (g : Bool) (q : ℕ) (u : TransferState F D) (b : Endpoint) → StandsAt old g q u b →
          (a ≡ b) ⊎ StandsAt now g q u b
      onto true q u b h =
          let n = free_port q u h.0 in
          inr (
            ap (at q) held_is ∙ (lookup-insert_other numbers tid q transfer server.held n ∙ h.0),
            h.1 ∙ sym (place_still q n),
          )
      onto false q u b h = inr (inr h)

      pub opening_keeps : IsKept pad now
      opening_keeps =
          seat_keeps kept does added true tid transfer a (
            ap (at tid) held_is ∙ lookup-insert_same numbers tid transfer
                server.held,
            sym place_now,
          ) from onto its_place (λ k client found same. client_apart _ _ fresh a its_place k _
          found same) beside turns (one_sent kept answers _ _ _ _ one (first_by seat)) (λ from bytes e. absurd (let f =
          sym (ap (λ s. s.pending) state_is) ∙ e in cc)) own
