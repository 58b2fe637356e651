-- Each OACK that a server sent opened a transfer: it is the first datagram of one, and was sent to where its request
-- came from. For the law a_client_ends_for_a_reason.
use Rattle.std.proofs.lemmas.Grind.{common_steps}
use Rattle.std.proofs.Common.{arith, rules as std_rules}
use Rattle.tftp_promises.proofs.Common.{List, ℕ, ◌≡◌, rules, sym, Endpoint, refl, [], ◌∙◌, ap, SourceMeaning, Some}
use Rattle.tftp_promises.proofs.Common.{subst, inl, StoreMeaning, inr, ◌∷◌, true, None, ◌++◌, ◌⊎◌, SocketEvent, Option}
use Rattle.tftp_promises.proofs.Common.{true≢false, LoopState, TransferState, LoopStep, Sent, Received, at, Run, Mode}
use Rattle.tftp_promises.proofs.Common.{Then, Start, Reply, timeout_turn, A_transfer, IsBlockSize, append_cancel_right}
use Rattle.tftp_promises.proofs.Common.{drafting_sink, Came, PortStep, append_assoc, answered, state_is, PortState}
use Rattle.tftp_promises.proofs.Common.{left_by, Nothing, Has, AnswersRequest, acts_at, Error_reply, Said, At_port}
use Rattle.tftp_promises.proofs.Common.{A_datagram, Opening, Work, A_timeout, trace_is, StoreOpened, Request_lost}
use Rattle.tftp_promises.proofs.Common.{has_opcode, Waited, after_request, Store_set}
use Rattle.tftp_lives.proofs.OneOrder.{has_last}
use Rattle.tftp_lives.proofs.NewestSaid.{IsPlain, datagram_plain, newest_said, timeout_plain}
use Rattle.tftp_loop.specs.Steps.LoopStep.{Request_answered}
use Rattle.tftp_promises.specs.Given.{StoreOpens}
use Rattle.tftp_promises.proofs.StepEvents.{step_adds}
use Rattle.tftp_promises.proofs.TransferLives.{run_config, transfers_live}
use Rattle.tftp_promises.proofs.TransferTraces.{transfers_noted, all_is, all_of, sent_in}
use Rattle.tftp_promises.proofs.Orders.{IsUnsent}
use Rattle.tftp_promises.proofs.Places.{run_requests}

-- of each OACK that was noted since the trace was so, this holds
record AreSo (before : List SocketEvent) (Holds : Endpoint → List ℕ → Type 0) (events : List SocketEvent) : Type 0 where
  noted : List SocketEvent
  is : events ≡ noted ++ before
  sent : (port : ℕ) (to : Endpoint) (bytes : List ℕ) → Has (Sent port to bytes) noted → has_opcode 6 bytes ≡ true →
      Holds to bytes

same_to : (a b : ℕ) (to goes : Endpoint) (x y : List ℕ) → Sent a goes x ≡ Sent b to y → (goes ≡ to) × (x ≡ y)
same_to a b to goes x y e = (cc, cc)

module _ {before : List SocketEvent} {Holds : Endpoint → List ℕ → Type 0} where
  so_on : (e : SocketEvent) (events : List SocketEvent) → IsUnsent e → AreSo before Holds events →
      AreSo before Holds (e ∷ events)
  so_on e events unsent h = record {
    noted = e ∷ h.noted;
    is = ap (λ (es : List SocketEvent). e ∷ es) h.is;
    sent = λ port to bytes there oack. elim there [
      | inl same ↦ absurd (subst IsUnsent same unsent)
      | inr old ↦ h.sent port to bytes old oack
    ];
  }

  so_says : (at : ℕ) (goes : Endpoint) (content : List ℕ) (events : List SocketEvent) →
      (has_opcode 6 content ≡ true → Holds goes content) → AreSo before Holds events →
      AreSo before Holds (Sent at goes content ∷ events)
  so_says at goes content events holds h = record {
    noted = Sent at goes content ∷ h.noted;
    is = ap (λ (es : List SocketEvent). Sent at goes content ∷ es) h.is;
    sent = λ port to bytes there oack. elim there [
      | inl same ↦
          let parts = same_to at port to goes content bytes same in
          rw (← parts.0) (subst (λ (b : List ℕ). Holds goes b) parts.1 (holds (ap (has_opcode 6) parts.1 ∙ oack)))
      | inr old ↦ h.sent port to bytes old oack
    ];
  }

  so_answers : (at : ℕ) (reply : Option Reply) (events : List SocketEvent) →
      ((r : Reply) → reply ≡ Some r → has_opcode 6 r.bytes ≡ true → Holds r.to r.bytes) → AreSo before Holds events →
      AreSo before Holds (answered at reply events)
  so_answers at reply events holds h = search (rules, so_says)

  so_same : (events other : List SocketEvent) → other ≡ events → AreSo before Holds events → AreSo before Holds other
  so_same events other is h = subst (AreSo before Holds) (sym is) h

so_weaker : (before : List SocketEvent) (One Other : Endpoint → List ℕ → Type 0) →
    ((to : Endpoint) (bytes : List ℕ) → One to bytes → Other to bytes) → (events : List SocketEvent) →
    AreSo before One events → AreSo before Other events
so_weaker before One Other weaker events h = record {
  noted = h.noted;
  is = h.is;
  sent = λ port to bytes there oack. weaker to bytes (h.sent port to bytes there oack);
}

module _ {S F D : Type 0} (stores : StoreMeaning S D) (sources : SourceMeaning F) where
  -- what is pending is as it was, or was received now
  abbrev Pends : LoopState S F D → LoopState S F D → Type 0
  Pends old new =
      (from : Endpoint) (bytes : List ℕ) → new.pending ≡ Some (from, bytes) →
      (old.pending ≡ Some (from, bytes)) ⊎ (new.events ≡ Received old.requests from bytes ∷ old.events)

  step_pends : {old new : LoopState S F D} → LoopStep stores sources old new → Pends old new
  step_pends h0 = search rules

module _ {S F D : Type 0} (stores : StoreMeaning S D) (sources : SourceMeaning F) {start : LoopState S F D} where
  -- the server opened a transfer for a request from there, which it had received, and sent this first
  pub record IsOpenedBy {now : LoopState S F D} (run : Run (LoopStep stores sources) start now) (to : Endpoint)
      (bytes : List ℕ) : Type 0 where
    pub old : LoopState S F D
    pub new : LoopState S F D
    pub answers : AnswersRequest stores sources old new
    pub from : answers.from ≡ to
    pub transfer : TransferState F D
    pub store : S
    pub came : answers.steps.came ≡ A_transfer transfer store
    pub first : transfer.end.position.last_sent ≡ bytes
    pub config : old.server.config ≡ start.server.config
    -- its store was asked in the run
    pub stored : (path request : List ℕ) (mode : Mode) (opening : Opening F) →
        StoreOpens (Request_answered answers) path request mode opening → StoreOpened run path request mode opening
    -- the request is in the trace
    pub noted : List SocketEvent
    pub is : now.events ≡ noted ++ start.events
    pub received : Has (Received start.requests answers.from answers.bytes) noted

  -- and has after another step
  opened_still : {old new : LoopState S F D} (run : Run (LoopStep stores sources) start old)
      (does : LoopStep stores sources old new) (to : Endpoint) (bytes : List ℕ) → IsOpenedBy run to bytes →
      IsOpenedBy (Then run does) to bytes
  opened_still run does to bytes h =
      let adds = step_adds does in
      record {
        old = h.old;
        new = h.new;
        answers = h.answers;
        from = h.from;
        transfer = h.transfer;
        store = h.store;
        came = h.came;
        first = h.first;
        config = h.config;
        stored = λ path request mode opening asked. inr (h.stored path request mode opening asked);
        noted = adds.0 ++ h.noted;
        is = grind (arith, common_steps);
        received = has_last (Received start.requests h.answers.from h.answers.bytes) adds.0 h.noted h.received;
      }

  -- what is known at each time of a run
  record Known {now : LoopState S F D} (run : Run (LoopStep stores sources) start now) : Type 0 where
    so : AreSo start.events (IsOpenedBy run) now.events
    pending : (from : Endpoint) (bytes : List ℕ) → now.pending ≡ Some (from, bytes) →
        Has (Received start.requests from bytes) so.noted

  module _ {old new : LoopState S F D} (run : Run (LoopStep stores sources) start old)
      (does : LoopStep stores sources old new) (h : Known run) where
    abbrev Now : Endpoint → List ℕ → Type 0
    Now = IsOpenedBy (Then run does)

    -- what was noted before
    so_far : AreSo start.events Now old.events
    so_far = so_weaker start.events (IsOpenedBy run) Now (opened_still run does) old.events h.so

    abbrev After : List SocketEvent → Type 0
    After events = AreSo start.events Now events

    on : (e : SocketEvent) (events : List SocketEvent) → IsUnsent e → After events → After (e ∷ events)
    on e events unsent a = so_on e events unsent a

    -- what a transfer sends again was sent before
    again : (port : ℕ) (transfer : TransferState F D) → start.server.held ≡ [] →
        IsBlockSize start.server.config.limits.max_block → at port old.server.held ≡ Some transfer →
        (reply : Option Reply) → IsPlain transfer.end reply → (r : Reply) → reply ≡ Some r →
        has_opcode 6 r.bytes ≡ true → Now r.to r.bytes
    again port transfer none max found reply plain r is oack = by_plain (subst (IsPlain transfer.end) is plain)
      where
        by_plain : IsPlain transfer.end (Some r) → Now r.to r.bytes
        by_plain (inl differs) = absurd (true≢false (sym oack ∙ differs))
        by_plain (inr same) =
            let living = transfers_live stores sources run none max port transfer found in
            let told = transfers_noted stores sources start none max port run in
            let said : Has (Said r.to r.bytes) (acts_at port run) =
            rw (same) (newest_said sources (drafting_sink stores) living.life) in
            let there = sent_in port start.events told r.to r.bytes said in
            let noted = all_of port start.events told in
            let one : noted ≡ h.so.noted =
            append_cancel_right noted h.so.noted start.events (sym (all_is port start.events told) ∙ h.so.is) in
            opened_still run does r.to r.bytes
            (h.so.sent port r.to r.bytes (rw (← one) there)
            oack)

  -- at the port of a transfer
  port_so : {old new : LoopState S F D} (run : Run (LoopStep stores sources) start old)
      (does : LoopStep stores sources old new) → Known run → start.server.held ≡ [] →
      IsBlockSize start.server.config.limits.max_block → (now : ℕ) (before after : PortState S F D) →
      before.server ≡ old.server → before.events ≡ old.events → PortStep stores sources now before after →
      AreSo start.events (IsOpenedBy (Then run does)) after.events
  port_so {old} run does h none max now before after server events (A_datagram d) =
      let takes = d.handles.takes in
      let from_old = so_same _ _ events (so_far _ does h) in
      so_same _ _ d.handles.events (so_answers before.timer.port _ _ (again _ does h _ _ none max (ap (λ s. at
      before.timer.port s.held) (sym server) ∙ takes.found) _ (datagram_plain sources (drafting_sink stores) d.from
      d.bytes takes.transfer.end takes.takes.turn _ _ takes.takes.steps)) (on _ does h _ _ tt from_old))
  port_so {old} run does h none max now before after server events (A_timeout d) =
      let times_out = d.times_out.times_out in
      let reply = (timeout_turn times_out.transfer.end).reply in
      so_same _ _ d.times_out.events (so_answers before.timer.port _ _ (again _ does h _ _ none max (ap (λ s. at
      before.timer.port s.held) (sym server) ∙ times_out.found) _ (timeout_plain times_out.transfer.end)) (on _ does h _
      _ tt (so_same _ _ events (so_far _ does h))))
  port_so {old} run does h none max now before after server events (Work d) =
      so_same _ _ (d.events ∙ events) (so_far _ does h)
  port_so {old} run does h none max now before after server events step =
      so_same _ _ (trace_is step) (on _ does h _ _ tt (so_same _ _ events (so_far _ does h)))

  -- the answer to a request
  came_so : {old new : LoopState S F D} (run : Run (LoopStep stores sources) start old)
      (d : AnswersRequest stores sources old new) (h : Known run) (came : Came S F D) → d.steps.came ≡ came →
      AreSo start.events (IsOpenedBy (Then run (Request_answered d)))
      (after_request old d.from (left_by came old.server d.from d.tid)).events
  came_so run d h Nothing is = so_far _ (Request_answered d) h
  came_so {old} run d h (Error_reply reply store) is =
      so_says old.requests _ _ _ (λ oack. absurd (true≢false (sym oack))) (so_far _ (Request_answered d) h)
  came_so {old} {new} run d h (A_transfer transfer store) is =
      let adds = step_adds (Request_answered d) in
      let before = h.so in
      so_says d.tid _ _ _ (λ oack. record {
        old = old;
        new = new;
        answers = d;
        from = refl;
        transfer = transfer;
        store = store;
        came = is;
        first = refl;
        config = run_config _ _ run;
        stored = λ path request mode opening asked. inl asked;
        noted = adds.0 ++ before.noted;
        is = adds.1 ∙ (ap (λ es. adds.0 ++ es) before.is ∙ sym (append_assoc adds.0 before.noted start.events));
        received =
            has_last (Received start.requests d.from d.bytes) adds.0 before.noted (h.pending d.from d.bytes d.pending);
      }) (so_far _ (Request_answered d) h)

  -- ---- along a run
  step_so : {old new : LoopState S F D} (run : Run (LoopStep stores sources) start old)
      (does : LoopStep stores sources old new) → Known run → start.server.held ≡ [] →
      IsBlockSize start.server.config.limits.max_block → AreSo start.events (IsOpenedBy (Then run does)) new.events
  step_so {old} {new} run (Waited d) h none max =
      so_same _ _ (ap (λ s. s.events) d.is) (on _ (Waited d) h _ _ tt (on _ (Waited d) h _ _ tt (on _ (Waited d) h _ _
      tt (so_far _ (Waited d) h))))
  step_so {old} {new} run (At_port d) h none max =
      so_same _ _ (ap (λ s. s.events) d.is) (port_so _ (At_port d) h none max _ _ _ refl refl d.does)
  step_so {old} {new} run (Request_answered d) h none max =
      so_same _ _ (ap (λ s. s.events) d.is) (subst (λ left. AreSo start.events (IsOpenedBy (Then run (Request_answered
      d))) (after_request old d.from left).events) (sym d.steps.left) (came_so _ d h _ refl))
  step_so {old} {new} run (Request_lost d) h none max =
      so_same _ _ (ap (λ s. s.events) d.is) (so_far _ (Request_lost d) h)
  step_so {old} {new} run (Store_set d) h none max = so_same _ _ (ap (λ s. s.events) d.is) (so_far _ (Store_set d) h)
  step_so {old} {new} run does h none max =
      so_same _ _ (ap (λ s. s.events) (state_is does)) (on _ does h _ _ tt (so_far _ does h))

  known_still : {old new : LoopState S F D} (run : Run (LoopStep stores sources) start old)
      (does : LoopStep stores sources old new) → Known run → start.server.held ≡ [] →
      IsBlockSize start.server.config.limits.max_block → Known (Then run does)
  known_still {old} {new} run does h none max =
      let so = step_so run does h none max in
      let adds = step_adds does in
      let noted_is : so.noted ≡ adds.0 ++ h.so.noted =
      append_cancel_right so.noted (adds.0 ++ h.so.noted) start.events (sym so.is ∙ (adds.1 ∙ (ap (λ (es : List
      SocketEvent). adds.0 ++ es) h.so.is ∙ sym (append_assoc adds.0 h.so.noted start.events)))) in
      record {
        so = so;
        pending = λ from bytes is. elim (step_pends stores sources does from bytes is) [
          | inl before ↦
              rw (noted_is) (has_last (Received start.requests from bytes) adds.0 h.so.noted (h.pending from bytes
              before))
          | inr now ↦
              let all : so.noted ≡ Received old.requests from bytes ∷ h.so.noted =
              append_cancel_right so.noted (Received old.requests from bytes ∷ h.so.noted) start.events (sym so.is ∙
              (now ∙ ap (λ (es : List SocketEvent). Received old.requests from bytes ∷ es) h.so.is)) in
              rw (all) (inl (ap (λ (p : ℕ). Received p from bytes) (run_requests run)))
        ];
      }

  oacks_open : {now : LoopState S F D} (run : Run (LoopStep stores sources) start now) → start.pending ≡ None →
      start.server.held ≡ [] → IsBlockSize start.server.config.limits.max_block → Known run
  oacks_open Start idle none max = search std_rules
  oacks_open (Then run does) idle none max = known_still run does (oacks_open run idle none max) none max

  -- so it is of each that it noted
  pub oack_opens : {now : LoopState S F D} (run : Run (LoopStep stores sources) start now) → start.pending ≡ None →
      start.server.held ≡ [] → IsBlockSize start.server.config.limits.max_block → (noted : List SocketEvent) →
      now.events ≡ noted ++ start.events → (port : ℕ) (to : Endpoint) (bytes : List ℕ) →
      Has (Sent port to bytes) noted → has_opcode 6 bytes ≡ true → IsOpenedBy run to bytes
  oack_opens run idle none max noted is port to bytes there oack =
      let known = oacks_open run idle none max in
      let same = append_cancel_right noted known.so.noted start.events (sym is ∙ known.so.is) in
      known.so.sent port to bytes (subst (λ (es : List SocketEvent). Has (Sent port to bytes) es) same there) oack
