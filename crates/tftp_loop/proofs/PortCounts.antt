-- How many datagrams of a port the trace has between two waits. For `a_server_receives_few_between_waits`.
use Rattle.std.proofs.Common.{rules}
use Rattle.tftp_loop.proofs.Common.{arith, ◌≡◌, ◌≤◌, ◌<◌, ◌+◌, ◌*◌, ℕ, Bool, true, false, List, [], ◌∷◌, length, Option}
use Rattle.tftp_loop.proofs.Common.{refl, sym, ap, subst, ◌∙◌, inl, inr, All, if◌then◌else◌, is_some, slice_index_or}
use Rattle.tftp_loop.proofs.Common.{slice_set, cases_eq, SourceMeaning, Endpoint, at, StoreMeaning, Received, AreKept}
use Rattle.tftp_loop.proofs.Common.{Run, Start, Then, Timer, PortState, LoopState, PortStep, LoopStep, RequestNote}
use Rattle.tftp_loop.proofs.Common.{note_event, port_state, Waited, At_port, Request_received, Request_noted}
use Rattle.tftp_loop.proofs.Common.{Request_answered, Request_lost, Transfer_closed, A_datagram, A_lost_datagram}
use Rattle.tftp_loop.proofs.Common.{A_late_datagram, answering_port}
use Rattle.tftp_loop.specs.Fair.{ReceivesFewAtAPort, received_since, since_by}
use Rattle.tftp_loop.proofs.Bounded.{sound_along}
use Rattle.tftp_loop.proofs.Counting.{AreFew, few_along}
use Rattle.tftp_loop.proofs.LoopStays.{all_opened, if_any, other_port, removed_all, replaced_all}
use Rattle.tftp_loop.proofs.PortEnds.{same_timer}
use Rattle.tftp_loop.proofs.PortStays.{after_received}
use Rattle.tftp_loop.proofs.NewStates.{replied_same, same_noted, same_requests, state_is}

abbrev one : Bool → ℕ
one true = 1
one false = 0

-- ---- the events of one step

module _ {S F D : Type 0} (meaning : StoreMeaning S D) (sources : SourceMeaning F) where
  note_since : {s : LoopState S F D} {from : Endpoint} {bytes : List ℕ} (n : ℕ)
      (note : RequestNote meaning sources s from bytes) → since_by (note_event note) n ≡ n
  note_since n note = search rules

  module _ (port : ℕ) where
    -- the timer of the port counts what is received there, and no other does
    record Adds (s t : PortState S F D) : Type 0 where
      pub own : s.timer.port ≡ port →
          received_since port t.events + s.timer.received ≡ received_since port s.events + t.timer.received
      pub other : (s.timer.port ≡ port → ⊥) → received_since port t.events ≡ received_since port s.events

    adds_one : (s t : PortState S F D) (from : Endpoint) (bytes : List ℕ) → t.timer.received ≡ s.timer.received + 1
        → received_since port t.events ≡ received_since port (Received s.timer.port from bytes ∷ s.events) → Adds s t
    adds_one s t from bytes counted events = search rules

    adds : (now : ℕ) (s t : PortState S F D) → PortStep meaning sources now s t → Adds s t
    adds now s t (A_datagram d) = search (rules, adds_one, after_received, same_noted)
    adds now s t (A_lost_datagram d) =
        adds_one s t d.from d.bytes (ap (λ (u : Timer). u.received) d.timer) (ap (received_since port) d.events)
    adds now s t (A_late_datagram d) =
        adds_one s t d.from d.bytes (ap (λ (u : Timer). u.received) d.timer) (ap (received_since port) d.events)
    adds now s t does =
        let events = same_noted (received_since port) (λ p t bs es. refl) does in
        search rules

    -- ---- the steps of the loop
    module _ (base : ℕ) where
      -- the datagrams of the port are no more than its timer counts, and those of earlier transfers
      abbrev Counts : ℕ → ℕ → Timer → Type 0
      Counts n opened timer = timer.port ≡ port → n ≤ base + (64 * opened + timer.received)

      -- so many requests were answered since the newest wait
      record Counted (s : LoopState S F D) : Type 0 where
        pub opened : ℕ
        pub few : opened + one (is_some s.pending) ≤ 1 + one s.asked
        pub all : received_since port s.events ≤ base + (64 * opened + 64)
        pub each : All (Counts (received_since port s.events) opened) s.timers

      -- the port, the pending datagram and the timers are as before
      as_before : (s t : LoopState S F D) → t.pending ≡ s.pending → t.asked ≡ s.asked → t.timers ≡ s.timers
          → received_since port t.events ≡ received_since port s.events → Counted s → Counted t
      as_before s t pending asked timers events c = search rules

      set_counted : (s : LoopState S F D) (index : ℕ) (timer : Timer) (next : PortState S F D) →
          index < length s.timers → timer ≡ slice_index_or s.timers index timer
          → PortStep meaning sources s.now (port_state s timer) next → AreKept s.server.held s.timers → AreFew meaning sources s
          → Counted s
          → Counted (record s {
            server = next.server;
            timers = slice_set s.timers index next.timer;
            events = next.events;
          })
      set_counted s index timer next within is does kept few c =
          let added = adds s.now (port_state s timer) next does in
          let own : Counts (received_since port s.events) c.opened timer =
          subst (Counts (received_since port s.events) c.opened) (sym is) (c.each index timer within) in
          let short : next.timer.received ≤ 64 = search rules in
          let n = received_since port next.events in
          elim (cases_eq timer.port port) [
            | inl at ↦
                let counted = added.own at in
                let before = own at in
                let now : n ≤ base + (64 * c.opened + next.timer.received) = omega (arith, counted, before) in
                record {
                  opened = c.opened;
                  few = c.few;
                  all = omega (arith, now, short);
                  each =
                      replaced_all (Counts n c.opened) s.timers index next.timer within (λ k d h apart there.
                      absurd (other_port s.timers index timer k d kept.apart within is h apart (there ∙ sym at)))
                      (λ there. now);
                }
            | inr apart ↦
                let unchanged = added.other apart in
                record {
                  opened = c.opened;
                  few = c.few;
                  all = omega (arith, unchanged, c.all);
                  each =
                      replaced_all (Counts n c.opened) s.timers index next.timer within (λ k d h other there. let was
                      = c.each k d h there in omega (arith, unchanged, was)) (λ there. absurd (apart (sym (same_timer
                      does).port ∙ there)));
                }
          ]

      step_counted : (s t : LoopState S F D) → LoopStep meaning sources s t → (port ≡ s.requests → ⊥)
          → AreKept s.server.held s.timers → AreFew meaning sources s → Counted s → Counted t
      step_counted s t (Waited d) own kept few c = search rules
      step_counted s t (At_port d) own kept few c =
          subst Counted (sym d.is) (set_counted s _ _ _ d.within d.is_timer d.does kept few c)
      step_counted s t (Request_received d) own kept few c = search rules
      step_counted s t (Request_noted d) own kept few c =
          subst Counted (sym d.is) (as_before s _ refl refl refl (note_since (received_since port s.events) d.note) c)
      step_counted s t (Request_answered d) own kept few c =
          let events = replied_same (received_since port) (λ p t bs es. refl) (answering_port s.requests
          d.left.opened.tid) d.left.opened.to d.left.sent s.events in
          let pending = ap (λ (o : Option (Endpoint × List ℕ)). one (is_some o)) d.pending in
          let before = c.few in
          subst Counted (sym d.is) (record {
            opened = c.opened + 1;
            few = omega (arith, before, pending);
            all = omega (arith, events, c.all);
            each =
                all_opened (Counts _ (c.opened + 1)) s d.from d.left.opened.tid d.left.new.held (λ k e h there. let was
                = c.each k e h there in omega (arith, events, was)) (if_any d.left.opened.tid (λ tid there. omega
                (arith, events, c.all)));
          })
      step_counted s t (Request_lost d) own kept few c =
          subst Counted (sym d.is) (record {
            opened = c.opened;
            few = omega (arith, c.few);
            all = c.all;
            each = c.each;
          })
      step_counted s t (Transfer_closed d) own kept few c =
          subst Counted (sym d.is) (search (removed_all (Counts (received_since port s.events) c.opened) s.timers
          d.index d.timer d.within (λ k e h apart. c.each k e h)))
      step_counted s t does own kept few c = subst Counted (sym (state_is does)) (as_before s _ refl refl refl refl c)

    -- ---- along a run
    requests_along : (start now : LoopState S F D) → Run (LoopStep meaning sources) start now → now.requests ≡ start.requests
    requests_along start now Start = refl
    requests_along start now (Then {middle} run does) =
        same_requests does ∙ requests_along start middle run

    counted_along : (start now : LoopState S F D) → start.timers ≡ [] → Run (LoopStep meaning sources) start now
        → (port ≡ start.requests → ⊥) → Counted (received_since port start.events) now
    counted_along start now none Start own = search rules
    counted_along start now none (Then {middle} run does) own =
        step_counted (received_since port start.events) _ _ does (λ e. own (e ∙ requests_along _ _ run)) (sound_along _
        _ _ _ none run).kept (few_along _ _ _ _ none run) (counted_along _ _ none run own)

  one_at_most : (b : Bool) → one b ≤ 1
  one_at_most true = omega arith
  one_at_most false = omega arith

  -- since a run began a port had no more datagrams than three rounds allow between two waits
  pub few_at_a_port : ReceivesFewAtAPort meaning sources
  few_at_a_port start now none run port own =
      let c = counted_along port start now none run own in
      let asked = one_at_most now.asked in
      let opened : c.opened ≤ 2 = omega (arith, c.few, asked) in
      omega (arith, c.all, opened)
