-- What a trace shows that tells of the acts of an end. For GivingUp.
use Rattle.std.proofs.Common.{rules as std_rules}
use Rattle.tftp_promises.proofs.Common.{List, ℕ, ◌≡◌, rules, sym, Endpoint, refl, [], ◌∙◌, ap, subst, inl, inr, ◌∷◌}
use Rattle.tftp_promises.proofs.Common.{false, true, ◌++◌, Bool, ◌⊎◌, SocketEvent, true≢false, arith, Sent}
use Rattle.tftp_promises.proofs.Common.{if◌then◌else◌, Received, suc, Noted, ◌==◌, zero, ◌≤◌, ◌+◌, Elapsed, eq-eqb}
use Rattle.tftp_promises.proofs.Common.{events_of, Act, Has, Took, Said, eqb-true, Lost, Timed, OneAct, IsNoActAt}
use Rattle.tftp_promises.proofs.Common.{IsEventOf, Begins_so, Tells, heads, HasCopies, HasOrder, ne_eqb}
use Rattle.tftp_lives.specs.Lives.{timed}
use Rattle.tftp_lives.proofs.OneOrder.{nothing_left}
use Rattle.tftp_promises.specs.GivesUp.{elapsed}
use Rattle.tftp_promises.proofs.StepEvents.{no_more}
use Rattle.tftp_promises.specs.Outlasting.{Shows, Ends_so, Opens_so, Closes_so, Another, Of_client, Of_server}

-- ---- the newest event
-- it is that act
pub record IsNewest (port : ℕ) (e : SocketEvent) (events : List SocketEvent) (acts : List Act) : Type 0 where
  pub act : Act
  pub rest : List Act
  pub is : acts ≡ act ∷ rest
  pub event : IsEventOf port e act
  pub tells : Tells port events rest

-- it is none of this port
pub record IsPassed (port : ℕ) (e : SocketEvent) (events : List SocketEvent) (acts : List Act) : Type 0 where
  pub other : IsNoActAt port e
  pub tells : Tells port events acts

pub newest_of : (port : ℕ) {e : SocketEvent} {events : List SocketEvent} {acts : List Act} →
    Tells port (e ∷ events) acts → IsPassed port e events acts ⊎ IsNewest port e events acts
newest_of port h1 = search rules

pub none_of : (port : ℕ) {acts : List Act} → Tells port [] acts → [] ≡ acts
none_of port Begins_so = refl

module _ (port : ℕ) where
  elapsed_on : (e : SocketEvent) (events : List SocketEvent) → elapsed port events ≤ elapsed port (e ∷ events)
  elapsed_on (Elapsed own time) events = omega arith
  elapsed_on e events = omega arith

  -- ---- each act is an event
  pub tells_act : (events : List SocketEvent) (acts : List Act) → Tells port events acts → (act : Act) → Has act acts →
      (e : SocketEvent) × Has e events × IsEventOf port e act
  tells_act [] acts t act h = absurd (subst (Has act) (sym (none_of port t)) h)
  tells_act (e ∷ events) acts t act h = elim (newest_of port t) [
    | inl passed ↦ let there = tells_act events acts passed.tells act h in (there.0, inr there.1, there.2)
    | inr new ↦ elim (subst (Has act) new.is h) [
      | inl here ↦ (e, inl refl, subst (IsEventOf port e) here new.event)
      | inr more ↦ let there = tells_act events new.rest new.tells act more in (there.0, inr there.1, there.2)
    ]
  ]

  pub tells_sent : (events : List SocketEvent) (acts : List Act) → Tells port events acts → (to : Endpoint)
      (bytes : List ℕ) → Has (Said to bytes) acts → Has (Sent port to bytes) events
  tells_sent events acts t to bytes h = search (std_rules, tells_act)

  -- what was handled was received
  pub tells_took : (events : List SocketEvent) (acts : List Act) → Tells port events acts → (from : Endpoint)
      (bytes : List ℕ) → Has (Took from bytes) acts → Has (Received port from bytes) events
  tells_took events acts t from bytes h = search (std_rules, tells_act)

  -- copy by copy
  pub tells_copies : (events : List SocketEvent) (acts : List Act) → Tells port events acts → (n : ℕ) (to : Endpoint)
      (bytes : List ℕ) → HasCopies n (Said to bytes) acts → HasCopies n (Sent port to bytes) events
  tells_copies events acts t zero to bytes h = tt
  tells_copies [] acts t (suc n) to bytes h =
      absurd (subst (HasCopies (suc n) (Said to bytes)) (sym (none_of port t)) h)
  tells_copies (e ∷ events) acts t (suc n) to bytes h = elim (newest_of port t) [
    | inl passed ↦ inr (tells_copies events acts passed.tells (suc n) to bytes h)
    | inr new ↦ elim (subst (HasCopies (suc n) (Said to bytes)) new.is h) [
      | inl here ↦
          inl (subst (IsEventOf port e) here.0 new.event, tells_copies events new.rest new.tells n to bytes here.1)
      | inr more ↦ inr (tells_copies events new.rest new.tells (suc n) to bytes more)
    ]
  ]

  -- ---- since it was sent
  pub record SeenSince (events : List SocketEvent) (to : Endpoint) (bytes : List ℕ) (count : ℕ) : Type 0 where
    pub later : List SocketEvent
    pub earlier : List SocketEvent
    pub is : events ≡ later ++ Sent port to bytes ∷ earlier
    pub timeouts : count ≤ elapsed port later

  seen_on : (e : SocketEvent) (events : List SocketEvent) (to : Endpoint) (bytes : List ℕ) (count : ℕ) →
      SeenSince events to bytes count → SeenSince (e ∷ events) to bytes count
  seen_on e events to bytes count h =
      let l = elapsed_on e h.later in
      let m = h.timeouts in
      record {
        later = e ∷ h.later;
        earlier = h.earlier;
        is = ap (λ (es : List SocketEvent). e ∷ es) h.is;
        timeouts = omega (arith, l, m);
      }

  seen_time : (time : ℕ) (events : List SocketEvent) (to : Endpoint) (bytes : List ℕ) (count : ℕ) →
      SeenSince events to bytes count → SeenSince (Elapsed port time ∷ events) to bytes (1 + count)
  seen_time time events to bytes count h =
      let one : ◌≡◌ {A = ℕ} (if port == port then 1 else 0) 1 = search std_rules in
      let m = h.timeouts in
      record {
        later = Elapsed port time ∷ h.later;
        earlier = h.earlier;
        is = ap (λ (es : List SocketEvent). Elapsed port time ∷ es) h.is;
        timeouts = omega (arith, one, m);
      }

  seen_act : (e : SocketEvent) (act : Act) (events : List SocketEvent) (to : Endpoint) (bytes : List ℕ)
      (later : List Act) → IsEventOf port e act → SeenSince events to bytes (timed later) →
      SeenSince (e ∷ events) to bytes (timed (act ∷ later))
  seen_act e Timed events to bytes later is h = rw is.1 (seen_time is.0 _ _ _ _ h)
  seen_act e act events to bytes later is h = seen_on e events to bytes (timed later) h

  since_newest : (e : SocketEvent) (events : List SocketEvent) (act : Act) (rest later : List Act) (to : Endpoint)
      (bytes : List ℕ) (earlier : List Act) → IsEventOf port e act → act ∷ rest ≡ later ++ Said to bytes ∷ earlier →
      ((others : List Act) → rest ≡ others ++ Said to bytes ∷ earlier → SeenSince events to bytes (timed others)) →
      SeenSince (e ∷ events) to bytes (timed later)
  since_newest e events act rest [] to bytes earlier event is more = record {
    later = [];
    earlier = events;
    is = search std_rules;
    timeouts = omega arith;
  }
  since_newest e events act rest (x ∷ later) to bytes earlier event is more =
      let h = heads act x rest (later ++ Said to bytes ∷ earlier) is in
      seen_act e x events to bytes later (subst (IsEventOf port e) h.0 event) (more later h.1)

  pub tells_since : (events : List SocketEvent) (acts : List Act) → Tells port events acts → (later : List Act)
      (to : Endpoint) (bytes : List ℕ) (earlier : List Act) → acts ≡ later ++ Said to bytes ∷ earlier →
      SeenSince events to bytes (timed later)
  tells_since [] acts t later to bytes earlier is =
      nothing_left later (Said to bytes) earlier (none_of port t ∙ is)
  tells_since (e ∷ events) acts t later to bytes earlier is = elim (newest_of port t) [
    | inl passed ↦
        seen_on e events to bytes (timed later) (tells_since events acts passed.tells later to bytes earlier is)
    | inr new ↦
        since_newest e events new.act new.rest later to bytes earlier new.event (sym new.is ∙ is)
        (λ others same. tells_since events new.rest new.tells others to bytes earlier same)
  ]

  -- ---- what was received is handled, or lost
  abbrev IsHandled : Endpoint → List ℕ → List Act → Type 0
  IsHandled from bytes acts = Has (Took from bytes) acts ⊎ Has (Lost from bytes) acts

  either_more : (from : Endpoint) (bytes : List ℕ) (act : Act) (acts : List Act) → IsHandled from bytes acts →
      IsHandled from bytes (act ∷ acts)
  either_more from bytes act acts h = search rules

  act_received : (from : Endpoint) (bytes : List ℕ) (act : Act) (acts : List Act) →
      IsEventOf port (Received port from bytes) act → IsHandled from bytes (act ∷ acts)
  act_received from bytes act acts is = search rules

  pub tells_received : (events : List SocketEvent) (acts : List Act) → Tells port events acts → (from : Endpoint)
      (bytes : List ℕ) → Has (Received port from bytes) events → IsHandled from bytes acts
  tells_received [] acts t from bytes h = absurd h
  tells_received (e ∷ events) acts t from bytes h = elim (newest_of port t) [
    | inl passed ↦ elim h [
      | inl here ↦ absurd (subst (IsNoActAt port) here passed.other refl)
      | inr more ↦ tells_received events acts passed.tells from bytes more
    ]
    | inr new ↦ subst (IsHandled from bytes) (sym new.is) (elim h [
      | inl here ↦
          act_received from bytes new.act new.rest (rw here at new.event)
      | inr more ↦
          either_more from bytes new.act new.rest (tells_received events new.rest new.tells from bytes more)
    ])
  ]

-- The acts of two ends, each as its trace has them, in the one order of all events. For Outlasting.

-- it is of this program, and that act, or is none of it
record IsPassedBy (port : ℕ) (b : Bool) (e : SocketEvent) (events : List SocketEvent) (acts : List Act) : Type 0 where
  pub other : b ≡ true → IsNoActAt port e
  pub tells : Tells port events acts

newest_if : (port : ℕ) (b : Bool) {e : SocketEvent} {events : List SocketEvent} {acts : List Act} →
    Tells port (if b then e ∷ events else events) acts →
    IsPassedBy port b e events acts ⊎ ((b ≡ true) × IsNewest port e events acts)
newest_if port b t = search rules

-- ---- the acts of both
module _ (k port at : ℕ) where
  abbrev InOrder : List Noted → List Act → List Act → List SocketEvent → Type 0
  InOrder order client server later = HasOrder k port at order client server (later ≡ [])

  closed : (active : Bool) {order : List Noted} {acts : List OneAct} → Shows k port at active order acts →
      Shows k port at false order acts
  closed true shown = Closes_so shown
  closed false shown = shown

  unopened : (event : SocketEvent) {order : List Noted} {acts : List OneAct} → Shows k port at false order acts →
      Shows k port at false ((0, event) ∷ order) acts
  unopened event shown = Another 0 event (λ e. absurd (cc)) (λ _ on. absurd (true≢false (sym on))) shown

  -- the same acts, with events that are no acts
  passes : {order more : List Noted} {client server : List Act} {later newer : List SocketEvent}
      (m : InOrder order client server later) (active : Bool) → Shows k port at active more m.acts →
      (newer ≡ [] → active ≡ true) → InOrder more client server newer
  passes m active shown still = search std_rules

  -- with a newest event of the server, which noted these since the transfer was over, while it was open, and before
  server_first : (event : SocketEvent) (order : List Noted) (client server : List Act)
      (later own earlier : List SocketEvent) →
      ((acts : List Act) (newer its older : List SocketEvent) → Tells at its acts →
      events_of 0 order ≡ newer ++ (its ++ older) → InOrder order client acts newer) → Tells at own server →
      event ∷ events_of 0 order ≡ later ++ (own ++ earlier) → InOrder ((0, event) ∷ order) client server later
  server_first event order client server (x ∷ later) own earlier rest u is =
      let m = rest server later own earlier u (heads event x _ _ is).1 in
      passes m false (unopened event (closed m.active m.are.shown)) (λ none. absurd (cc))
  server_first event order client server [] (x ∷ own) earlier rest u is =
      let parts = heads event x _ _ is in
      elim (newest_of at u) [
        | inl passed ↦
            let m = rest server [] own earlier passed.tells parts.1 in
            passes m true (Another 0 event (λ e. absurd (cc)) (λ _ _. rw parts.0 passed.other)
            (rw (m.still refl) at m.are.shown)) (λ _. refl)
        | inr new ↦
            let m = rest new.rest [] own earlier new.tells parts.1 in
            record {
              active = true;
              acts = (false, new.act) ∷ m.acts;
              are = record {
                shown = Of_server event new.act (rw parts.0 new.event) (rw (m.still refl) at m.are.shown);
                client_acts = m.are.client_acts;
                server_acts = ap (λ (acts : List Act). new.act ∷ acts) m.are.server_acts ∙ sym new.is;
              };
              still = λ _. refl;
            }
      ]
  server_first event order client server [] [] (x ∷ earlier) rest u is =
      let m = rest server [] [] earlier u (heads event x _ _ is).1 in
      passes m true (Opens_so (m.are.server_acts ∙ sym (none_of at u)) (unopened event (closed m.active m.are.shown)))
      (λ _. refl)
  server_first event order client server [] [] [] rest u is = absurd (cc)

  -- in the whole order
  pub in_order : (order : List Noted) (client server : List Act) (later own earlier : List SocketEvent) →
      Tells port (events_of (suc k) order) client → Tells at own server →
      events_of 0 order ≡ later ++ (own ++ earlier) → InOrder order client server later
  in_order [] client server later own earlier t u is = record {
    active = true;
    acts = [];
    are = record {
      shown = Opens_so refl Ends_so;
      client_acts = none_of port t;
      server_acts = none_of at (rw (nothing_own later own earlier is) at u);
    };
    still = λ _. refl;
  } where
    nothing_own : (later own earlier : List SocketEvent) → [] ≡ later ++ (own ++ earlier) → own ≡ []
    nothing_own [] [] earlier is = refl
    nothing_own [] (x ∷ own) earlier is = no_more x (own ++ earlier) is
    nothing_own (x ∷ later) own earlier is = no_more x (later ++ (own ++ earlier)) is
  in_order ((zero, event) ∷ order) client server later own earlier t u is = elim (newest_if port (0 == suc k) t) [
    | inl passed ↦
        server_first event order client server later own earlier (λ acts newer its older. in_order order client acts
        newer its older passed.tells) u is
    | inr n ↦ absurd (cc (eqb-true 0 (suc k) n.0))
  ]
  in_order ((suc p, event) ∷ order) client server later own earlier t u is =
      let rest : events_of 0 order ≡ later ++ (own ++ earlier) = rw (ne_eqb (suc p) 0 (λ e. absurd (cc))) at is in
      elim (newest_if port (suc p == suc k) t) [
        | inl passed ↦
            let m = in_order order client server later own earlier passed.tells u rest in
            passes m m.active (Another (suc p) event (λ e. passed.other (eq-eqb (suc p) (suc k) e)) (λ e. absurd (cc))
            m.are.shown) m.still
        | inr n ↦
            let m = in_order order n.1.rest server later own earlier n.1.tells u rest in
            record {
              active = m.active;
              acts = (true, n.1.act) ∷ m.acts;
              are = assumption (
                subst (λ (q : ℕ). Shows k port at m.active ((q, event) ∷ order) ((true, n.1.act) ∷
                    m.acts)) (sym (eqb-true (suc p) (suc k) n.0)) (Of_client event n.1.act n.1.event m.are.shown),
                ap (λ
                    (acts : List Act). n.1.act ∷ acts) m.are.client_acts ∙ sym n.1.is,
              );
              still = m.still;
            }
      ]
