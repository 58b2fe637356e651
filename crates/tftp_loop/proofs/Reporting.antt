-- A port that a wait reported is read by the next wait. For `a_server_reads_what_is_reported`.
use Rattle.std.proofs.Common.{rules}
use Rattle.tftp_loop.proofs.Common.{after_request, arith, ◌≡◌, ◌<◌, ◌⊎◌, ℕ, true, List, [], length, map, None, refl}
use Rattle.tftp_loop.proofs.Common.{sym, ap, subst, ◌∙◌, inl, inr, slice_set, slice_index_or, cases_eq, length-map}
use Rattle.tftp_loop.proofs.Common.{SourceMeaning, Endpoint, StoreMeaning, at, taken_of, with_new, Came, A_transfer}
use Rattle.tftp_loop.proofs.Common.{left_by, SocketEvent, is_among, was_tried, Run, Start, Then, Timer, PortState}
use Rattle.tftp_loop.proofs.Common.{LoopState, PortStep, LoopStep, Waits, interval_at, marked_by, port_state, started}
use Rattle.tftp_loop.proofs.Common.{set_by, Waited, At_port, Request_answered, Transfer_closed, IsNoWait}
use Rattle.tftp_loop.proofs.Common.{HavePortsApart, AreKept, KeepsTries}
use Rattle.tftp_ends.specs.declared.backoff.Backoff.TheVariants.{Constant}
use Rattle.tftp_loop.specs.Reported.{GoesOn, Goes_by, HasTimer, ReadsWhatIsReported}
use Rattle.tftp_loop.proofs.ListLemmas.{map_at, set_long}
use Rattle.tftp_loop.proofs.LoopStays.{some_none}
use Rattle.tftp_loop.proofs.PortStays.{StaysAt, keeps_noted, or_right, own_receive, stays_at}
use Rattle.tftp_loop.proofs.Sleeping.{kept_along, step_kept, step_tries}
use Rattle.tftp_loop.proofs.Tables.{any_default, appended_at, appended_long, inserted_apart, removed_apart}
use Rattle.tftp_loop.proofs.Tables.{removed_index, set_other, set_own}
use Rattle.tftp_loop.proofs.Visits.{works_unclosed}
use Rattle.tftp_loop.proofs.Waits.{waited_at}
use Rattle.tftp_loop.proofs.NewStates.{answer_is, noted_by, state_is}

-- ---- at the port
module _ {S F D : Type 0} (meaning : StoreMeaning S D) (sources : SourceMeaning F) where
  -- the port was read, or it is marked still and its transfer is open
  abbrev IsDueAt : PortState S F D → Type 0
  IsDueAt q =
      (was_tried q.timer.port q.events ≡ true)
      ⊎ ((q.timer.marked ≡ true) × (taken_of (at q.timer.port q.server.held) ≡ None))

  tried_at : (old new : PortState S F D) → StaysAt meaning sources old new → (es : List SocketEvent) →
      KeepsTries es new.events → was_tried old.timer.port es ≡ true → IsDueAt new
  tried_at old new stays es tries tried = search rules

  due_at : (now : ℕ) (old new : PortState S F D) → PortStep meaning sources now old new → old.timer.marked ≡ true →
      taken_of (at old.timer.port old.server.held) ≡ None → IsDueAt new
  due_at now old new does marked unclosed =
      search (
        rules,
        stays_at,
        tried_at,
        taken_of,
        at,
        works_unclosed,
        noted_by,
        keeps_noted,
        own_receive,
        was_tried,
      )

  -- ---- at all ports
  -- the timer of the port is marked, and its transfer is open
  record IsDue (port : ℕ) (s : LoopState S F D) : Type 0 where
    pub index : ℕ
    pub within : index < length s.timers
    pub has_port : (d : Timer) → (slice_index_or s.timers index d).port ≡ port
    pub marked : (d : Timer) → (slice_index_or s.timers index d).marked ≡ true
    pub unclosed : taken_of (at port s.server.held) ≡ None

  abbrev Reads : ℕ → LoopState S F D → Type 0
  Reads port s = (was_tried port s.events ≡ true) ⊎ IsDue port s

  same_due : (port : ℕ) (s t : LoopState S F D) → t.timers ≡ s.timers → t.server.held ≡ s.server.held → IsDue port s →
      IsDue port t
  same_due port s t timers held due = search rules

  step_at : (port : ℕ) (s : LoopState S F D) (index : ℕ) (timer : Timer) (next : PortState S F D) →
      index < length s.timers → timer ≡ slice_index_or s.timers index timer
      → PortStep meaning sources s.now (port_state s timer) next → HavePortsApart s.timers → IsDue port s →
      Reads port (record s {
        server = next.server;
        timers = slice_set s.timers index next.timer;
        events = next.events;
      })
  step_at port s index timer next within is does apart due =
      let stays = stays_at _ _ _ _ _ does in
      let long = set_long s.timers index next.timer in
      elim (cases_eq due.index index) [
        | inl same ↦
            let here = is ∙ ap (λ j. slice_index_or s.timers j timer) (sym same) in
            let port_is = ap (λ u. u.port) here ∙ due.has_port timer in
            let marked = ap (λ u. u.marked) here ∙ due.marked timer in
            let unclosed = ap (λ p. taken_of (at p s.server.held)) port_is ∙ due.unclosed in
            let next_port = stays.port ∙ port_is in
            elim (due_at _ _ _ does marked unclosed) [
              | inl tried ↦ inl (subst (λ p. was_tried p next.events ≡ true) next_port tried)
              | inr still ↦ inr (record {
                index = index;
                within = omega (arith, long, within);
                has_port = λ d. ap (λ u. u.port) (set_own s.timers index next.timer d within) ∙ next_port;
                marked = λ d. ap (λ u. u.marked) (set_own s.timers index next.timer d within) ∙ still.0;
                unclosed = ap (λ p. taken_of (at p next.server.held)) (sym next_port) ∙ still.1;
              })
            ]
        | inr other ↦
            let apart_port : port ≡ timer.port → ⊥ =
            λ e. other (apart due.index index timer timer due.within within (due.has_port timer ∙ (e ∙ ap (λ u. u.port)
            is))) in
            inr (record {
              index = due.index;
              within = (let w = due.within in omega (arith, long, w));
              has_port = λ d. ap (λ u. u.port) (set_other s.timers _ next.timer _ d other) ∙ due.has_port d;
              marked = λ d. ap (λ u. u.marked) (set_other s.timers _ next.timer _ d other) ∙ due.marked d;
              unclosed = ap (λ o. taken_of o) (stays.held.others port apart_port) ∙ due.unclosed;
            })
      ]

  opens_due : (port : ℕ) (from : Endpoint) (tid : ℕ) (s : LoopState S F D) (came : Came S F D) →
      at tid s.server.held ≡ None → AreKept s.server.held s.timers → IsDue port s
      → IsDue port (after_request s from (left_by came s.server from tid))
  opens_due port from tid s (A_transfer transfer store) free kept due =
      let held = with_new tid transfer s.server.held in
      let timer = started s.now s.longest s.backoff tid from (interval_at (at tid held)) in
      let long = appended_long s.timers timer in
      let apart : port ≡ tid → ⊥ =
      λ e. some_none (at (slice_index_or s.timers due.index timer).port s.server.held) (kept.each due.index timer
      due.within).there (ap (λ (p : ℕ). at p s.server.held) (due.has_port timer ∙ e) ∙ free) in
      search (rules, appended_at, taken_of, inserted_apart)
  opens_due port from tid s came free kept due = same_due port s _ refl refl due

  step_reads : (port : ℕ) (s t : LoopState S F D) (does : LoopStep meaning sources s t) → IsNoWait meaning sources does →
      AreKept s.server.held s.timers → Reads port s → Reads port t
  step_reads port s t does is kept (inl tried) = inl (step_tries _ _ s t _ is port tried)
  step_reads port s t (Waited d) is kept (inr due) = absurd is
  step_reads port s t (At_port d) is kept (inr due) =
      subst (Reads port) (sym d.is) (step_at _ s _ _ _ d.within d.is_timer d.does kept.apart due)
  step_reads port s t (Request_answered d) is kept (inr due) =
      subst (Reads port) (sym (answer_is d)) (inr (opens_due _ d.from _ s d.steps.came d.free kept due))
  step_reads port s t (Transfer_closed d) is kept (inr due) =
      let other : due.index ≡ d.index → ⊥ = search rules in
      let apart : port ≡ d.timer.port → ⊥ =
      λ e. other (kept.apart due.index d.index d.timer d.timer due.within d.within (due.has_port d.timer ∙ (e ∙ ap (λ (u
      : Timer). u.port) d.is_timer))) in
      let at_index = removed_index s.timers d.index d.timer due.index d.within due.within other in
      search (rules, taken_of, removed_apart)
  step_reads port s t does is kept (inr due) =
      subst (Reads port) (sym (state_is does)) (inr (same_due _ s _ refl refl due))

  record ReadsKept (port : ℕ) (s : LoopState S F D) : Type 0 where
    pub kept : AreKept s.server.held s.timers
    pub reads : Reads port s

  reads_along : (port : ℕ) (s t : LoopState S F D) → Run (GoesOn meaning sources) s t → ReadsKept port s →
      ReadsKept port t
  reads_along port s t Start was = was
  reads_along port s t (Then {middle} run (Goes_by does is)) was =
      let now = reads_along port s middle run was in
      search (step_kept meaning sources middle t does now.kept, step_reads port middle t does is now.kept now.reads)

  -- the timer of a port that was reported is marked
  reported_due : (port : ℕ) (old woken : LoopState S F D) (waits : Waits meaning sources old woken) →
      is_among port waits.ports ≡ true → HasTimer port old.timers → IsDue port woken
  reported_due port old woken waits among has =
      let long = length-map old.timers (λ (timer : Timer). timer.port) in
      let set = map (set_by waits.watch.now) old.timers in
      let more = length-map set (marked_by waits.ports) in
      let as_many = length-map old.timers (set_by waits.watch.now) in
      let within : has.0 < length old.timers = (let w = has.1 in omega (arith, long, w)) in
      let port_of : (d : Timer) → (slice_index_or old.timers has.0 d).port ≡ port =
      λ d. sym (map_at (λ (timer : Timer). timer.port) old.timers has.0 d) ∙ (any_default (map (λ (timer : Timer).
      timer.port) old.timers) has.0 d.port port has.1 ∙ has.2) in
      subst (IsDue port) (sym waits.is) (record {
        index = has.0;
        within = omega (arith, more, as_many, within);
        has_port =
            λ d. ap (λ (u : Timer). u.port) (waited_at waits.watch.now waits.ports old.timers has.0 d within) ∙ port_of
            d;
        marked = search (rules, waited_at, or_right, slice_index_or, is_among);
        unclosed =
            (let d = started 0 None Constant 0 (record { ip = []; port = 0 }) 0 in ap (λ (p : ℕ). taken_of (at p
            old.server.held))
            (sym (port_of d)) ∙ (waits.may.transfers has.0 d within).not_closed);
      })

  -- a port that a wait reports is read before the next wait
  pub reads_what_is_reported : ReadsWhatIsReported meaning sources
  reads_what_is_reported config requests reading server before old woken last new run waits goes next port among has =
      let kept = step_kept _ _ _ _ (Waited waits) (kept_along _ _ _ _ refl run) in
      let end =
      reads_along _ _ _ goes (record { kept = kept; reads = inr (reported_due port old woken waits among has) }) in
      elim end.reads [
        | inl tried ↦ tried
        | inr due ↦
            let d = started 0 None Constant 0 (record { ip = []; port = 0 }) 0 in
            rw (← due.has_port d) ((next.may.transfers due.index d due.within).read (due.marked d))
      ]
