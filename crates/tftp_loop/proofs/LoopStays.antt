-- What work keeps: each transfer has its own timer, and what was read stays so. For `ServerLoop::take_round` and ten
-- other files.
use Rattle.std.proofs.Common.{rules}
use Rattle.tftp_loop.proofs.Common.{arith, ◌≡◌, ◌<◌, ◌≤◌, ◌==◌, ◌||◌, ◌⊎◌, ℕ, Bool, true, false, List, [], ◌∷◌, ◌++◌}
use Rattle.tftp_loop.proofs.Common.{length, Option, None, Some, IsSome, refl, sym, ap, subst, ◌∙◌, slice_set}
use Rattle.tftp_loop.proofs.Common.{slice_index_or, is_some, All, swap_remove, cases_eq, SourceMeaning, wait_of}
use Rattle.tftp_loop.proofs.Common.{Endpoint, StoreMeaning, TransferState, at, with_new, without, Came, A_transfer}
use Rattle.tftp_loop.proofs.Common.{left_by, SocketEvent, replied, Received, Quiet, Empty, Failed, was_tried, Run}
use Rattle.tftp_loop.proofs.Common.{Start, Then, Timer, PortState, LoopState, LoopStep, answering_port, interval_at}
use Rattle.tftp_loop.proofs.Common.{port_state, started, note_event, with_timer, Waited, At_port, Request_received}
use Rattle.tftp_loop.proofs.Common.{No_request_found, Request_not_received, Request_noted, Request_answered}
use Rattle.tftp_loop.proofs.Common.{Request_lost, Clock_read, Store_set, Transfer_closed, Drain_begun, reads_requests}
use Rattle.tftp_loop.proofs.Common.{Work_by, HavePortsApart, AreKept, IsHeld, IsRead, KeepsTries, IfSome, after_request}
use Rattle.tftp_loop.proofs.Common.{All-push}
use Rattle.tftp_loop.specs.LoopStates.{IsWork, Works}
use Rattle.tftp_loop.specs.MayWait.{AreTried}
use Rattle.tftp_loop.proofs.NoteLemmas.{note_tried}
use Rattle.tftp_loop.proofs.PortStays.{StaysAt, or_right, looks_first, replied_tries, stays_at}
use Rattle.tftp_loop.proofs.Tables.{appended_at, appended_last, appended_long, removed_long, was_at, inserted_apart}
use Rattle.tftp_loop.proofs.Tables.{inserted_own, removed_apart}
use Rattle.tftp_loop.proofs.NewStates.{answer_is}

-- ---- the timers of a list that changed

-- the port at each index
abbrev port_at : List Timer → ℕ → Timer → ℕ
port_at timers k d = (slice_index_or timers k d).port

-- two timers at two indices have two ports
pub other_port : (timers : List Timer) (i : ℕ) (timer : Timer) (k : ℕ) (d : Timer) → HavePortsApart timers →
    i < length timers → timer ≡ slice_index_or timers i timer → k < length timers
    → (k ≡ i → ⊥) → port_at timers k d ≡ timer.port → ⊥
other_port timers i timer k d apart within is h other same = search rules

-- and if one is removed
pub removed_apart_timers : (timers : List Timer) (i : ℕ) (timer : Timer) → i < length timers → HavePortsApart timers →
    HavePortsApart (swap_remove timers i timer)
removed_apart_timers timers i timer within apart j k d e hj hk h =
    let a = was_at timers i timer j d within hj in
    let b = was_at timers i timer k e within hk in
    let same : a.index ≡ b.index =
    apart a.index b.index d e a.within b.within (ap (λ t. t.port) (sym (a.is d)) ∙ (h ∙ ap (λ t. t.port) (b.is e))) in
    omega (arith, removed_long timers i timer, hj, hk, a.which, b.which, same)

appended_port : (timers : List Timer) (timer : Timer) (k : ℕ) (d : Timer) → k < length (timers ++ timer ∷ [])
    → ((k < length timers) × (port_at (timers ++ timer ∷ []) k d ≡ port_at timers k d))
    ⊎ ((k ≡ length timers) × (port_at (timers ++ timer ∷ []) k d ≡ timer.port))
appended_port timers timer k d h =
    search (rules, cases_eq, length, appended_last, appended_long, appended_at)

-- and if one of a new port is added
pub appended_apart : (timers : List Timer) (timer : Timer) →
    ((k : ℕ) (d : Timer) → k < length timers → port_at timers k d ≡ timer.port → ⊥) → HavePortsApart timers →
    HavePortsApart (timers ++ timer ∷ [])
appended_apart timers timer fresh apart j k d e hj hk h = search (rules, appended_port)

-- ---- what holds of each timer, after one was replaced, removed or added
-- an option that has a value is not empty
pub some_none : {T : Type 0} (o : Option T) → IsSome o → o ≡ None → ⊥
some_none o h e = let f : is_some o ≡ false = ap is_some e in (let g : true ≡ false = sym h ∙ f in cc)

module _ (Q : Timer → Type 0) (timers : List Timer) where
  -- what holds of all timers from an index on, but one, holds of all once that one is replaced
  pub all_set : (low i : ℕ) (next : Timer) → i < length timers →
      ((k : ℕ) (d : Timer) → low ≤ k → k < length timers → (k ≡ i → ⊥) → Q (slice_index_or timers k d)) → Q next
      → (k : ℕ) (d : Timer) → low ≤ k → k < length (slice_set timers i next) →
      Q (slice_index_or (slice_set timers i next) k d)
  all_set low i next within rest own k d hl h = search rules

  -- and of all once that one is removed
  pub all_removed : (low i : ℕ) (timer : Timer) → low ≤ i → i < length timers →
      ((k : ℕ) (d : Timer) → low ≤ k → k < length timers → (k ≡ i → ⊥) → Q (slice_index_or timers k d))
      → (k : ℕ) (d : Timer) → low ≤ k → k < length (swap_remove timers i timer) →
      Q (slice_index_or (swap_remove timers i timer) k d)
  all_removed low i timer first within rest k d hl h =
      let w = was_at timers i timer k d within h in
      subst Q (sym (w.is d)) (rest w.index d (omega (arith, within, first, hl, w.which)) w.within w.other)

  -- the same of all timers
  pub replaced_all : (i : ℕ) (next : Timer) → i < length timers →
      ((k : ℕ) (d : Timer) → k < length timers → (k ≡ i → ⊥) → Q (slice_index_or timers k d)) → Q next →
      All Q (slice_set timers i next)
  replaced_all i next within rest own k d h = search rules

  pub removed_all : (i : ℕ) (timer : Timer) → i < length timers →
      ((k : ℕ) (d : Timer) → k < length timers → (k ≡ i → ⊥) → Q (slice_index_or timers k d)) →
      All Q (swap_remove timers i timer)
  removed_all i timer within rest k d h =
      all_removed 0 i timer (omega arith) within (λ k d l h apart. rest k d h apart) k d (omega arith) h

-- what holds of each value holds of what an option has
pub if_any : {A : Type 0} {P : A → Type 0} (o : Option A) → ((x : A) → P x) → IfSome o P
if_any None holds = tt
if_any (Some x) holds = holds x

module _ {S F D : Type 0} where
  -- what holds of all timers, and of the one that starts if a transfer opens, holds of all after a request
  pub all_opened : (Q : Timer → Type 0) (s : LoopState S F D) (from : Endpoint) (opened : Option ℕ)
      (held : List (ℕ × TransferState F D)) → All Q s.timers
      → IfSome opened (λ port. Q (started s.now s.longest s.backoff port from (interval_at (at port held))))
      → All Q (with_timer s.now s.longest s.backoff from opened held s.timers)
  all_opened Q s from None held all own = all
  all_opened Q s from (Some port) held all own = All-push Q s.timers _ all own

module _ {S F D : Type 0} (meaning : StoreMeaning S D) (sources : SourceMeaning F) where
  -- what work keeps
  pub record Keeps (s t : LoopState S F D) : Type 0 where
    pub tries : KeepsTries s.events t.events
    pub kept : AreKept s.server.held s.timers → AreKept t.server.held t.timers
    pub read : All (IsRead s.events) s.timers → All (IsRead t.events) t.timers
    pub tried : AreTried s → AreTried t

  -- another transfer is held still
  pub other_held : (old new : List (ℕ × TransferState F D)) (timer : Timer) →
      (IsSome (at timer.port old) → IsSome (at timer.port new)) → IsHeld old timer → IsHeld new timer
  other_held old new timer there h = record { there = there h.there; look = h.look }

  -- a port that was read stays so while tries are kept
  pub other_read : (es fs : List SocketEvent) (timer : Timer) → KeepsTries es fs → IsRead es timer → IsRead fs timer
  other_read es fs timer tries h marked = tries timer.port (h marked)

  -- a step at a port
  module _ (s : LoopState S F D) (index : ℕ) (timer : Timer) (next : PortState S F D) (within : index < length s.timers)
      (is : timer ≡ slice_index_or s.timers index timer)
      (stays : StaysAt meaning sources (port_state s timer) next) where
    pub set_kept : AreKept s.server.held s.timers → AreKept next.server.held (slice_set s.timers index next.timer)
    set_kept kept = search rules

    pub set_read : All (IsRead s.events) s.timers → All (IsRead next.events) (slice_set s.timers index next.timer)
    set_read read = search rules

  -- a transfer that closed is removed
  pub removed_held : (held : List (ℕ × TransferState F D)) (timers : List Timer) (index : ℕ) (timer : Timer) →
      index < length timers → timer ≡ slice_index_or timers index timer
      → AreKept held timers → AreKept (without timer.port held) (swap_remove timers index timer)
  removed_held held timers index timer within is kept = assumption (
    removed_apart_timers timers index timer within
        kept.apart,
    removed_all (IsHeld (without timer.port held)) timers index timer within (λ k d h apart. let t =
        slice_index_or timers k d in other_held held (without timer.port held) t (λ some. ap is_some (removed_apart
        timer.port t.port (other_port timers index timer k d kept.apart within is h apart) held) ∙ some)
        (kept.each k d h)),
  )

  -- a transfer opens
  opened_kept : (held : List (ℕ × TransferState F D)) (timers : List Timer) (timer : Timer)
      (transfer : TransferState F D) → at timer.port held ≡ None → timer.look_at ≤ timer.deadline
      → AreKept held timers → AreKept (with_new timer.port transfer held) (timers ++ timer ∷ [])
  opened_kept held timers timer transfer free look kept =
      let fresh : (k : ℕ) (d : Timer) → k < length timers → port_at timers k d ≡ timer.port → ⊥ = search rules steps
      300000 in
      search (
        appended_apart timers timer fresh kept.apart,
        All-push (IsHeld (with_new timer.port transfer held))
            timers timer (λ k d h. let t = slice_index_or timers k d in other_held held (with_new timer.port transfer
            held) t (λ some. ap is_some (inserted_apart timer.port t.port (fresh k d h) transfer held) ∙ some)
            (kept.each k d h)) (record {
              there = ap is_some (inserted_own timer.port transfer held);
              look = look;
            }),
      )

  abbrev AreKeptIn : LoopState S F D → Type 0
  AreKeptIn s = AreKept s.server.held s.timers

  answered_kept : (s : LoopState S F D) (from : Endpoint) (tid : ℕ) (came : Came S F D) → at tid s.server.held ≡ None
      → AreKeptIn s → AreKeptIn (after_request s from (left_by came s.server from tid))
  answered_kept s from tid (A_transfer transfer store) free kept =
      let interval = interval_at (at tid (with_new tid transfer s.server.held)) in
      opened_kept s.server.held s.timers (started s.now s.longest s.backoff tid from interval) transfer free
      (looks_first s.now (wait_of s.backoff interval 0)) kept
  answered_kept s from tid came free kept = kept

  -- a request port whose datagram is handled
  still_tried : (marked pending : Bool) (P : Type 0) → ((marked || pending) ≡ true → P) → (marked || false) ≡ true → P
  still_tried true pending P f h = f refl
  still_tried false pending P f h = absurd (let g : false ≡ true = h in cc)

  -- the request port was read
  asks_keep : (s : LoopState S F D) (pending : Option (Endpoint × List ℕ)) (marked asked : Bool) (event : SocketEvent)
      → ((q : ℕ) → was_tried q (event ∷ s.events) ≡ ((s.requests == q) || was_tried q s.events))
      → Keeps s (record s { pending = pending; marked = marked; asked = asked; events = event ∷ s.events })
  asks_keep s pending marked asked event reads = search rules

  step_keeps : (s t : LoopState S F D) (does : LoopStep meaning sources s t) → IsWork meaning sources does → Keeps s t
  step_keeps s t (Waited d) work = absurd work
  step_keeps s t (Clock_read d) work = absurd work
  step_keeps s t (At_port d) work =
      let stays = stays_at meaning sources s.now (port_state s d.timer) d.next d.does in
      subst (Keeps s) (sym d.is) (record {
        tries = stays.tries;
        kept = set_kept s d.index d.timer d.next d.within d.is_timer stays;
        read = set_read s d.index d.timer d.next d.within d.is_timer stays;
        tried = λ h m. stays.tries s.requests (h m);
      })
  step_keeps s t (Request_received d) work =
      subst (Keeps s) (sym d.is)
      (asks_keep s (Some (d.from, d.bytes)) true true (Received s.requests d.from d.bytes) (λ q. refl))
  step_keeps s t (No_request_found d) work =
      subst (Keeps s) (sym d.is) (asks_keep s s.pending false s.asked (Quiet (Empty s.requests)) (λ q. refl))
  step_keeps s t (Request_not_received d) work =
      subst (Keeps s) (sym d.is) (asks_keep s s.pending true s.asked (Quiet (Failed s.requests)) (λ q. refl))
  step_keeps s t (Request_noted d) work =
      let tries : KeepsTries s.events (Quiet (note_event d.note) ∷ s.events) =
      λ q h. note_tried q (was_tried q s.events) d.note ∙ h in
      subst (Keeps s) (sym d.is) (record {
        tries = tries;
        kept = λ h. h;
        read = λ h k e l m. tries (slice_index_or s.timers k e).port (h k e l m);
        tried = λ h m. tries s.requests (h m);
      })
  step_keeps s t (Request_answered d) work =
      let fs = replied (answering_port s.requests d.left.opened.tid) d.left.opened.to d.left.sent s.events in
      let tries : KeepsTries s.events fs =
      replied_tries (answering_port s.requests d.left.opened.tid) d.left.opened.to d.left.sent s.events in
      record {
        tries = rw (d.is) tries;
        kept = λ h. subst AreKeptIn (sym (answer_is d)) (answered_kept s d.from d.tid d.steps.came d.free h);
        read = λ h. subst (λ (u : LoopState S F D). All (IsRead u.events) u.timers) (sym d.is)
            (all_opened (IsRead fs) s d.from d.left.opened.tid d.left.new.held
            (λ k e l. other_read s.events fs (slice_index_or s.timers k e) tries (h k e l))
            (if_any d.left.opened.tid (λ port marked. absurd (let f : false ≡ true = marked in cc))));
        tried = λ h. subst AreTried (sym d.is) (λ m. tries s.requests
            (still_tried (reads_requests s) (is_some s.pending) (was_tried s.requests s.events ≡ true) h m));
      }
  step_keeps s t (Request_lost d) work =
      subst (Keeps s) (sym d.is) (record {
        tries = λ q h. h;
        kept = λ h. h;
        read = λ h. h;
        tried = λ h m. still_tried (reads_requests s) (is_some s.pending) (was_tried s.requests s.events ≡ true) h m;
      })
  step_keeps s t (Store_set d) work =
      subst (Keeps s) (sym d.is) (record { tries = λ q h. h; kept = λ h. h; read = λ h. h; tried = λ h. h })
  step_keeps s t (Transfer_closed d) work =
      subst (Keeps s) (sym d.is) (record {
        tries = λ q h. h;
        kept = removed_held s.server.held s.timers d.index d.timer d.within d.is_timer;
        read = λ read. removed_all (IsRead s.events) s.timers d.index d.timer d.within (λ k e h apart. read k e h);
        tried = λ h. h;
      })
  step_keeps s t (Drain_begun d) work =
      subst (Keeps s) (sym d.is) (record {
        tries = λ q h. h;
        kept = λ h. h;
        read = λ h. h;
        tried = λ h m. h (or_right (reads_requests s) (is_some s.pending) m);
      })

  -- steps between two waits keep what was read and the timers of the others
  pub work_keeps : (s t : LoopState S F D) → Run (Works meaning sources) s t → Keeps s t
  work_keeps s t Start = record { tries = λ q h. h; kept = λ h. h; read = λ h. h; tried = λ h. h }
  work_keeps s t (Then {middle} run (Work_by does is)) =
      let a = work_keeps s middle run in
      let b = step_keeps middle t does is in
      record {
        tries = λ q h. b.tries q (a.tries q h);
        kept = λ h. b.kept (a.kept h);
        read = λ h. b.read (a.read h);
        tried = λ h. b.tried (a.tried h);
      }
