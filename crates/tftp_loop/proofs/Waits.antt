-- A wait, and when it is allowed. For four functions and eight other files.
use Rattle.tftp_loop.proofs.Common.{arith, ◌≡◌, ◌<◌, ◌≤◌, ◌-◌, ◌||◌, ◌⊎◌, ◌+◌, ◌++◌, ℕ, zero, suc, Bool, List, [], ◌∷◌}
use Rattle.tftp_loop.proofs.Common.{length, map, take, drop, min, true, false, Option, Some, None, refl, sym, ap, subst}
use Rattle.tftp_loop.proofs.Common.{◌∙◌, slice_index_or, is_some, All, ◌≢◌, list_any, SourceMeaning, Endpoint}
use Rattle.tftp_loop.proofs.Common.{StoreMeaning, TransferState, at, last_moment, LONGEST_WAIT, Port, SocketEvent}
use Rattle.tftp_loop.proofs.Common.{Watched, Quiet, is_among, TransferSocket, ServerLoop, Run, Start, Then, Timer}
use Rattle.tftp_loop.proofs.Common.{LoopState, LoopStep, deadline_by, marked_by, set_by, until_look, Waited, Clock_read}
use Rattle.tftp_loop.proofs.Common.{pending_in, state_of, timer_of, AreSettled, AreKept, HasRead, IsSettled, IsTended}
use Rattle.tftp_loop.proofs.Common.{ReceivedFew, timers_of, woken_if, length-map}
use Rattle.std.proofs.Common.{get_or, set, rules, arith as std_arith}
use Rattle.tftp_sockets.specs.Watch.{wait_of}
use Rattle.tftp_sockets.specs.Trace.QuietEvent.{Slept, Woke}
use Rattle.tftp_loop.specs.Steps.{MayWait, IsServed, most_millis, read_at}
use Rattle.tftp_loop.specs.MayWait.{HasSlept, HasWoken, HasFew, millis_of, reads_of}
use Rattle.std.proofs.lemmas.List.{get_or-map}
use Rattle.std.proofs.lemmas.List.Elements.{All-map}
use Rattle.std.proofs.lemmas.Grind.{common_steps}
use Rattle.std.proofs.lemmas.List.Edits.{map_over_more}

-- ---- how long a wait is
any_mapped : (ports : List (Port TransferSocket)) →
    list_any (λ (timer : Timer). timer.marked) (map timer_of ports) ≡ list_any
    (λ (port : Port TransferSocket). port.is_ready) ports
any_mapped [] = refl
any_mapped (port ∷ ports) = ap (λ (b : Bool). port.is_ready || b) (any_mapped ports)

looks_mapped : (now : ℕ) (ports : List (Port TransferSocket)) →
    until_look now (map timer_of ports) ≡ wait_of now (map (λ (port : Port TransferSocket). port.look_at) ports)
looks_mapped now [] = refl
looks_mapped now (port ∷ ports) = ap (λ (n : ℕ). min (port.look_at - now) n) (looks_mapped now ports)

-- the deadlines that are set change no mark, and no time at which a port is read
set_any : (time : ℕ) (timers : List Timer) →
    list_any (λ (timer : Timer). timer.marked) (map (set_by time) timers)
    ≡ list_any (λ (timer : Timer). timer.marked) timers
set_any time [] = refl
set_any time (timer ∷ timers) = ap (λ (b : Bool). timer.marked || b) (set_any time timers)

set_until : (time now : ℕ) (timers : List Timer) →
    until_look now (map (set_by time) timers) ≡ until_look now timers
set_until time now [] = refl
set_until time now (timer ∷ timers) = ap (λ (n : ℕ). min (timer.look_at - now) n) (set_until time now timers)

-- whether a request is pending, in the state and in the loop
pub pending_same : (pending : Option (Endpoint × ℕ)) (buffer : List ℕ) →
    is_some (pending_in pending buffer) ≡ is_some pending
pending_same None buffer = refl
pending_same (Some p) buffer = refl

module _ {S F D : Type 0} where
  -- all is done that is to be done
  served : (buffer : List ℕ) (d : ServerLoop S F D) (events : List SocketEvent) → IsTended d events →
      All (IsServed (state_of buffer d events)) (timers_of d)
  served buffer d events tended k t h = search rules

  -- a reading of the clock changes no wait but by its time
  read_millis : (buffer : List ℕ) (d read : ServerLoop S F D) (before after : List SocketEvent) →
      HasRead d before read after →
      most_millis (read_at read.sockets.watch (state_of buffer d before)) ≡ millis_of read
  read_millis buffer d read before after r =
      grind (
        std_arith,
        common_steps,
        set_any,
        timers_of,
        set_until,
        pending_same,
        any_mapped,
        looks_mapped,
      )

  -- a loop that was tended may wait
  pub may_wait : (buffer : List ℕ) (d read : ServerLoop S F D) (before after : List SocketEvent) (millis : ℕ)
      (ports : List ℕ) → HasRead d before read after →
      IsTended d before → 1 ≤ d.left → 1 ≤ d.rounds → millis ≤ millis_of read
      → (millis ≡ 0 → (millis_of read ≡ 0) ⊎ (ports ≢ []))
      → MayWait (state_of buffer d before) read.sockets.watch millis ports
  may_wait buffer d read before after millis ports r tended left rounds longest shortest =
      let watch = read.sockets.watch in
      let same = read_millis buffer d read before after r in
      record {
        read = refl;
        left = left;
        rounds = rounds;
        requests = λ h. tended.requests (ap (λ (b : Bool). reads_of d || b) (sym (pending_same d.pending buffer)) ∙ h);
        transfers = served buffer d before tended;
        longest = omega (arith, longest, same);
        shortest = λ h. rw same (shortest h);
      }

-- ---- marks, one by one
again : {X : Type 0} (ys : List X) (i : ℕ) (d : X) → get_or ys i d ≡ get_or ys i (get_or ys i d)
again [] i d = refl
again (y ∷ ys) zero d = refl
again (y ∷ ys) (suc i) d = again ys i d

-- a loop that changes each element by f
pub changed_more : {X : Type 0} (f : X → X) (xs ys : List X) (i : ℕ) (q d : X) → i < length xs →
    ys ≡ map f (take i xs) ++ drop i xs → q ≡ f (get_or ys i d)
    → set ys i q ≡ map f (take (i + 1) xs) ++ drop (i + 1) xs
changed_more f xs ys i q d h e g = ap (set ys i) g ∙ map_over_more f xs ys i (get_or ys i d) h e (again ys i d)

-- a port is woken as its timer
pub timers_woken : (time : ℕ) (reported : List ℕ) (ports : List (Port TransferSocket)) →
    map timer_of (map (woken_if time reported) ports) ≡ map (marked_by reported) (map (set_by time) (map timer_of ports))
timers_woken time reported [] = refl
timers_woken time reported (port ∷ ports) =
    ap (λ (ts : List Timer). marked_by reported (set_by time (timer_of port)) ∷ ts) (timers_woken time reported ports)

-- ---- what a wait leaves
-- an element of a mapped list is mapped
pub mapped_at : (f : Timer → Timer) (timers : List Timer) (k : ℕ) (d : Timer) → k < length timers →
    slice_index_or (map f timers) k d ≡ f (slice_index_or timers k d)
mapped_at f timers k d h = get_or-map f timers k d d h

-- what a wait does to the timers it does to each
pub waited_at : (time : ℕ) (ports : List ℕ) (timers : List Timer) (k : ℕ) (d : Timer) → k < length timers →
    slice_index_or (map (marked_by ports) (map (set_by time) timers)) k d
    ≡ marked_by ports (set_by time (slice_index_or timers k d))
waited_at time ports timers k d h = search (rules, mapped_at, marked_by, map, set_by, length-map)

-- what holds of each timer after a wait holds of all
pub all_waited : (Q : Timer → Type 0) (time : ℕ) (ports : List ℕ) (timers : List Timer) →
    All (λ (timer : Timer). Q (marked_by ports (set_by time timer))) timers →
    All Q (map (marked_by ports) (map (set_by time) timers))
all_waited Q time ports timers each =
    All-map Q (marked_by ports) (map (set_by time) timers)
    (All-map (λ (timer : Timer). Q (marked_by ports timer)) (set_by time) timers each)

-- a timer that was changed so has its port, and is read at its deadline at the latest
record Changes (f : Timer → Timer) : Type 0 where
  pub port : (t : Timer) → (f t).port ≡ t.port
  pub look : (t : Timer) → t.look_at ≤ t.deadline → (f t).look_at ≤ (f t).deadline

marks : (ports : List ℕ) → Changes (marked_by ports)
marks ports = record { port = λ t. refl; look = λ t h. h }

-- a provisional deadline is only ever set later
pub deadline_later : (time : ℕ) (b : Bool) (timer : Timer) → timer.deadline ≤ deadline_by time b timer
deadline_later time true timer = omega arith
deadline_later time false timer = omega arith

sets : (time : ℕ) → Changes (set_by time)
sets time = search rules

module _ {F D : Type 0} (held : List (ℕ × TransferState F D)) (f : Timer → Timer) (changes : Changes f)
    (timers : List Timer) where
  short : (k : ℕ) → k < length (map f timers) → k < length timers
  short k h = let e = length-map timers f in omega (arith, e, h)

  port_of : (k : ℕ) (d : Timer) (h : k < length (map f timers)) →
      (slice_index_or (map f timers) k d).port ≡ (slice_index_or timers k d).port
  port_of k d h = ap (λ t. t.port) (mapped_at f timers k d (short k h)) ∙ changes.port (slice_index_or timers k d)

  mapped_kept : AreKept held timers → AreKept held (map f timers)
  mapped_kept kept = record {
    apart = λ j k d e hj hk h.
        kept.apart j k d e (short j hj) (short k hk) (sym (port_of j d hj) ∙ (h ∙ port_of k e hk));
    each = grind (std_arith, common_steps, short, slice_index_or, mapped_at, at);
  }

  mapped_held : AreSettled held timers → AreSettled held (map f timers)
  mapped_held settled = record {
    kept = mapped_kept settled.kept;
    none_closed = grind (std_arith, common_steps, port_of, short);
  }

module _ {F D : Type 0} (held : List (ℕ × TransferState F D)) (time : ℕ) where
  -- to set the deadlines keeps a timer for each transfer
  pub set_kept : (timers : List Timer) → AreKept held timers → AreKept held (map (set_by time) timers)
  set_kept timers = mapped_kept held (set_by time) (sets time) timers

  set_held : (timers : List Timer) → AreSettled held timers → AreSettled held (map (set_by time) timers)
  set_held timers = mapped_held held (set_by time) (sets time) timers

  -- so does the end of a wait
  pub waited_kept : (ports : List ℕ) (timers : List Timer) → AreKept held timers →
      AreKept held (map (marked_by ports) (map (set_by time) timers))
  waited_kept ports timers kept = search (rules, mapped_kept, marked_by, marks, map, set_by, set_kept)

module _ {S F D : Type 0} (meaning : StoreMeaning S D) (sources : SourceMeaning F) where
  -- the clock before a wait that was allowed, the wait, its marks, and the clock after it
  pub waits_as : (buffer : List ℕ) (old read noted new : ServerLoop S F D) (millis : ℕ) (ports : List ℕ)
      {before timed noted_events after : List SocketEvent} →
      HasRead old before read timed → MayWait (state_of buffer old before) read.sockets.watch millis ports
      → HasSlept millis ports read timed noted noted_events → HasWoken ports noted noted_events new after →
      Run (LoopStep meaning sources) (state_of buffer old before) (state_of buffer new after)
  waits_as buffer old read noted new millis ports {before} {timed} {noted_events} {after} reads may slept woken =
      let time = read.sockets.watch.now in
      let s = state_of buffer old before in
      let waited : LoopState S F D = record s {
        marked = s.marked || is_among s.requests ports;
        asked = false;
        timers = map (marked_by ports) (map (set_by time) s.timers);
        now = time;
        reading = read.sockets.watch.reading;
        limit = min (s.now + LONGEST_WAIT) last_moment;
        woken = true;
        rounds = s.rounds - 1;
        events = Quiet (Woke ports) ∷ Quiet (Slept millis) ∷ Watched read.sockets.watch ∷ s.events;
      } in
      let by : ℕ → ServerLoop S F D = λ limit. record old {
        sockets = record old.sockets { poll = noted.sockets.poll; watch = read.sockets.watch; limit = limit };
      } in
      let is : noted ≡ by waited.limit =
      slept.rest ∙ (ap (λ (d : ServerLoop S F D). record d { sockets = record d.sockets { poll = noted.sockets.poll } })
      reads.rest ∙ ap by reads.limit) in
      let woke = subst (λ (d : ServerLoop S F D). HasWoken ports d noted_events new after) is woken in
      Then (Then Start (Waited (record {
        watch = read.sockets.watch;
        by = record { time = reads.reading; forward = reads.forward; soon = reads.soon };
        millis = millis;
        ports = ports;
        may = may;
        is = refl;
      }))) (Clock_read (record {
        watch = new.sockets.watch;
        woken = refl;
        by = record { time = woke.reading; forward = woke.now; soon = woke.soon };
        is = search rules;
      }))

  -- the clock leaves what is settled
  pub read_settled : (old read : ServerLoop S F D) {before after : List SocketEvent} → HasRead old before read after →
      IsSettled old → IsSettled read
  read_settled old read reads settled =
      subst (λ (d : ServerLoop S F D). IsSettled d) (sym reads.rest) settled

  -- a wait leaves what is settled
  pub slept_settled : (old noted : ServerLoop S F D) (millis : ℕ) (ports : List ℕ) {before after : List SocketEvent} →
      HasSlept millis ports old before noted after →
      IsSettled old → IsSettled noted
  slept_settled old noted millis ports slept settled = search rules

  -- after a wait each transfer is settled as before it
  pub woken_settled : (noted new : ServerLoop S F D) (ports : List ℕ) {before after : List SocketEvent} →
      HasWoken ports noted before new after → IsSettled noted →
      IsSettled new
  woken_settled noted new ports woken settled =
      let time = noted.sockets.watch.now in
      rw (woken.timers, woken.server) (mapped_held _ _ (marks ports) _ (set_held _ time _ settled))

  -- and counts anew
  pub woken_few : (noted new : ServerLoop S F D) (ports : List ℕ) {before after : List SocketEvent} →
      HasWoken ports noted before new after → HasFew 0 new
  woken_few noted new ports woken =
      subst (λ (ts : List Timer). All (ReceivedFew 0) ts) (sym woken.timers)
      (all_waited (ReceivedFew 0) noted.sockets.watch.now ports (timers_of noted) (λ k d h. omega arith))
