-- A visit of a port, and what it leaves if its transfer closed and if not. For `ServerLoop::finish`,
-- `ServerLoop::sync`, `ServerLoop::visit`, Reporting and Unclosed.
use Rattle.std.proofs.Common.{rules, arith as std_arith}
use Rattle.std.proofs.lemmas.Grind.{common_steps}
use Rattle.tftp_loop.proofs.Common.{arith, ◌≡◌, ◌<◌, ◌≤◌, ◌+◌, ◌-◌, ℕ, false, List, [], length, map, Option, None}
use Rattle.tftp_loop.proofs.Common.{IsSome, refl, sym, ap, subst, ◌∙◌, inl, inr, slice_set, slice_index_or, is_some}
use Rattle.tftp_loop.proofs.Common.{option_map, if◌then◌else◌, cases_eq, swap_remove, SourceMeaning, StoreMeaning}
use Rattle.tftp_loop.proofs.Common.{Record, record_of, TransferState, ServerState, at, draft_of, is_closed, taken_of}
use Rattle.tftp_loop.proofs.Common.{without, WorksAt, SocketEvent, Port, TransferSocket, Timer, PortState, LoopState}
use Rattle.tftp_loop.proofs.Common.{WorksAtPort, Transfer_closed, ServerLoop, Work_by, state_of, timer_of, MOST_AT_ONCE}
use Rattle.tftp_loop.proofs.Common.{AwaitVisit, ReceivedFew, before_visit, AreKept, AreSettled, WereVisited, IsOpen}
use Rattle.tftp_loop.proofs.Common.{IsRead, IsSettled, IsTimed, KeepsTries, timers_of}
use Rattle.tftp_loop.specs.Steps.{Closes}
use Rattle.tftp_loop.specs.declared.port_visit.Pass.{Pass}
use Rattle.tftp_loop.specs.declared.port_visit.Pass.TheVariants as passes
use Rattle.tftp_loop.specs.LoopStates.{OnlyWorks, close_reported}
use Rattle.tftp_loop.specs.MayWait.{AllBelow}
use Rattle.tftp_loop.specs.MayWait.{AllFrom, AreRead, AreTimed, Finishes, Goes, Stays}
use Rattle.tftp_loop.specs.MayWait.{VisitsPort, leaves_by, leaves_read}
use Rattle.tftp_loop.specs.MayWait.{leaves_timed}
use Rattle.tftp_loop.proofs.ListLemmas.{map_is, map_removed, map_set, map_within, set_long}
use Rattle.tftp_loop.proofs.LoopRuns.{Runs, at_index, closes, none_taken}
use Rattle.tftp_loop.proofs.LoopStays.{all_removed, all_set, other_held, other_port, removed_held, set_kept}
use Rattle.tftp_loop.proofs.PortStays.{StaysAt, stays_along, works_held}
use Rattle.tftp_loop.proofs.RunLemmas.{idle, once, onward}
use Rattle.tftp_loop.proofs.Tables.{next_found, not_taken, removed_apart, set_other, set_own, was_at}
use Rattle.tftp_loop.proofs.Counting.{counted_along}

-- a visit begins with few datagrams received
pub few_before : (pass : Pass) (timer : Timer) → ReceivedFew (before_visit pass) timer → timer.received ≤ MOST_AT_ONCE
few_before passes.Ready timer few = omega (arith, few)
few_before passes.Due timer few = few

module _ {S F D : Type 0} (meaning : StoreMeaning S D) (sources : SourceMeaning F)
    {leaves : PortState S F D → ℕ → Type 0} {index : ℕ} {old middle new : ServerLoop S F D}
    {es ms ns : List SocketEvent}
    (visits : VisitsPort meaning sources leaves index old es middle ms)
    (finishes : Finishes meaning sources index middle ms new ns) where
  abbrev next : Timer
  next = timer_of visits.next

  abbrev was : Timer
  was = timer_of visits.port

  abbrev start : PortState S F D
  start = record { server = old.server; timer = was; events = es }

  abbrev end : PortState S F D
  end = record { server = middle.server; timer = next; events = ms }

  abbrev put : List Timer
  put = slice_set (timers_of old) index next

  within : index < length (timers_of old)
  within = map_within timer_of old.ports.items index visits.within

  is_timer : was ≡ slice_index_or (timers_of old) index was
  is_timer = map_is timer_of old.ports.items index visits.port visits.is_port

  timers : timers_of middle ≡ put
  timers = ap (map timer_of) visits.items ∙ map_set timer_of old.ports.items index visits.next

  stays : StaysAt meaning sources start end
  stays = stays_along meaning sources old.sockets.watch.now start end visits.serves

  now_same : middle.sockets.watch.now ≡ old.sockets.watch.now
  now_same = ap (λ (d : ServerLoop S F D). d.sockets.watch.now) visits.rest

  kept_middle : AreKept old.server.held (timers_of old) → AreKept middle.server.held put
  kept_middle = set_kept meaning sources (state_of [] old es) index was end within is_timer stays

  -- the transfers of other ports stay
  others_open : AreSettled old.server.held (timers_of old) → (k : ℕ) (d : Timer) → k < length (timers_of old) →
      (k ≡ index → ⊥) → IsOpen middle.server.held (slice_index_or (timers_of old) k d)
  others_open settled k d h apart =
      ap (λ (o : Option (TransferState F D)). taken_of o)
      (stays.held.others (slice_index_or (timers_of old) k d).port
      (other_port (timers_of old) index was k d settled.kept.apart within is_timer h apart))
      ∙ settled.none_closed k d h

  -- what holds of all other timers, and of the next one if it stays
  after_stay : (P : Timer → Type 0) (low : ℕ) →
      ((k : ℕ) (d : Timer) → low ≤ k → k < length (timers_of old) → (k ≡ index → ⊥) →
      P (slice_index_or (timers_of old) k d))
      → P next → AllFrom P low (timers_of middle)
  after_stay P low rest own = search (rules, timers, all_set, timers_of, within)

  closed_timers : (closes : Closes meaning sources (state_of [] middle ms) (state_of [] new ns)) →
      timers_of new ≡ swap_remove (timers_of middle) closes.index closes.timer
  closed_timers closes = ap (λ (s : LoopState S F D). s.timers) closes.is

  after_close : (P : Timer → Type 0) (low : ℕ) → low ≤ index →
      ((k : ℕ) (d : Timer) → low ≤ k → k < length (timers_of old) → (k ≡ index → ⊥) →
      P (slice_index_or (timers_of old) k d))
      → (closes : Closes meaning sources (state_of [] middle ms) (state_of [] new ns)) → closes.index ≡ index →
      AllFrom P low (timers_of new)
  after_close P low first rest closes same =
      let long = ap (λ (ts : List Timer). length ts) timers ∙ set_long (timers_of old) index next in
      subst (AllFrom P low) (sym (closed_timers closes)) (all_removed P (timers_of middle) low closes.index closes.timer
      (omega (arith, same, first)) closes.within (λ k d l h apart.
      let other : k ≡ index → ⊥ = λ e. apart (e ∙ sym same) in
      subst P (sym (ap (λ (ts : List Timer). slice_index_or ts k d) timers ∙ set_other (timers_of old) index next k d
      other)) (rest k d l (omega (arith, long, h)) other)))

  -- a transfer that was removed had closed
  own_open : ((d : Timer) → IsOpen middle.server.held (slice_index_or (timers_of middle) index d)) →
      IsOpen middle.server.held next
  own_open unclosed =
      subst (IsOpen middle.server.held) (ap (λ (ts : List Timer). slice_index_or ts index next) timers
      ∙ set_own (timers_of old) index next next within) (unclosed next)

  -- the others stay unclosed when it is removed
  removed_open : (closes : Closes meaning sources (state_of [] middle ms) (state_of [] new ns)) → closes.index ≡ index →
      IsSettled old → (k : ℕ) (d : Timer) → k < length (timers_of new)
      → IsOpen (without closes.timer.port middle.server.held) (slice_index_or (timers_of new) k d)
  removed_open closes same settled k d h =
      let kept : AreKept middle.server.held put = kept_middle settled.kept in
      let own : closes.timer ≡ next = search (rules, slice_index_or, timers_of, timers, set_own, within) in
      after_close (IsOpen (without closes.timer.port middle.server.held)) 0 (omega arith) (λ k d l h apart.
      let t = slice_index_or (timers_of old) k d in
      let other : t.port ≡ closes.timer.port → ⊥ =
      λ e. other_port (timers_of old) index was k d settled.kept.apart within is_timer h apart (e ∙ (ap (λ (u : Timer).
      u.port) own ∙ stays.port)) in
      ap (λ (o : Option (TransferState F D)). taken_of o) (removed_apart closes.timer.port t.port other
      middle.server.held) ∙ others_open settled k d h apart) closes same k d (omega arith) h

  -- a visit leaves every transfer settled
  pub visit_settled : IsSettled old → IsSettled new
  visit_settled settled = elim finishes [
    | Stays e noted unclosed ↦
        subst (λ n. IsSettled n) (sym e) (record {
          kept = subst (AreKept middle.server.held) (sym timers) (kept_middle settled.kept);
          none_closed = λ k d h.
              after_stay (IsOpen middle.server.held) 0 (λ k d l h apart. others_open settled k d h apart) (own_open
              unclosed) k d (omega arith) h;
        })
    | Goes each ↦
        let closes = (each []).0 in
        let same = (each []).1 in
        let held = ap (λ s. s.server.held) closes.is in
        record {
          kept = rw (held, closed_timers closes) (removed_held meaning sources _ _ _ _ closes.within closes.is_timer
              (subst (AreKept middle.server.held) (sym timers) (kept_middle settled.kept)));
          none_closed = λ k d h. rw held (removed_open closes same settled k d h);
        }
  ]

  -- it keeps the tries of the ports
  pub tries_after : KeepsTries ms ns
  tries_after = elim finishes [
    | Stays e noted unclosed ↦ subst (KeepsTries ms) (sym noted) (λ q h. h)
    | Goes each ↦ subst (λ (s : LoopState S F D). KeepsTries ms s.events) (sym (each []).0.is) (λ q h. h)
  ]

  now_after : new.sockets.watch.now ≡ old.sockets.watch.now
  now_after = elim finishes [
    | Stays e noted unclosed ↦ ap (λ (n : ServerLoop S F D). n.sockets.watch.now) e ∙ now_same
    | Goes each ↦ ap (λ (s : LoopState S F D). s.now) (each []).0.is ∙ now_same
  ]

  -- it holds of all timers from this one on
  after : (P : Timer → Type 0) →
      ((k : ℕ) (d : Timer) → index + 1 ≤ k → k < length (timers_of old) → P (slice_index_or (timers_of old) k d)) →
      (IsOpen middle.server.held next → P next)
      → AllFrom P index (timers_of new)
  after P later own =
      let rest : (k : ℕ) (d : Timer) → index ≤ k → k < length (timers_of old) → (k ≡ index → ⊥) →
      P (slice_index_or (timers_of old) k d) = λ k d l h apart. later k d (omega (arith, l, apart)) h in
      elim finishes [
        | Stays e noted unclosed ↦
            rw (e) (after_stay P index rest (own (own_open unclosed)))
        | Goes each ↦ after_close P index (omega arith) rest (each []).0 (each []).1
      ]

  -- and of all before it, which stay
  pub before : (P : Timer → Type 0) → AllBelow P (index + 1) (timers_of old) → AllBelow P index (timers_of new)
  before P below k d l h =
      let rest : (k < length (timers_of old)) → P (slice_index_or put k d) = search rules in
      let long = ap (λ (ts : List Timer). length ts) timers ∙ set_long (timers_of old) index next in
      let in_middle : (k < length (timers_of middle)) → P (slice_index_or (timers_of middle) k d) =
      λ h'. (rw (timers) (rest (omega (arith, long, h')))) in
      elim finishes [
        | Stays e noted unclosed ↦
            let same = ap (λ (n : ServerLoop S F D). timers_of n) e in
            let longer = ap (λ (ts : List Timer). length ts) same in
            rw (same) (in_middle (omega (arith, h, longer)))
        | Goes each ↦
            let closes = (each []).0 in
            let same = (each []).1 in
            let removed = closed_timers closes in
            let longer = ap (λ (ts : List Timer). length ts) removed in
            let was_here = was_at (timers_of middle) closes.index closes.timer k d closes.within (omega (
              arith,
              h,
              longer,
            )) in
            rw (removed) (elim was_here.which [
              | inl at_end ↦ let e = at_end.0 in absurd (omega (arith, e, same, l))
              | inr apart ↦
                  subst P (sym (was_here.is d ∙ ap (λ (j : ℕ). slice_index_or (timers_of middle) j d) apart.1))
                  (in_middle (let inside = was_here.within in let e = apart.1 in omega (arith, inside, e)))
            ])
      ]

  visit_runs : (buffer : List ℕ) → Runs meaning sources (state_of buffer old es) (state_of buffer middle ms)
  visit_runs buffer =
      rw (visits.rest, visits.items) (at_index _ _ _ _ _ _ _ _ _ refl visits.within visits.is_port visits.serves)

  finish_runs : (buffer : List ℕ) → Runs meaning sources (state_of buffer middle ms) (state_of buffer new ns)
  finish_runs buffer = elim finishes [
    | Stays e noted unclosed ↦
        idle (ap (λ (d : ServerLoop S F D). state_of buffer d ns) e ∙ ap (state_of buffer middle) noted)
    | Goes each ↦ once (Work_by (Transfer_closed (each buffer).0) tt)
  ]

  -- it is work without a wait
  pub works_after : OnlyWorks meaning sources old es new ns
  works_after buffer = onward (visit_runs buffer) (finish_runs buffer)

module _ {S F D : Type 0} (meaning : StoreMeaning S D) (sources : SourceMeaning F) where
  -- how many were received in a visit
  few_next : (most index : ℕ) (old middle : ServerLoop S F D) {es ms : List SocketEvent}
      (leaves : PortState S F D → ℕ → Type 0) (takes : VisitsPort meaning sources leaves index old es middle ms)
      → (timer_of takes.port).received ≤ most → (timer_of takes.next).received ≤ most + MOST_AT_ONCE
  few_next most index old middle leaves takes began = search (rules, counted_along)

module _ {S F D : Type 0} (meaning : StoreMeaning S D) (sources : SourceMeaning F) {index : ℕ}
    {old middle new : ServerLoop S F D} {es ms ns : List SocketEvent} where
  -- the ports from this one on were read
  pub read_after : VisitsPort meaning sources leaves_read index old es middle ms →
      Finishes meaning sources index middle ms new ns → AreRead (index + 1) old es → AreRead index new ns
  read_after visits finishes read =
      let tries : KeepsTries ms ns = tries_after meaning sources visits finishes in
      let held = stays meaning sources visits finishes in
      after meaning sources visits finishes (IsRead ns)
      (λ k d l h marked. tries (slice_index_or (timers_of old) k d).port
      (held.tries (slice_index_or (timers_of old) k d).port (read k d l h marked)))
      (λ unclosed marked. tries (timer_of visits.next).port (visits.leaves_it marked))

  -- the ports from this one on are not due
  pub timed_after : VisitsPort meaning sources leaves_timed index old es middle ms →
      Finishes meaning sources index middle ms new ns → AreTimed (index + 1) old → AreTimed index new
  timed_after visits finishes timed =
      let now = now_after meaning sources visits finishes in
      subst (λ (n : ℕ). AllFrom (IsTimed n) index (timers_of new)) (sym now)
      (after meaning sources visits finishes (IsTimed old.sockets.watch.now) (λ k d l h. timed k d l h)
      (λ unclosed. visits.leaves_it unclosed))

  -- the ports from this one on were visited
  pub visited_after : (pass : Pass) → VisitsPort meaning sources (leaves_by pass) index old es middle ms →
      Finishes meaning sources index middle ms new ns → AwaitVisit pass (index + 1) old
      → WereVisited pass (index + 1) old es → WereVisited pass index new ns
  visited_after passes.Ready takes finishes waiting visited =
      let read = read_after takes finishes (λ k d l h. (visited k d l h).0) in
      let own : (timer_of takes.port).received ≤ 0 =
      subst (ReceivedFew 0)
      (sym (map_is timer_of old.ports.items index takes.port takes.is_port))
      (waiting index (timer_of takes.port) (omega arith) (map_within timer_of old.ports.items index takes.within)) in
      let few =
      after meaning sources takes finishes (ReceivedFew MOST_AT_ONCE) (λ k d l h. (visited k d l h).1)
      (λ unclosed. let some = few_next meaning sources 0 index old middle leaves_read takes own in omega (arith, some)) in
      λ k d l h. (read k d l h, few k d l h)
  visited_after passes.Due takes finishes waiting visited =
      λ k d l h. timed_after takes finishes (λ k d l h. visited k d l h) k d l h

module _ {S F D : Type 0} (meaning : StoreMeaning S D) (sources : SourceMeaning F) where
  -- a file that works leaves its transfer unclosed
  pub works_unclosed : (port : ℕ) (o : Option (TransferState F D)) (old new : ServerState S F D) →
      at port old.held ≡ o →
      WorksAt meaning sources port o old new → taken_of (at port old.held) ≡ None
      → taken_of (at port new.held) ≡ None
  works_unclosed port o old new found works unclosed =
      search (rules, taken_of, at, next_found, not_taken, is_closed, record_of, draft_of)

  -- and all others
  pub works_settled : (old new : ServerLoop S F D) (index : ℕ) (port : Port TransferSocket) →
      index < length old.ports.items → port ≡ slice_index_or old.ports.items index port
      → WorksAtPort meaning sources port.socket.udp.port old.server new.server →
      new ≡ record old { server = new.server } → IsSettled old → IsSettled new
  works_settled old new index port inside is_port works rest settled =
      let was = timer_of port in
      let held = works_held _ _ _ _ _ _ works.works in
      let AtTimers : List Timer → Type 0 = λ ts. AreSettled new.server.held ts in
      search (rules, timers_of, slice_index_or, other_held, cases_eq, taken_of, at, works_unclosed)

module _ {S F D : Type 0} (meaning : StoreMeaning S D) (sources : SourceMeaning F) (old new : ServerLoop S F D)
    (index : ℕ) (port : Port TransferSocket) (tid : ℕ) (closed : Option Record)
    (inside : index < length old.ports.items) (is_port : port ≡ slice_index_or old.ports.items index port)
    (same : tid ≡ port.socket.udp.port)
    (found : closed ≡ option_map (λ (t : Record × Option D). t.0) (taken_of (at tid old.server.held)))
    (held : new.server.held ≡ (if is_some closed then without tid old.server.held else old.server.held))
    (rest : new.server ≡ record old.server { held = new.server.held }) where
  -- the timer at the index
  timer_is : (d : Timer) → slice_index_or (timers_of old) index d ≡ timer_of port
  timer_is d = grind (std_arith, common_steps)

  -- nothing was taken
  pub stays_by : (es : List SocketEvent) → is_some closed ≡ false → new ≡ record old { server = new.server } →
      Finishes meaning sources index old es new es
  stays_by es none is = search (rules, without, taken_of, at, timer_is, none_taken)

  -- a transfer was taken
  pub goes_by : (es ns : List SocketEvent) → IsSome closed → 1 ≤ old.left
      → new.ports.items ≡ swap_remove old.ports.items index port
      → ns ≡ close_reported port.socket.udp.port port.socket.peer closed es
      → new ≡ record old { server = new.server; ports = new.ports; left = old.left - 1 } →
      Finishes meaning sources index old es new ns
  goes_by es ns some left items events is =
      let timers = ap (map timer_of) items ∙ map_removed timer_of old.ports.items index port in
      Goes (λ buffer.
      rw (is, timers) (closes meaning sources _ _ _ _ _ _ _ left (map_within timer_of _ _ inside) (map_is timer_of
      old.ports.items index port is_port) same found some held rest events))
