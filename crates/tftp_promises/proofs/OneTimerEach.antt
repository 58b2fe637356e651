-- How many elements of a list, and how many entries of a table, have a port.
use Rattle.std.proofs.lemmas.Grind.{common_steps}
use Rattle.tftp_promises.proofs.Common.{List, ℕ, ◌≡◌, rules, sym, Endpoint, refl, [], ◌∙◌, ap, SourceMeaning, Some}
use Rattle.tftp_promises.proofs.Common.{subst, inl, StoreMeaning, inr, ◌∷◌, false, true, None, ◌++◌, Bool, ◌⊎◌}
use Rattle.tftp_promises.proofs.Common.{Contains, SocketEvent, Option, arith, LoopState, length, slice_get}
use Rattle.tftp_promises.proofs.Common.{TransferState, LoopStep, at, Run, suc, Then, Start, ServerState, zero, ◌≤◌, ◌<◌}
use Rattle.tftp_promises.proofs.Common.{cases_eq, ◌+◌, A_transfer, eq-eqb, map, Came, PortStep, with_next, state_is}
use Rattle.tftp_promises.proofs.Common.{PortState, left_by, Nothing, port_state, Error_reply, ne_eqb, At_port}
use Rattle.tftp_promises.proofs.Common.{A_datagram, Work, A_timeout, KeepsHeld, server_is, Transfer_closed, WorksAt}
use Rattle.tftp_promises.proofs.Common.{Backoff, without, with_new, IsSome, A_lost_datagram, at_start, LoopConfig}
use Rattle.tftp_promises.proofs.Common.{Waited, is_at, cond, nat_cmp, Timer, slice_set, slice_index_or, Equal, Ordering}
use Rattle.tftp_promises.proofs.Common.{⊤, true≢false, numbers, is_eq, stays_at, match_ordering, Less, Greater}
use Rattle.tftp_promises.proofs.Common.{slice_get_read, same_Some}
use Rattle.std.proofs.Common.{eqb, arith as std_arith, rules as std_rules}
use Rattle.std.specs.List.{swap_remove, sum_by}
use Rattle.std.specs.Map.{lookup, remove_entry, set_value}
use Rattle.std.specs.BTreeMap.{insert_entry}
use Rattle.std.proofs.lemmas.List.Sums.{sum_by-cons, sum_by-swap_remove}
use Rattle.tftp_rules.proofs.Entries.{at_same, same_at}
use Rattle.tftp_ends.specs.declared.record.Record.{Record}
use Rattle.tftp_server.specs.State.{taken_of}
use Rattle.tftp_loop.specs.Steps.{with_timer}
use Rattle.tftp_loop.specs.Steps.LoopStep.{Request_answered}
use Rattle.tftp_promises.specs.Timers.{HasOneTimerEach, timer_ports}

-- 1 for the port itself, and 0 for another
abbrev pub hit : ℕ → ℕ → ℕ
hit port other = cond (eqb port other) 1 0

pub hit_same : (port : ℕ) → hit port port ≡ 1
hit_same port = ap (λ (b : Bool). cond b 1 0) (eq-eqb port port refl)

pub hit_other : (port other : ℕ) → (port ≡ other → ⊥) → hit port other ≡ 0
hit_other port other e = ap (λ (b : Bool). cond b 1 0) (ne_eqb port other e)

module _ {X : Type 0} (port_of : X → ℕ) where
  -- how many elements have the port
  abbrev pub hits : ℕ → List X → ℕ
  hits port [] = 0
  hits port (x ∷ xs) = hit port (port_of x) + hits port xs

  pub hits_push : (port : ℕ) (xs : List X) (x : X) → hits port (xs ++ x ∷ []) ≡ hits port xs + hit port (port_of x)
  hits_push port [] x = omega arith
  hits_push port (y ∷ xs) x = let e = hits_push port xs x in omega (arith, e)

  -- a change that keeps the ports
  pub hits_map : (port : ℕ) (xs : List X) (f : X → X) → ((x : X) → port_of (f x) ≡ port_of x) →
      hits port (map f xs) ≡ hits port xs
  hits_map port [] f same = refl
  hits_map port (x ∷ xs) f same = search (std_rules, map, hits_map port xs f same)

  hits_sum : (port : ℕ) (xs : List X) → hits port xs ≡ sum_by (λ x. hit port (port_of x)) xs
  hits_sum port [] = refl
  hits_sum port (x ∷ xs) =
      ap (λ (n : ℕ). hit port (port_of x) + n) (hits_sum port xs) ∙ sym (sum_by-cons (λ x. hit port (port_of x)) x xs)

  pub hits_swap_removed : (port : ℕ) (xs : List X) (i : ℕ) (x : X) → i < length xs → x ≡ slice_index_or xs i x →
      hits port (swap_remove xs i x) + hit port (port_of x) ≡ hits port xs
  hits_swap_removed port xs i x within is = search (rules, hits_sum, sum_by-swap_remove)

  pub hits_set : (port : ℕ) (xs : List X) (i : ℕ) (x y : X) → x ≡ slice_index_or xs i x → port_of y ≡ port_of x →
      hits port (slice_set xs i y) ≡ hits port xs
  hits_set port [] i x y is same = refl
  hits_set port (z ∷ xs) zero x y is same = ap (λ (p : ℕ). hit port p + hits port xs) (same ∙ ap port_of is)
  hits_set port (z ∷ xs) (suc i) x y is same = ap (λ (n : ℕ). hit port (port_of z) + n) (hits_set port xs i x y is same)

  -- an element with the port
  pub hits_at : (port : ℕ) (xs : List X) (i : ℕ) → slice_get (map port_of xs) i ≡ Some port → 0 < hits port xs
  hits_at port [] i e = absurd (let f : None ≡ Some port = e in cc)
  hits_at port (x ∷ xs) zero e = search std_rules
  hits_at port (x ∷ xs) (suc i) e = let more = hits_at port xs i e in omega (arith, more)

  -- the port of the first element is not there again, if it is there once
  hit_again : (x : X) (xs : List X) (k port : ℕ) → Some (port_of x) ≡ Some port →
      slice_get (map port_of xs) k ≡ Some port → hits port (x ∷ xs) ≤ 1 → ⊥
  hit_again x xs k port e f most = search (std_rules, same_Some, hit_same, hits_at)

  -- if no port is there twice, one port is at one index
  pub hits_apart : (xs : List X) → ((port : ℕ) → hits port xs ≤ 1) → (j k port : ℕ) →
      slice_get (map port_of xs) j ≡ Some port → slice_get (map port_of xs) k ≡ Some port → j ≡ k
  hits_apart [] most j k port e f = absurd (let n : None ≡ Some port = e in cc)
  hits_apart (x ∷ xs) most zero zero port e f = refl
  hits_apart (x ∷ xs) most zero (suc k) port e f = absurd (hit_again x xs k port e f (most port))
  hits_apart (x ∷ xs) most (suc j) zero port e f = absurd (hit_again x xs j port f e (most port))
  hits_apart (x ∷ xs) most (suc j) (suc k) port e f =
      ap suc (hits_apart xs (λ p. let all = most p in omega (arith, all)) j k port e f)

  pub hits_contained : (port : ℕ) (xs : List X) (k : ℕ) → k < length (map port_of xs) →
      slice_index_or (map port_of xs) k port ≡ port → 0 < hits port xs
  hits_contained port xs k l e = search (std_rules, hits_at, slice_get_read, map, length)

  pub contains_hit : (port : ℕ) (xs : List X) → 0 < hits port xs → Contains (map port_of xs) port
  contains_hit port [] h = absurd (omega (arith, h))
  contains_hit port (x ∷ xs) h = elim (cases_eq port (port_of x)) [
    | inl same ↦ (0, omega arith, sym same)
    | inr other ↦
        let none = hit_other port (port_of x) other in
        let rest = contains_hit port xs (omega (arith, none, h)) in
        (suc rest.0, (let l = rest.1 in omega (arith, l)), rest.2)
  ]

-- ---- in a table
module _ {T : Type 0} where
  -- how many entries have the key
  abbrev pub keyed : ℕ → List (ℕ × T) → ℕ
  keyed = hits (λ (e : ℕ × T). e.0)

  -- no key is there twice
  abbrev pub AreKeyedOnce : List (ℕ × T) → Type 0
  AreKeyedOnce held = (port : ℕ) → keyed port held ≤ 1

  keyed_absent_at : (b : Bool) (port : ℕ) (e : ℕ × T) (n : ℕ) (m : Option T) → (b ≡ false → port ≡ e.0 → ⊥) →
      (m ≡ None → n ≡ 0) → cond b (Some e.1) m ≡ None → hit port e.0 + n ≡ 0
  keyed_absent_at b port e n m apart more h = search rules

  -- no entry has a key at which nothing is
  pub keyed_absent : (port : ℕ) (held : List (ℕ × T)) → lookup (is_at (nat_cmp port)) held ≡ None → keyed port held ≡ 0
  keyed_absent port [] h = refl
  keyed_absent port (e ∷ held) h =
      keyed_absent_at (is_eq (nat_cmp port e.0)) port e (keyed port held) (lookup (is_at (nat_cmp port)) held)
      (λ f same. true≢false (sym (at_same numbers port e.0 (sym same)) ∙ f)) (keyed_absent port held) h

  keyed_present_at : (b : Bool) (port : ℕ) (e : ℕ × T) (n : ℕ) (m : Option T) → (b ≡ true → port ≡ e.0) →
      (IsSome m → 0 < n) → IsSome (cond b (Some e.1) m) → 0 < hit port e.0 + n
  keyed_present_at b port e n m same more h = search rules

  pub keyed_present : (port : ℕ) (held : List (ℕ × T)) → IsSome (lookup (is_at (nat_cmp port)) held) →
      0 < keyed port held
  keyed_present port [] h = absurd (cc)
  keyed_present port (e ∷ held) h =
      keyed_present_at (is_eq (nat_cmp port e.0)) port e (keyed port held) (lookup (is_at (nat_cmp port)) held)
      (λ h. sym (same_at numbers port e.0 h)) (keyed_present port held) h

  found : (port : ℕ) (held : List (ℕ × T)) (o : Option T) → lookup (is_at (nat_cmp port)) held ≡ o →
      0 < keyed port held → IsSome o
  found port held o e h = search (rules, keyed_absent)

  pub keyed_found : (port : ℕ) (held : List (ℕ × T)) → 0 < keyed port held → IsSome (lookup (is_at (nat_cmp port)) held)
  keyed_found port held h = found port held (lookup (is_at (nat_cmp port)) held) refl h

  keyed_inserted_at : (o : Ordering) (port tid : ℕ) (v : T) (e : ℕ × T) (held more : List (ℕ × T)) →
      nat_cmp tid e.0 ≡ o → lookup (is_at (nat_cmp tid)) (e ∷ held) ≡ None
      → (lookup (is_at (nat_cmp tid)) held ≡ None → keyed port more ≡ hit port tid + keyed port held)
      → keyed port (match_ordering o ((tid, v) ∷ e ∷ held) ((e.0, v) ∷ held) (e ∷ more)) ≡ hit port tid + keyed port
      (e ∷ held)
  keyed_inserted_at Less port tid v e held more o absent rest = refl
  keyed_inserted_at Equal port tid v e held more o absent rest = search std_rules
  keyed_inserted_at Greater port tid v e held more o absent rest = search std_rules

  pub keyed_inserted : (port tid : ℕ) (v : T) (held : List (ℕ × T)) → lookup (is_at (nat_cmp tid)) held ≡ None →
      keyed port (insert_entry nat_cmp held tid v) ≡ hit port tid + keyed port held
  keyed_inserted port tid v [] absent = refl
  keyed_inserted port tid v (e ∷ held) absent =
      keyed_inserted_at (nat_cmp tid e.0) port tid v e held (insert_entry nat_cmp held tid v) refl absent
      (keyed_inserted port tid v held)

  keyed_set_at : (b : Bool) (port : ℕ) (v : T) (e : ℕ × T) (held more : List (ℕ × T)) →
      keyed port more ≡ keyed port held → keyed port (cond b ((e.0, v) ∷ held) (e ∷ more)) ≡ keyed port (e ∷ held)
  keyed_set_at b port v e held more same = search rules

  pub keyed_set : (test : ℕ → Bool) (port : ℕ) (v : T) (held : List (ℕ × T)) →
      keyed port (set_value test held v) ≡ keyed port held
  keyed_set test port v [] = refl
  keyed_set test port v (e ∷ held) =
      keyed_set_at (test e.0) port v e held (set_value test held v) (keyed_set test port v held)

  keyed_removed_at : (b : Bool) (port tid : ℕ) (e : ℕ × T) (held more : List (ℕ × T)) (m : Option T) →
      (b ≡ true → tid ≡ e.0) → (IsSome m → hit port tid + keyed port more ≡ keyed port held)
      → IsSome (cond b (Some e.1) m) → hit port tid + keyed port (cond b held (e ∷ more)) ≡ keyed port (e ∷ held)
  keyed_removed_at b port tid e held more m same rest h = search rules

  pub keyed_removed : (port tid : ℕ) (held : List (ℕ × T)) → IsSome (lookup (is_at (nat_cmp tid)) held) →
      hit port tid + keyed port (remove_entry (is_at (nat_cmp tid)) held) ≡ keyed port held
  keyed_removed port tid [] h = absurd (cc)
  keyed_removed port tid (e ∷ held) h =
      keyed_removed_at (is_eq (nat_cmp tid e.0)) port tid e held (remove_entry (is_at (nat_cmp tid)) held)
      (lookup (is_at (nat_cmp tid)) held) (λ h. sym (same_at numbers tid e.0 h)) (keyed_removed port tid held) h

-- At each time of a run each held transfer has one timer.

-- how many timers have the port
abbrev timed : ℕ → List Timer → ℕ
timed = hits (λ (timer : Timer). timer.port)

module _ {F D : Type 0} (IsExact : Type 0) where
  -- one transfer at most has a port, and as many timers, if it was so at first
  record AreMatched (timers : List Timer) (held : List (ℕ × TransferState F D)) : Type 0 where
    pub same : IsExact → (port : ℕ) → timed port timers ≡ keyed port held
    pub most : AreKeyedOnce held

  -- the same numbers
  stays_matched : (timers timers' : List Timer) (held held' : List (ℕ × TransferState F D)) →
      ((port : ℕ) → timed port timers' ≡ timed port timers) →
      ((port : ℕ) → keyed port held' ≡ keyed port held) → AreMatched timers held → AreMatched timers' held'
  stays_matched timers timers' held held' ts hs matched = search rules

  -- a transfer opens at a free port
  opens_matched : (timers : List Timer) (held : List (ℕ × TransferState F D)) (timer : Timer)
      (transfer : TransferState F D) → at timer.port held ≡ None →
      AreMatched timers held → AreMatched (timers ++ timer ∷ []) (with_new timer.port transfer held)
  opens_matched timers held timer transfer free matched =
      search (rules, hits_push, keyed_inserted, cases_eq, keyed_absent, hit_same, hit_other)

  -- a transfer is removed with its timer
  closes_matched : (timers : List Timer) (held : List (ℕ × TransferState F D)) (index : ℕ) (timer : Timer) →
      index < length timers → timer ≡ slice_index_or timers index timer →
      IsSome (at timer.port held) → AreMatched timers held →
      AreMatched (swap_remove timers index timer) (without timer.port held)
  closes_matched timers held index timer within is there matched =
      search (rules, hits_swap_removed, keyed_removed)

-- what was taken was there
pub was_there : {F D : Type 0} (o : Option (TransferState F D)) (taken : Record × Option D) → taken_of o ≡ Some taken →
    IsSome o
was_there o taken e = search rules

module _ {S F D : Type 0} (stores : StoreMeaning S D) (sources : SourceMeaning F) where
  -- a step at a port leaves the transfers, or has another one in the place of that at the port
  abbrev LeavesHeld : ℕ → List (ℕ × TransferState F D) → List (ℕ × TransferState F D) → Type 0
  LeavesHeld port old new = (new ≡ old) ⊎ ((next : TransferState F D) × (new ≡ with_next port next old))

  keeps_held : (port : ℕ) (o : Option (TransferState F D)) (old new : ServerState S F D) →
      KeepsHeld stores sources port o old new ⊎ WorksAt stores sources port o old new →
      LeavesHeld port old.held new.held
  keeps_held port None old new (inl keeps) = inl (ap (λ (s : ServerState S F D). s.held) keeps)
  keeps_held port None old new (inr works) = inl (ap (λ (s : ServerState S F D). s.held) works)
  keeps_held port (Some transfer) old new (inl keeps) = inr (keeps.0, keeps.2)
  keeps_held port (Some transfer) old new (inr works) = inr (works.0, works.2)

  pub port_held : (now : ℕ) (old new : PortState S F D) → PortStep stores sources now old new →
      LeavesHeld old.timer.port old.server.held new.server.held
  port_held now old new (A_datagram d) = inr (d.handles.takes.next, d.handles.takes.held)
  port_held now old new (A_lost_datagram d) = keeps_held _ _ _ _ (inl d.loses.keeps)
  port_held now old new (A_timeout d) =
      inr (record d.times_out.times_out.transfer { end = d.times_out.times_out.end }, d.times_out.times_out.held)
  port_held now old new (Work d) = keeps_held _ _ _ _ (inr d.works.works)
  port_held now old new does = inl (ap (λ s. s.held) (server_is does))

  -- so it keeps the ports of all transfers
  port_keys : (now : ℕ) (old new : PortState S F D) → PortStep stores sources now old new → (p : ℕ) →
      keyed p new.server.held ≡ keyed p old.server.held
  port_keys now old new does p = search (rules, port_held, keyed_set)

module _ {S F D : Type 0} (stores : StoreMeaning S D) (sources : SourceMeaning F) (IsExact : Type 0) where
  -- what the request port leaves
  answers_matched : (now : ℕ) (longest : Option ℕ) (backoff : Backoff) (from : Endpoint) (tid : ℕ) (old : ServerState S F D) (timers : List Timer)
      (came : Came S F D) → at tid old.held ≡ None → AreMatched IsExact timers old.held →
      AreMatched IsExact (with_timer now longest backoff from (left_by came old from tid).opened.tid
      (left_by came old from tid).new.held timers) (left_by came old from tid).new.held
  answers_matched now longest backoff from tid old timers Nothing free matched = matched
  answers_matched now longest backoff from tid old timers (Error_reply reply store) free matched = matched
  answers_matched now longest backoff from tid old timers (A_transfer transfer store) free matched =
      opens_matched IsExact _ _ _ transfer free matched

  -- the state of a server at its ports
  abbrev IsMatched : LoopState S F D → Type 0
  IsMatched state = AreMatched IsExact state.timers state.server.held

  step_matched : (old new : LoopState S F D) → LoopStep stores sources old new → IsMatched old → IsMatched new
  step_matched old new (Waited d) matched = search (std_rules, map, stays_matched, hits_map)
  step_matched old new (At_port d) matched =
      subst IsMatched (sym d.is) (stays_matched IsExact _ _ _ _ (λ port. hits_set _ port _ _ _ _ d.is_timer (stays_at
      stores sources old.now (port_state old d.timer) d.next d.does).port) (port_keys _ _ _ _ _ d.does) matched)
  step_matched old new (Request_answered d) matched =
      subst IsMatched (sym d.is) (rw (d.steps.left) (answers_matched old.now old.longest old.backoff d.from d.tid
      old.server old.timers d.steps.came d.free matched))
  step_matched old new (Transfer_closed d) matched =
      subst IsMatched (sym d.is) (closes_matched IsExact _ _ _ _ d.within d.is_timer (was_there _ _ d.is_taken) matched)
  step_matched old new does matched = subst IsMatched (sym (state_is does)) matched

  run_matched : {first now : LoopState S F D} → Run (LoopStep stores sources) first now → IsMatched first → IsMatched now
  run_matched Start matched = matched
  run_matched {now = now} (Then {middle} run does) matched = step_matched middle now does (run_matched run matched)

module _ {S F D : Type 0} (stores : StoreMeaning S D) (sources : SourceMeaning F) where
  -- so no port has two transfers, whatever timers there are
  pub keyed_once : {start now : LoopState S F D} (run : Run (LoopStep stores sources) start now) →
      start.server.held ≡ [] → AreKeyedOnce now.server.held
  keyed_once {start} run none =
      let first : IsMatched stores sources ⊥ start = search std_rules in
      (run_matched stores sources ⊥ run first).most

  abbrev AreOneEach : LoopState S F D → Type 0
  AreOneEach = IsMatched stores sources ⊤

  start_matched : (config : LoopConfig) (port reading : ℕ) (first : ServerState S F D) (before : List SocketEvent) →
      first.held ≡ [] → AreOneEach (at_start config port first reading before)
  start_matched config port reading first before none = search rules

  -- a timer is of a held transfer, and a held transfer has a timer
  held_by : (state : LoopState S F D) → AreOneEach state → (port : ℕ) → Contains (timer_ports state.timers) port →
      IsSome (at port state.server.held)
  held_by state matched port timer = search (rules, hits_contained, keyed_found)

  timed_by : (state : LoopState S F D) → AreOneEach state → (port : ℕ) → IsSome (at port state.server.held) →
      Contains (timer_ports state.timers) port
  timed_by state matched port there = search (rules, keyed_present, contains_hit, matched.same tt)

  one_each : (state : LoopState S F D) → AreOneEach state → HasOneTimerEach state
  one_each state matched = grind (std_arith, common_steps, hits_apart, held_by, timed_by)

  pub one_timer_each : (config : LoopConfig) (port reading : ℕ) (first : ServerState S F D) (before : List SocketEvent)
      (now : LoopState S F D) → first.held ≡ [] →
      Run (LoopStep stores sources) (at_start config port first reading before) now → HasOneTimerEach now
  one_timer_each config port reading first before now none run =
      one_each now (run_matched stores sources ⊤ run (start_matched config port reading first before none))
