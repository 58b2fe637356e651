-- In each state of a run a deadline is a wait away at most, and no end has more than its retries. For Expiring
-- and PortCounts.
use Rattle.std.proofs.Common.{rules}
use Rattle.tftp_loop.proofs.Common.{arith, ◌≡◌, ◌<◌, ℕ, true, false, List, [], length, Option, Some, None, IsSome, refl}
use Rattle.tftp_loop.proofs.Common.{sym, ap, subst, ◌∙◌, All, slice_index_or, slice_set, swap_remove, same_Some}
use Rattle.tftp_loop.proofs.Common.{SourceMeaning, Endpoint, StoreMeaning, Ask, Came, Nothing, Error_reply, A_transfer}
use Rattle.tftp_loop.proofs.Common.{left_by, TransferState, ServerState, at, with_new, without, Run, Start, Then, Timer}
use Rattle.tftp_loop.proofs.Common.{PortState, LoopState, PortStep, LoopStep, interval_at, port_state, started, Waited}
use Rattle.tftp_loop.proofs.Common.{At_port, Request_answered, Clock_read, Store_set, Transfer_closed, AreKept}
use Rattle.tftp_loop.proofs.Common.{after_request, All-push}
use Rattle.tftp_loop.proofs.LoopStays.{removed_all, replaced_all, other_port, some_none}
use Rattle.tftp_loop.proofs.PortEnds.{HasLimit, HasSpent, IsNear, at_transfer, changes_limit, changes_near}
use Rattle.tftp_loop.proofs.PortEnds.{changes_spent, expiring_near, same_config, set_near}
use Rattle.tftp_loop.proofs.PortStays.{stays_at}
use Rattle.tftp_loop.proofs.OpenedEnds.{OpensIn, opens_begins, opens_for}
use Rattle.tftp_loop.proofs.Sleeping.{step_kept}
use Rattle.tftp_loop.proofs.Tables.{inserted_apart, inserted_own, removed_apart}
use Rattle.tftp_loop.proofs.Waits.{all_waited}
use Rattle.tftp_loop.proofs.NewStates.{answer_is, state_is}

-- an option that has a value is that value
pub some_at : {T : Type 0} (o : Option T) → IsSome o → (x : T) × (o ≡ Some x)
some_at None h = absurd (let e : false ≡ true = h in cc)
some_at (Some x) h = (x, refl)

module _ {S F D : Type 0} (meaning : StoreMeaning S D) (sources : SourceMeaning F) where
  -- ---- at each timer
  -- the deadline of a timer, the retries of its transfer and its timeouts are within their limits
  pub record IsBounded (server : ServerState S F D) (now : ℕ) (timer : Timer) : Type 0 where
    pub near : IsNear now timer
    pub limit : (transfer : TransferState F D) → at timer.port server.held ≡ Some transfer
        → HasLimit server.config.retries transfer.end
    pub spent : (transfer : TransferState F D) → at timer.port server.held ≡ Some transfer
        → HasSpent server.config.retries timer transfer.end

  -- what is at the port of a timer is as it was
  same_bounded : (old new : ServerState S F D) (now : ℕ) (timer : Timer) → new.config ≡ old.config
      → at timer.port new.held ≡ at timer.port old.held → IsBounded old now timer → IsBounded new now timer
  same_bounded old new now timer config same bounded = search rules

  abbrev AreBounded : LoopState S F D → Type 0
  AreBounded s = All (IsBounded s.server s.now) s.timers

  set_bounded : (s : LoopState S F D) (index : ℕ) (timer : Timer) (next : PortState S F D) → index < length s.timers
      → timer ≡ slice_index_or s.timers index timer → PortStep meaning sources s.now (port_state s timer) next
      → AreKept s.server.held s.timers → AreBounded s
      → All (IsBounded next.server s.now) (slice_set s.timers index next.timer)
  set_bounded s index timer next within is does kept bounded =
      let stays = stays_at meaning sources s.now (port_state s timer) next does in
      let config = same_config does in
      let own : IsBounded s.server s.now timer = subst (IsBounded s.server s.now) (sym is) (bounded index timer within)
      in
      let some = some_at (at timer.port s.server.held) (subst (λ (t : Timer). IsSome (at t.port s.server.held)) (sym is)
      (kept.each index timer within).there) in
      let changed = at_transfer meaning sources s.now (port_state s timer) next does some.0 some.1 in
      let limit = changes_limit changed.changes s.server.config.retries (own.limit some.0 some.1) in
      let spent = changes_spent changed.changes s.server.config.retries limit (own.spent some.0 some.1) in
      let here : (transfer : TransferState F D) → at next.timer.port next.server.held ≡ Some transfer → changed.next ≡
      transfer = search rules in
      replaced_all (IsBounded next.server s.now) s.timers index next.timer within (λ k d h apart.
      same_bounded s.server next.server s.now (slice_index_or s.timers k d) config (stays.held.others (slice_index_or
      s.timers k d).port (other_port s.timers index timer k d kept.apart within is h apart)) (bounded k d h)) (record {
        near = changes_near changed.changes own.near;
        limit = λ transfer found. rw (config, ← here transfer found) limit;
        spent = λ transfer found. rw (config, ← here transfer found) spent;
      })

  opened_bounded : (s : LoopState S F D) (from : Endpoint) (bytes : List ℕ) (tid : ℕ) (ask : Ask) (came : Came S F D)
      → at tid s.server.held ≡ None → OpensIn meaning sources s.server from bytes ask came
      → AreKept s.server.held s.timers → AreBounded s → AreBounded (after_request s from (left_by came s.server from tid))
  opened_bounded s from bytes tid ask Nothing free opens kept bounded = bounded
  opened_bounded s from bytes tid ask (Error_reply reply store) free opens kept bounded =
      λ k d h. same_bounded _ _ _ _ refl refl (bounded k d h)
  opened_bounded s from bytes tid ask (A_transfer transfer store) free opens kept bounded =
      let old = s.server in
      let new : ServerState S F D = record old { store = store; held = with_new tid transfer old.held } in
      let timer = started s.now s.longest s.backoff tid from (interval_at (at tid (with_new tid transfer old.held))) in
      let own = inserted_own tid transfer old.held in
      let limit = (opens_begins meaning sources old from bytes opens).limit in
      All-push (IsBounded new s.now) s.timers timer (λ k d h.
      let t = slice_index_or s.timers k d in
      let apart : t.port ≡ tid → ⊥ = λ e. some_none (at t.port old.held) (kept.each k d h).there (ap (λ p. at p
      old.held) e ∙ free) in
      same_bounded old new s.now t refl (inserted_apart tid t.port apart transfer old.held) (bounded k d h)) (record {
        near = expiring_near s.now 0 timer;
        limit = λ held found. rw (← same_Some transfer held (sym own ∙ found)) limit;
        spent = search rules;
      })

  removed_bounded : (old : ServerState S F D) (now : ℕ) (timers : List Timer) (index : ℕ) (timer : Timer)
      → index < length timers → timer ≡ slice_index_or timers index timer → AreKept old.held timers
      → All (IsBounded old now) timers → All (IsBounded (record old { held = without timer.port old.held }) now)
      (swap_remove timers index timer)
  removed_bounded old now timers index timer within is kept bounded =
      let new : ServerState S F D = record old { held = without timer.port old.held } in
      removed_all (IsBounded new now) timers index timer within
      (λ k d h apart.
      let t = slice_index_or timers k d in
      same_bounded old new now t refl (removed_apart timer.port t.port
      (other_port timers index timer k d kept.apart within is h apart) old.held) (bounded k d h))

  step_bounded : (s t : LoopState S F D) → LoopStep meaning sources s t → AreKept s.server.held s.timers → AreBounded s
      → AreBounded t
  step_bounded s t (Waited d) kept bounded =
      subst AreBounded (sym d.is)
      (all_waited (IsBounded s.server d.watch.now) d.watch.now d.ports s.timers
      (λ k e h.
      let timer = slice_index_or s.timers k e in
      let was = bounded k e h in
      record {
        near = set_near s.now d.watch.now timer.provisional timer d.by.forward was.near;
        limit = was.limit;
        spent = was.spent;
      }))
  step_bounded s t (Clock_read d) kept bounded =
      subst AreBounded (sym d.is)
      (λ k e h. let was = bounded k e h in record {
        near = omega (arith, d.by.forward, was.near);
        limit = was.limit;
        spent = was.spent;
      })
  step_bounded s t (At_port d) kept bounded = subst AreBounded (sym d.is)
      (set_bounded s d.index d.timer d.next d.within d.is_timer d.does kept bounded)
  step_bounded s t (Request_answered d) kept bounded =
      subst AreBounded (sym (answer_is d)) (opened_bounded s d.from d.bytes d.tid _ d.steps.came d.free
      (opens_for meaning sources s.server d.from d.bytes _ d.steps.came d.steps.goes) kept bounded)
  step_bounded s t (Store_set d) kept bounded =
      subst AreBounded (sym d.is) (λ k e h. same_bounded s.server (record s.server { store = d.store }) s.now
      (slice_index_or s.timers k e) refl refl (bounded k e h))
  step_bounded s t (Transfer_closed d) kept bounded = subst AreBounded (sym d.is)
      (removed_bounded s.server s.now s.timers d.index d.timer d.within d.is_timer kept bounded)
  step_bounded s t does kept bounded = subst AreBounded (sym (state_is does)) bounded

  -- ---- along a run
  -- each open transfer has its timer, and each timer is bounded
  pub record IsSound (s : LoopState S F D) : Type 0 where
    pub kept : AreKept s.server.held s.timers
    pub bounded : All (IsBounded s.server s.now) s.timers

  -- each state of a run is sound
  pub sound_along : (start s : LoopState S F D) → start.timers ≡ []
      → Run (LoopStep meaning sources) start s → IsSound s
  sound_along start s empty Start = search rules
  sound_along start s empty (Then {middle} run does) =
      search (rules, step_kept, step_bounded, sound_along start middle empty run)
