-- What becomes of a datagram of the request port before a server sleeps. For `a_server_handles_before_it_sleeps`.
use Rattle.std.proofs.Common.{rules}
use Rattle.tftp_loop.proofs.Common.{arith, ◌≡◌, ◌≤◌, ◌||◌, ◌&&◌, not, ◌⊎◌, ℕ, Bool, true, false, List, cond, Some, refl}
use Rattle.tftp_loop.proofs.Common.{sym, ap, ◌∙◌, inl, inr, is_some, All, ◌≢◌, none-some, same_Some, SourceMeaning}
use Rattle.tftp_loop.proofs.Common.{Endpoint, StoreMeaning, is_among, was_tried, Run, Start, Then, Timer, LoopState}
use Rattle.tftp_loop.proofs.Common.{LoopStep, Waited, Request_received, No_request_found, Request_not_received}
use Rattle.tftp_loop.proofs.Common.{Request_answered, Request_lost, is_draining, reads_requests, IsNoWait}
use Rattle.tftp_loop.specs.Reported.{GoesOn, Goes_by}
use Rattle.tftp_loop.specs.Handled.{By_answer, By_loss, HandlesBeforeItSleeps, HandlesByTheNextWait, IsResolved}
use Rattle.tftp_loop.specs.Handled.{ReadsTheRequestPort, Resolves}
use Rattle.tftp_loop.proofs.OwnPorts.{HasItsOwnPort, own_from}
use Rattle.tftp_loop.proofs.PortStays.{or_left, or_right}
use Rattle.tftp_loop.proofs.RunLemmas.{onward}
use Rattle.tftp_loop.proofs.NewStates.{state_is}

-- a wait with a pending datagram takes no time
no_time : (a p c : Bool) (n m : ℕ) → p ≡ true → m ≤ cond (a || (p || c)) 0 n → m ≤ 0
no_time a p c n m e h = search rules

-- the request port is read if it is marked, and the server does not drain
reads_so : (drains marked : Bool) → drains ≡ false → marked ≡ true → (not drains && marked) ≡ true
reads_so true marked on m = absurd (let f : true ≡ false = on in cc)
reads_so false marked on m = m

module _ {S F D : Type 0} (meaning : StoreMeaning S D) (sources : SourceMeaning F) where
  -- ---- a pending datagram
  abbrev IsPending : Endpoint → List ℕ → LoopState S F D → LoopState S F D → Type 0
  IsPending from bytes first s = (s.pending ≡ Some (from, bytes)) ⊎ IsResolved meaning sources from bytes first s

  -- a step resolves it
  resolved : (from : Endpoint) (bytes : List ℕ) (first s t : LoopState S F D) → Run (LoopStep meaning sources) first s
      → Resolves meaning sources from bytes s t → IsPending from bytes first t
  resolved from bytes first s t run resolves =
      inr (record { old = s; new = t; earlier = run; resolves = resolves; later = Start })

  -- and it stays so
  still_resolved : (from : Endpoint) (bytes : List ℕ) (first s t : LoopState S F D) → LoopStep meaning sources s t
      → IsResolved meaning sources from bytes first s → IsResolved meaning sources from bytes first t
  still_resolved from bytes first s t does done = search (Then done.later does)

  step_pending : (from : Endpoint) (bytes : List ℕ) (first s t : LoopState S F D) → Run (LoopStep meaning sources) first s
      → LoopStep meaning sources s t → s.pending ≡ Some (from, bytes) → IsPending from bytes first t
  step_pending from bytes first s t run (Request_received d) pending =
      absurd (none-some (from, bytes) (sym d.none ∙ pending))
  step_pending from bytes first s t run (No_request_found d) pending =
      absurd (none-some (from, bytes) (sym d.none ∙ pending))
  step_pending from bytes first s t run (Request_not_received d) pending =
      absurd (none-some (from, bytes) (sym d.none ∙ pending))
  step_pending from bytes first s t run (Request_answered d) pending =
      let same = same_Some (d.from, d.bytes) (from, bytes) (sym d.pending ∙ pending) in
      resolved from bytes first s t run
      (By_answer d (ap (λ (p : Endpoint × List ℕ). p.0) same) (ap (λ (p : Endpoint × List ℕ). p.1) same))
  step_pending from bytes first s t run (Request_lost d) pending =
      let same = same_Some (d.from, d.bytes) (from, bytes) (sym d.pending ∙ pending) in
      resolved from bytes first s t run
      (By_loss d (ap (λ (p : Endpoint × List ℕ). p.0) same) (ap (λ (p : Endpoint × List ℕ). p.1) same))
  step_pending from bytes first s t run does pending = inl (ap (λ (u : LoopState S F D). u.pending) (state_is does) ∙ pending)

  pending_along : (from : Endpoint) (bytes : List ℕ) (first s : LoopState S F D) → Run (LoopStep meaning sources) first s
      → first.pending ≡ Some (from, bytes) → IsPending from bytes first s
  pending_along from bytes first s Start pending = inl pending
  pending_along from bytes first s (Then {middle} run does) pending =
      elim (pending_along from bytes first middle run pending) [
        | inl still ↦ step_pending from bytes first middle s run does still
        | inr done ↦ inr (still_resolved from bytes first middle s does done)
      ]

  -- before the server may sleep a datagram of the request port is answered or lost
  pub handles_before_it_sleeps : HandlesBeforeItSleeps meaning sources
  handles_before_it_sleeps old received last new receives run waits some =
      elim (pending_along _ _ _ _ run (ap (λ (u : LoopState S F D). u.pending) receives.is)) [
        | inl still ↦
            let none = no_time _ _ _ _ _ (ap is_some still) waits.may.longest in
            absurd (omega (arith, none, some))
        | inr done ↦ done
      ]

  -- ---- by the next wait
  does_of : (s t : LoopState S F D) → Run (GoesOn meaning sources) s t → Run (LoopStep meaning sources) s t
  does_of s t Start = Start
  does_of s t (Then {middle} run (Goes_by does is)) = Then (does_of s middle run) does

  abbrev Untried : LoopState S F D → Type 0
  Untried s = was_tried s.requests s.events ≡ false

  -- while the datagram is pending the request port is not read
  step_untried : (from : Endpoint) (bytes : List ℕ) (s t : LoopState S F D) (does : LoopStep meaning sources s t)
      → IsNoWait meaning sources does → All (λ (timer : Timer). timer.port ≢ s.requests) s.timers
      → s.pending ≡ Some (from, bytes) → Untried s → Untried t
  step_untried from bytes s t does is own pending h = search rules

  abbrev Stays_pending : Endpoint → List ℕ → LoopState S F D → LoopState S F D → Type 0
  Stays_pending from bytes first s = ((s.pending ≡ Some (from, bytes)) × Untried s)
      ⊎ IsResolved meaning sources from bytes first s

  untried_along : (from : Endpoint) (bytes : List ℕ) (first woken s : LoopState S F D)
      → Run (LoopStep meaning sources) first woken → Untried woken → first.pending ≡ Some (from, bytes)
      → Run (GoesOn meaning sources) woken s → HasItsOwnPort meaning sources woken s
      → Stays_pending from bytes first s
  untried_along from bytes first woken s before untried pending Start own = search (rules, pending_along)
  untried_along from bytes first woken s before untried pending (Then {middle} run (Goes_by does is)) own =
      elim (untried_along _ _ _ _ _ before untried pending run (λ now begins ends. own now begins (Then ends does))) [
        | inl was ↦ elim (step_pending _ _ _ _ s (onward before (does_of _ _ run)) does was.0) [
          | inl still ↦ inl (
            still,
            step_untried _ _ _ s _ is (own middle (does_of _ _ run) (Then Start does)) was.0 was.1,
          )
          | inr done ↦ inr done
        ]
        | inr done ↦ inr (still_resolved _ _ _ _ s does done)
      ]

  -- it is so by the next wait, whether or not the server may sleep
  pub handles_by_the_next_wait : HandlesByTheNextWait meaning sources
  handles_by_the_next_wait config port reading server before old received waiting woken last new begins receives run
      waits goes next =
      let own : HasItsOwnPort meaning sources woken last =
      own_from _ _ _ _ last refl (onward begins (onward (Then Start (Request_received receives)) (Then run (Waited
      waits)))) in
      elim (untried_along _ _ _ _ _ (Then run (Waited waits)) (ap (λ u. was_tried u.requests u.events) waits.is)
      (ap (λ u. u.pending) receives.is) goes own) [
        | inl still ↦ absurd (let tried : was_tried last.requests last.events ≡ true =
            next.may.requests (or_right (reads_requests last) _ (ap is_some still.0)) in
            cc)
        | inr done ↦ done
      ]

  -- ---- a port that was reported
  abbrev Reads : LoopState S F D → Type 0
  Reads s = (s.marked ≡ true) ⊎ (was_tried s.requests s.events ≡ true)

  step_reads : (s t : LoopState S F D) (does : LoopStep meaning sources s t) → IsNoWait meaning sources does → Reads s
      → Reads t
  step_reads s t does is reads = search rules

  reads_along : (s t : LoopState S F D) → Run (GoesOn meaning sources) s t → Reads s → Reads t
  reads_along s t Start reads = reads
  reads_along s t (Then {middle} run (Goes_by does is)) reads =
      step_reads middle t does is (reads_along s middle run reads)

  -- a request port that a wait reports is read before the next wait
  pub reads_the_request_port : ReadsTheRequestPort meaning sources
  reads_the_request_port old woken last new waits among run next on =
      let marked : woken.marked ≡ true = ap (λ (u : LoopState S F D). u.marked) waits.is ∙ or_right old.marked (is_among
      old.requests waits.ports) among in
      search (rules, reads_along, reads_so, is_draining, or_left, reads_requests, is_some)
