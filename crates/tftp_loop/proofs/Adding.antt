-- Each step notes events after those before, and the clock never goes back. For Expiring.
use Rattle.std.proofs.Common.{rules}
use Rattle.tftp_loop.proofs.Common.{◌≡◌, ◌≤◌, ℕ, List, [], ◌∷◌, ◌++◌, Option, refl, sym, ap, ◌∙◌, append_assoc}
use Rattle.tftp_loop.proofs.Common.{after_request, answering_port, Left, SourceMeaning, Endpoint, Reply, StoreMeaning}
use Rattle.tftp_loop.proofs.Common.{SocketEvent, answered, replied, Received, Elapsed, PortState, LoopState, PortStep}
use Rattle.tftp_loop.proofs.Common.{LoopStep, A_datagram, A_timeout, Work, Waited, At_port, Request_answered}
use Rattle.tftp_loop.proofs.Common.{Request_lost, Store_set}
use Rattle.tftp_loop.proofs.NewStates.{state_is, trace_is}

-- the later events are some more before the earlier ones
pub record Adds (before after : List SocketEvent) : Type 0 where
  pub more : List SocketEvent
  pub is : after ≡ more ++ before

-- the same events have none more
pub adds_none : (es fs : List SocketEvent) → fs ≡ es → Adds es fs
adds_none es fs e = record { more = []; is = e }

-- one event was noted
pub adds_one : (event : SocketEvent) (es fs : List SocketEvent) → fs ≡ event ∷ es → Adds es fs
adds_one event es fs e = record { more = event ∷ []; is = e }

-- what is noted after what was noted is noted in all
pub adds_more : (es fs gs : List SocketEvent) → Adds es fs → Adds fs gs → Adds es gs
adds_more es fs gs a b =
    search (
      b.more ++ a.more,
      b.is ∙ (ap (λ (xs : List SocketEvent). b.more ++ xs) a.is ∙ sym (append_assoc b.more a.more es)),
    )

adds_to : (es fs gs : List SocketEvent) → gs ≡ fs → Adds es fs → Adds es gs
adds_to es fs gs e a = record { more = a.more; is = e ∙ a.is }

answered_adds : (port : ℕ) (reply : Option Reply) (es : List SocketEvent) → Adds es (answered port reply es)
answered_adds port reply es = search (rules, adds_none, adds_one)

replied_adds : (port : ℕ) (to : Option Endpoint) (bytes : List ℕ) (es : List SocketEvent)
    → Adds es (replied port to bytes es)
replied_adds port to bytes es = search (rules, adds_none, adds_one)

-- the answer to a request is noted, if there is one
pub request_adds : {S F D : Type 0} (s : LoopState S F D) (from : Endpoint) (left : Left S F D)
    → Adds s.events (after_request s from left).events
request_adds s from left =
    replied_adds (answering_port s.requests left.opened.tid) left.opened.to left.sent s.events

module _ {S F D : Type 0} (meaning : StoreMeaning S D) (sources : SourceMeaning F) where
  -- a step at a port only adds events
  pub port_adds : (now : ℕ) (old new : PortState S F D) → PortStep meaning sources now old new → Adds old.events new.events
  port_adds now old new (A_datagram d) =
      let received = Received old.timer.port d.from d.bytes ∷ old.events in
      adds_to _ _ _ d.handles.events (adds_more _ _ _ (adds_one _ _ _ refl) (answered_adds old.timer.port
      d.handles.takes.takes.turn.reply received))
  port_adds now old new (A_timeout d) =
      let elapsed = Elapsed old.timer.port now ∷ old.events in
      adds_to _ _ _ d.times_out.events (adds_more _ _ _ (adds_one _ _ _ refl) (answered_adds old.timer.port _ elapsed))
  port_adds now old new (Work d) = adds_none _ _ d.events
  port_adds now old new does = adds_one _ _ _ (trace_is does)

  -- a step of the loop only adds events
  pub step_adds : (s t : LoopState S F D) → LoopStep meaning sources s t → Adds s.events t.events
  step_adds s t (Waited d) =
      adds_more _ _ _ (adds_one _ _ _ refl) (adds_more _ _ _ (adds_one _ _ _ refl) (adds_one _ _ _ (ap (λ u. u.events)
      d.is)))
  step_adds s t (At_port d) = adds_to _ _ _ (ap (λ u. u.events) d.is) (port_adds _ _ _ d.does)
  step_adds s t (Request_answered d) = adds_to _ _ _ (ap (λ u. u.events) d.is) (request_adds s d.from d.left)
  step_adds s t (Request_lost d) = adds_none _ _ (ap (λ u. u.events) d.is)
  step_adds s t (Store_set d) = adds_none _ _ (ap (λ u. u.events) d.is)
  step_adds s t does = adds_one _ _ _ (ap (λ u. u.events) (state_is does))

  -- a step of the loop never turns the clock back
  pub step_forward : (s t : LoopState S F D) → LoopStep meaning sources s t → s.now ≤ t.now
  step_forward s t does = search rules
