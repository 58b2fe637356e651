-- What one step of a program notes: a datagram that it receives is the oldest of its events.
use Rattle.tftp_promises.proofs.Common.{List, ℕ, ◌≡◌, sym, Endpoint, refl, [], ◌∙◌, ap, SourceMeaning, Some, inl}
use Rattle.tftp_promises.proofs.Common.{StoreMeaning, inr, ◌∷◌, SinkMeaning, None, ◌++◌, Contains, Files, SocketEvent}
use Rattle.tftp_promises.proofs.Common.{Option, arith, LoopState, length, LoopStep, Sent, Received, State, suc, Reply}
use Rattle.tftp_promises.proofs.Common.{Elapsed, timeout_turn, Receives_one, append_cancel_right, ClientDoes, Watched}
use Rattle.tftp_promises.proofs.Common.{Quiet, PortStep, Contains-append_cases, append_assoc, answered}
use Rattle.tftp_promises.proofs.Common.{Request_answered, Answers, common_steps, state_is, PortState, Waits_until}
use Rattle.tftp_promises.proofs.Common.{Times_out, Contains-append_right, HandlesReceived, Loses, File_works}
use Rattle.tftp_promises.proofs.Common.{Elapses, AllByRecursion, Slept, MayElapse, Stays}
use Rattle.tftp_promises.proofs.Common.{trace_is, Woke, wait_at}
use Rattle.std.proofs.lemmas.List.Elements.{All-from_recursion, All-contains}
use Rattle.tftp_loop.specs.Steps.{At_port, A_datagram, A_timeout, Work, Waited, Request_lost, Store_set, answering_port}
use Rattle.tftp_sockets.specs.Trace.{replied}

-- no datagram received
abbrev pub IsOther : SocketEvent → Type 0
IsOther (Received port from bytes) = ⊥
IsOther event = Unit {0}

-- a wait, or a receive without a datagram
abbrev pub IsQuiet : SocketEvent → Type 0
IsQuiet (Quiet event) = Unit {0}
IsQuiet event = ⊥

-- of these events, the newest first, none but the oldest is a datagram received
abbrev pub OldestOnly : SocketEvent → List SocketEvent → Type 0
OldestOnly e [] = Unit {0}
OldestOnly e (older ∷ events) = IsOther e × OldestOnly older events

-- what a step adds to a trace
pub data Adds (before after : List SocketEvent) : Type 0 where
  Silent : after ≡ before → Adds before after
  Notes : (e : SocketEvent) (events : List SocketEvent) → OldestOnly e events → after ≡ (e ∷ events) ++ before → Adds before after

-- what a step of a client adds: its events, after a wait
pub data AddsAfter (before after : List SocketEvent) : Type 0 where
  Rests : after ≡ before → AddsAfter before after
  Acts : (e : SocketEvent) (events waits : List SocketEvent) → OldestOnly e events → AllByRecursion IsQuiet waits →
      after ≡ (e ∷ events) ++ (waits ++ before) → AddsAfter before after

after_wait : {before after : List SocketEvent} (waits : List SocketEvent) → AllByRecursion IsQuiet waits →
    Adds (waits ++ before) after → AddsAfter before after
after_wait [] quiet (Silent same) = Rests same
after_wait (w ∷ waits) quiet (Silent same) = Acts w [] waits tt quiet.1 same
after_wait waits quiet (Notes e events own is) = Acts e events waits own quiet is

then_is : {before middle after : List SocketEvent} → Adds before middle → after ≡ middle → Adds before after
then_is (Silent same) is = Silent (is ∙ same)
then_is (Notes e events own same) is = Notes e events own (is ∙ same)

answer_adds : {before after : List SocketEvent} (port : ℕ) (reply : Option Reply) (e : SocketEvent) (events : List SocketEvent) →
    OldestOnly e events → after ≡ answered port reply ((e ∷ events) ++ before) → Adds before after
answer_adds port None e events own is = Notes e events own is
answer_adds port (Some reply) e events own is = Notes (Sent port reply.to reply.bytes) (e ∷ events) (tt, own) is

reply_adds : {before after : List SocketEvent} (port : ℕ) (to : Option Endpoint) (bytes : List ℕ) →
    after ≡ replied port to bytes before → Adds before after
reply_adds port None bytes is = Silent is
reply_adds port (Some to) bytes is = Notes (Sent port to bytes) [] tt is

module _ {S F D : Type 0} {stores : StoreMeaning S D} {sources : SourceMeaning F} where
  port_adds : {now : ℕ} {old new : PortState S F D} → PortStep stores sources now old new → Adds old.events new.events
  port_adds {old = old} (A_datagram r) =
      answer_adds old.timer.port r.handles.takes.takes.turn.reply (Received old.timer.port r.from r.bytes) [] tt
      r.handles.events
  port_adds {now = now} {old = old} (A_timeout r) =
      answer_adds old.timer.port (timeout_turn r.times_out.times_out.transfer.end).reply (Elapsed old.timer.port now) []
      tt r.times_out.events
  port_adds (Work r) = Silent r.events
  port_adds does = Notes _ [] tt (trace_is does)

  -- a step of the server
  pub server_adds : {old new : LoopState S F D} → LoopStep stores sources old new → Adds old.events new.events
  server_adds (Waited r) =
      Notes (Quiet (Woke r.ports)) (Quiet (Slept r.millis) ∷ Watched r.watch ∷ []) (tt, (tt, tt))
      (ap (λ (s : LoopState S F D). s.events) r.is)
  server_adds (At_port r) = then_is (port_adds r.does) (ap (λ (s : LoopState S F D). s.events) r.is)
  server_adds {old = old} (Request_answered r) =
      reply_adds (answering_port old.requests r.left.opened.tid) r.left.opened.to r.left.sent
      (ap (λ (s : LoopState S F D). s.events) r.is)
  server_adds (Request_lost r) = Silent (ap (λ (s : LoopState S F D). s.events) r.is)
  server_adds (Store_set r) = Silent (ap (λ (s : LoopState S F D). s.events) r.is)
  server_adds does = Notes _ [] tt (ap (λ (s : LoopState S F D). s.events) (state_is does))

  -- so its trace goes on
  pub step_adds : {old new : LoopState S F D} → LoopStep stores sources old new →
      (added : List SocketEvent) × (new.events ≡ added ++ old.events)
  step_adds does = elim (server_adds does) [
    | Silent same ↦ ([], same)
    | Notes e events own is ↦ (e ∷ events, is)
  ]

elapse_adds : {port : ℕ} {s next : State} → MayElapse port s next → Adds s.events next.events
elapse_adds (Stays why) = Silent refl
elapse_adds {port = port} {s = s} (Elapses due still) =
    answer_adds port (timeout_turn s.end).reply (Elapsed port s.now) [] tt refl

module _ {G K : Type 0} {inputs : SourceMeaning G} {outputs : SinkMeaning K} where
  handle_adds : {port : ℕ} {from : Endpoint} {bytes : List ℕ} {s : State} {files : Files G K} {next : State}
      {files' : Files G K} {before : List SocketEvent} →
      HandlesReceived inputs outputs port from bytes s files next files' → (e : SocketEvent) (events : List SocketEvent) →
      OldestOnly e events → s.events ≡ (e ∷ events) ++ before → Adds before next.events
  handle_adds {port = port} (Answers {turn} still step) e events own is =
      answer_adds port turn.reply e events own (ap (λ (es : List SocketEvent). answered port turn.reply es) is)
  handle_adds (Loses lost keeps) e events own is = Notes e events own is

  -- a step of a client
  pub client_adds : {port : ℕ} {s : State} {files : Files G K} {next : State} {files' : Files G K} →
      ClientDoes inputs outputs port s files next files' → AddsAfter s.events next.events
  client_adds {port = port} {s = s} (Receives_one {from = from} {bytes = bytes} {watch = watch} may later handles) =
      after_wait (Quiet (Slept (wait_at s)) ∷ []) (tt, tt)
      (handle_adds handles (Watched watch) (Received port from bytes ∷ []) (tt, tt) refl)
  client_adds {s = s} (Waits_until {event = event} {watch = watch} may which later) =
      Acts (Watched watch) [] (Quiet event ∷ Quiet (Slept (wait_at s)) ∷ []) tt (tt, (tt, tt)) refl
  client_adds (Times_out elapses) = after_wait [] tt (elapse_adds elapses)
  client_adds (File_works works) = Rests refl
  client_adds does = Acts _ [] [] tt tt refl

-- Traces of which only the older events are seen, so that the last step is seen in part.

-- the last step added `ahead ++ x ∷ rest`, of which what is seen of the trace has `x ∷ rest`
pub data Split (old_events events old_noted noted seen : List SocketEvent) : Type 0 where
  split : (ahead : List SocketEvent) (x : SocketEvent) (rest : List SocketEvent) → AllByRecursion IsOther ahead → OldestOnly x rest →
      events ≡ (ahead ++ x ∷ rest) ++ old_events → noted ≡ (ahead ++ x ∷ rest) ++ old_noted →
      seen ≡ x ∷ (rest ++ old_noted) → Split old_events events old_noted noted seen

pub no_more : {X : Type 0} {P : Type 0} (x : X) (xs : List X) → ◌≡◌ {A = List X} [] (x ∷ xs) → P
no_more x xs e = absurd (let n : 0 ≡ suc (length xs) = ap length e in omega (arith, n))

push_other : (ahead : List SocketEvent) (x : SocketEvent) → AllByRecursion IsOther ahead → IsOther x →
    AllByRecursion IsOther (ahead ++ x ∷ [])
push_other [] x others o = (o, tt)
push_other (y ∷ ahead) x others o = (others.0, push_other ahead x others.1 o)

-- one more event is no longer seen
pub step_back : {old_events events old_noted noted : List SocketEvent} (ahead : List SocketEvent) (x y : SocketEvent)
    (rest ev : List SocketEvent) → AllByRecursion IsOther ahead → OldestOnly x (y ∷ rest) →
    events ≡ (ahead ++ x ∷ (y ∷ rest)) ++ old_events → noted ≡ (ahead ++ x ∷ (y ∷ rest)) ++ old_noted →
    ev ≡ (y ∷ rest) ++ old_noted → Split old_events events old_noted noted ev
step_back {old_events} {events} {old_noted} {noted} ahead x y rest ev others own is noted_is seen =
    let moved = append_assoc ahead (x ∷ []) (y ∷ rest) in
    split (ahead ++ x ∷ []) y rest (push_other ahead x others own.0) own.1
    (is ∙ ap (λ (es : List SocketEvent). es ++ old_events) (sym moved)) (noted_is ∙ ap (λ (es : List SocketEvent). es ++ old_noted)
    (sym moved)) seen

-- what is seen was noted
pub split_in : {old_events events old_noted noted seen : List SocketEvent} (e : SocketEvent) →
    Split old_events events old_noted noted seen → Contains seen e → Contains noted e
split_in {old_noted = old_noted} e (split ahead x rest others own is noted_is seen_is) i =
    rw (noted_is ∙ append_assoc ahead (x ∷ rest) old_noted)
    (Contains-append_right ahead ((x ∷ rest) ++ old_noted) e (rw seen_is at i))

-- a datagram received in these events is the oldest of them
pub oldest_in : (ahead : List SocketEvent) (x : SocketEvent) (port : ℕ) (from : Endpoint) (bytes : List ℕ) →
    AllByRecursion IsOther ahead → Contains (ahead ++ x ∷ []) (Received port from bytes) → x ≡ Received port from bytes
oldest_in ahead x port from bytes others i = grind (arith, common_steps)

-- what is no wait is among the other events
pub past_waits : (waits events : List SocketEvent) (e : SocketEvent) → AllByRecursion IsQuiet waits → (IsQuiet e → ⊥) →
    Contains (waits ++ events) e → Contains events e
past_waits waits events e quiet other i = elim (Contains-append_cases waits events e i) [
  | inl early ↦ absurd (other (All-contains IsQuiet waits e (All-from_recursion IsQuiet waits quiet) early))
  | inr late ↦ late
]

pub before_waits : (events waits : List SocketEvent) (e : SocketEvent) → AllByRecursion IsQuiet waits → (IsQuiet e → ⊥) →
    Contains (events ++ waits) e → Contains events e
before_waits events waits e quiet other i = grind (arith, common_steps)

-- what a trace has after a step, past where it began
pub past : (added old_noted before old_events events noted : List SocketEvent) → events ≡ added ++ old_events →
    old_events ≡ old_noted ++ before → events ≡ noted ++ before → noted ≡ added ++ old_noted
past added old_noted before old_events events noted is old_is noted_is =
    grind (arith, common_steps, append_cancel_right)

-- nothing is noted by a trace that is where it began
pub at_first : (before events noted : List SocketEvent) → events ≡ before → events ≡ noted ++ before → noted ≡ []
at_first before events noted is noted_is = append_cancel_right noted [] before (sym noted_is ∙ is)

pub ends_with : {P : Type 0} (xs : List SocketEvent) (x : SocketEvent) → [] ≡ xs ++ x ∷ [] → P
ends_with [] x e = no_more x [] e
ends_with (y ∷ xs) x e = no_more y (xs ++ x ∷ []) e
