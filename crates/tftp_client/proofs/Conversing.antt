-- What a client does at an event, from the facts of its calls, and runs one after another.
use Rattle.tftp_client.proofs.Common.{arith, ◌≡◌, ◌≤◌, ℕ, List, Option, None, Result, Ok, Err, IsSome, inl, inr, refl}
use Rattle.tftp_client.proofs.Common.{subst, ◌∙◌, Packet, SinkMeaning, SourceMeaning, Files, datagram_action, Backoff}
use Rattle.tftp_client.proofs.Common.{EndState, outcome_of, Endpoint, Watch, Converses, IsOpen, MayElapse, IsReadBy}
use Rattle.tftp_client.proofs.Common.{State, Begins, Receives, Waits, Times, Rests, SocketEvent, waits}
use Rattle.std.proofs.Common.{IsErrOf, ◌↔◌}
use Rattle.std.proofs.Common.{option_map, rules}
use Rattle.tftp_ends.specs.Action.{Decodes}
use Rattle.tftp_ends.specs.Step.{Reply, UsesFile, reply_bytes}
use Rattle.tftp_ends.specs.declared.fault.EndFault.{EndFault}
use Rattle.tftp_ends.specs.declared.fault.EndFault.TheVariants.{Closed, Memory}
use Rattle.tftp_sockets.specs.Watch.{later_by}
use Rattle.tftp_client.specs.Converses.{IsLost}
use Rattle.tftp_client.specs.Converses.{watch_of}
use Rattle.tftp_sockets.specs.Trace.{answered, replied}

-- the answer that a call lends was sent to its destination
pub replies : (port : ℕ) (reply : Option Reply) {to : Option Endpoint} {bytes : List ℕ}
    {events before after : List SocketEvent}
    → after ≡ replied port to bytes events → to ≡ option_map (λ (r : Reply). r.to) reply → bytes ≡ reply_bytes reply
    → events ≡ before → after ≡ answered port reply before
replies port reply sent goes lends noted = search rules

-- a state with these fields is that state
pub state_is : {e e' : EndState} {now now' read read' due due' : ℕ} {backoff : Backoff} {events events' : List SocketEvent}
    → e ≡ e' → now ≡ now' → read ≡ read' → due ≡ due' → events ≡ events'
    → ◌≡◌ {A = State}
    (record { end = e; now = now; reading = read; deadline = due; backoff = backoff; events = events })
    (record { end = e'; now = now'; reading = read'; deadline = due'; backoff = backoff; events = events' })
state_is {backoff = backoff} p q o r t = search rules

-- the same, where the backoff is as it was
pub state_with : {b b' : Backoff} {e e' : EndState} {now now' read read' due due' : ℕ} {events events' : List SocketEvent}
    → b ≡ b' → e ≡ e' → now ≡ now' → read ≡ read' → due ≡ due' → events ≡ events'
    → ◌≡◌ {A = State} (record { end = e; now = now; reading = read; deadline = due; backoff = b; events = events })
    (record { end = e'; now = now'; reading = read'; deadline = due'; backoff = b'; events = events' })
state_with b p q o r t = search rules

-- a reading of the clock
pub read_by : (s : State) (watch : Watch) {time : ℕ} → watch.now ≡ time → time ≡ later_by (watch_of s) watch.reading
    → s.now ≤ time → IsReadBy s watch
read_by s watch {time} is by forward = record { time = is ∙ by; forward = omega (arith, is, forward) }

-- a call that succeeded was not refused
pub not_refused : {R F P : Type 0} (answer : R) (fault : F) → (IsErrOf {T = R} (Ok answer) fault ↔ P) → P → ⊥
not_refused {R} {F} answer fault refused p = let both : ◌≡◌ {A = Result R F} (Ok answer) (Err fault) = refused.1 p in cc

-- a datagram that was refused is lost
pub lost : {R : Type 0} (fault : EndFault) (from : Endpoint) (bytes : List ℕ) (e : EndState)
    → (IsErrOf {T = R} (Err fault) Closed ↔ IsSome (outcome_of e.position.phase))
    → (IsErrOf {T = R} (Err fault) Memory → (decoded : Option Packet) × Decodes bytes decoded
    × UsesFile (datagram_action e from bytes decoded))
    → IsLost from bytes e
lost Closed from bytes e closed memory = inl (closed.0 refl)
lost Memory from bytes e closed memory = inr (memory refl)

-- nor is a timeout
pub waits_elapsed : {port : ℕ} {s next : State} → MayElapse port s next → waits next.events ≡ waits s.events
waits_elapsed h0 = search rules

-- an end without an outcome is open
pub none_open : (e : EndState) → outcome_of e.position.phase ≡ None → IsOpen e
none_open e none = search rules

-- a timeout that was refused: the end is closed
pub is_closed : {R P : Type 0} (fault : EndFault) → (IsErrOf {T = R} (Err fault) Closed ↔ P)
    → (IsErrOf {T = R} (Err fault) Memory → ⊥) → P
is_closed Closed closed memory = closed.0 refl
is_closed Memory closed memory = absurd (memory refl)

module _ {S K : Type 0} {sources : SourceMeaning S} {sinks : SinkMeaning K} where
  -- what a client did until one state, and from there on
  pub onward : {port : ℕ} {first : State} {file : Files S K} {s : State} {files : Files S K} {next : State}
      {files' : Files S K}
      → Converses sources sinks port first file s files → Converses sources sinks port s files next files'
      → Converses sources sinks port first file next files'
  onward before Begins = before
  onward before (Receives run may time answers) = Receives (onward before run) may time answers
  onward before (Waits run may is time) = Waits (onward before run) may is time
  onward before (Times run elapses) = Times (onward before run) elapses
  onward before (Rests run works) = Rests (onward before run) works

  -- the same, if the socket of the second has the port of the first
  pub onward_at : {port port' : ℕ} {first : State} {file : Files S K} {s : State} {files : Files S K} {next : State}
      {files' : Files S K}
      → Converses sources sinks port first file s files → port' ≡ port
      → Converses sources sinks port' s files next files'
      → Converses sources sinks port first file next files'
  onward_at {s = s} {files = files} {next = next} {files' = files'} before same after =
      let Of : ℕ → Type 0 = λ p. Converses sources sinks p s files next files' in onward before (subst Of same after)
