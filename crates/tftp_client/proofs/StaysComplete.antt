-- An end that is complete stays so, and moves nothing.
use Rattle.std.proofs.Common.{rules}
use Rattle.tftp_client.proofs.Common.{◌≡◌, ℕ, true, List, Option, refl, sym, ◌∙◌, subst, Packet, SinkMeaning}
use Rattle.tftp_client.proofs.Common.{SourceMeaning, Files, Action, Respond, Send, Store, Response, Accept, Endpoint}
use Rattle.tftp_client.proofs.Common.{datagram_action, EndState, is_complete, Acts, Turn, after_turn, SocketEvent}
use Rattle.tftp_client.proofs.Common.{Converses, HandlesReceived, MayElapse, State, Begins, Receives, Waits, Times}
use Rattle.tftp_client.proofs.Common.{Rests, Answers, Loses, Moved, acts_move, handling_moves, nothing_moved, run_moves}
use Rattle.tftp_ends.specs.declared.outcome.Outcome.TheVariants as outcomes
use Rattle.tftp_client.specs.Runs.{Dallies}

-- a response that begins no transfer
abbrev pub BeginsNone : Response → Type 0
BeginsNone (Accept terms) = ⊥
BeginsNone _ = Unit {0}

-- an action that is such a response
abbrev pub OnlyResponds : Action → Type 0
OnlyResponds (Respond response) = BeginsNone response
OnlyResponds (Send terms number) = ⊥
OnlyResponds (Store terms number) = ⊥

pub at_datagram : (e : EndState) (from : Endpoint) (bytes : List ℕ) (decoded : Option Packet)
    → is_complete e.position.phase ≡ true → OnlyResponds (datagram_action e from bytes decoded)
at_datagram e from bytes decoded done = search rules

abbrev pub IsDone : EndState → Type 0
IsDone e = is_complete e.position.phase ≡ true

module _ {S K : Type 0} (sources : SourceMeaning S) (sinks : SinkMeaning K) where
  acts : (action : Action) (from : Endpoint) (bytes : List ℕ) (e : EndState) (files : Files S K) (turn : Turn)
      (files' : Files S K) (moved : Moved) → OnlyResponds action → IsDone e
      → (a : Acts sources sinks action from bytes e files turn files')
      → IsDone (after_turn e turn) × (acts_move sources sinks action from bytes e files turn files' a moved ≡ moved)
  acts action from bytes e files turn files' moved only done a = search rules

  pub handles : {port : ℕ} {from : Endpoint} {bytes : List ℕ} {s : State} {files : Files S K} {next : State}
      {files' : Files S K} (moved : Moved) (h : HandlesReceived sources sinks port from bytes s files next files')
      → IsDone s.end → IsDone next.end × (handling_moves h moved ≡ moved)
  handles {from = from} {bytes = bytes} {s = s} {files = files} moved (Answers {turn} {files'} is_open step) done =
      acts (datagram_action s.end from bytes step.decoded) from bytes s.end files turn files' moved
      (at_datagram s.end from bytes step.decoded done) done step.acts
  handles moved (Loses lost keeps) done = (done, refl)

  pub elapses : {port : ℕ} {s next : State} → MayElapse port s next → IsDone s.end → IsDone next.end
  elapses h0 done = search rules

  converses : {port : ℕ} {first : State} {file : Files S K} {s : State} {files : Files S K} (moved : Moved)
      (run : Converses sources sinks port first file s files)
      → IsDone first.end → IsDone s.end × (run_moves run moved ≡ moved)
  converses moved Begins done = (done, refl)
  converses moved (Receives run may time answers) done =
      let before = converses moved run done in
      let now = handles (run_moves run moved) answers.handles before.0 in
      (subst (λ (s : State). IsDone s.end) (sym answers.is) now.0, now.1 ∙ before.1)
  converses moved (Waits run may is time) done = converses moved run done
  converses moved (Times run elapsed) done =
      let before = converses moved run done in (elapses elapsed before.0, before.1)
  converses moved (Rests run work) done = converses moved run done

  -- what a complete client did from its line on
  pub stays_complete : {port : ℕ} {first : State} {file : Files S K} {after : List SocketEvent}
      (stays : Dallies sources sinks port first file after) → IsDone first.end → IsDone stays.last.end
  stays_complete stays done = (converses nothing_moved stays.converses done).0

  pub moves_nothing : {port : ℕ} {first : State} {file : Files S K} {after : List SocketEvent}
      (stays : Dallies sources sinks port first file after) → IsDone first.end → (moved : Moved)
      → run_moves stays.converses moved ≡ moved
  moves_nothing stays done moved = (converses moved stays.converses done).1
