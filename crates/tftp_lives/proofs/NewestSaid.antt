-- The newest datagram of an end is one that it sent, and what it answers is that one or no OACK. For the law on why a
-- client ends (tftp_promises).
use Rattle.tftp_lives.proofs.Common.{List, ◌≡◌, ℕ, Some, None, inl, false, ◌∷◌, Option, refl, inr, ◌⊎◌, SinkMeaning}
use Rattle.tftp_lives.proofs.Common.{SourceMeaning, Files, datagram_action, EndState, Reply, Turn, after_turn, Acts}
use Rattle.tftp_lives.proofs.Common.{response_turn, timeout_turn, Response, Endpoint, Phase, Act, Took, newest, Said}
use Rattle.tftp_lives.proofs.Common.{with_reply, Timed, Has, Life, Opens, Hears, Loses, Times, rules, Action, Accept}
use Rattle.tftp_lives.proofs.Common.{DatagramStep}
use Rattle.tftp_ends.specs.Action.{timeout_response}
use Rattle.tftp_ends.specs.Run.{has_opcode}
use Rattle.tftp_ends.specs.Step.{AcksAgain}

-- an answer that is no OACK, or the newest datagram of the end
abbrev pub IsPlain : EndState → Option Reply → Type 0
IsPlain e None = Unit {0}
IsPlain e (Some reply) = (has_opcode 6 reply.bytes ≡ false) ⊎ (Said reply.to reply.bytes ≡ newest e)

-- the answer is this act
abbrev IsSaid : Option Reply → Act → Type 0
IsSaid None act = ⊥
IsSaid (Some reply) act = Said reply.to reply.bytes ≡ act

-- the newest datagram of the end is the same after a turn, or its answer
abbrev IsNewest : EndState → Turn → Type 0
IsNewest e turn = (newest (after_turn e turn) ≡ newest e) ⊎ IsSaid turn.reply (newest (after_turn e turn))

response_newest : (response : Response) (from : Endpoint) (e : EndState) → IsNewest e (response_turn response from e)
response_newest (Accept terms) from e = inr refl
response_newest response from e = inl refl

-- ---- a turn on a datagram
-- what is known of it
record Speaks (e : EndState) (turn : Turn) : Type 0 where
  newest_is : IsNewest e turn
  plain : IsPlain e turn.reply

module _ {S K : Type 0} (sources : SourceMeaning S) (sinks : SinkMeaning K) (from : Endpoint) (bytes : List ℕ)
    (e : EndState) where
  acts_speak : (action : Action) (files : Files S K) (turn : Turn) (files' : Files S K) →
      Acts sources sinks action from bytes e files turn files' → AcksAgain e turn action → Speaks e turn
  acts_speak action files turn files' acts again = search rules

  datagram_speaks : (turn : Turn) (files files' : Files S K) →
      DatagramStep sources sinks from bytes e files turn files' → Speaks e turn
  datagram_speaks turn files files' d = search (rules, acts_speak, datagram_action)

  -- what it answers
  pub datagram_plain : (turn : Turn) (files files' : Files S K) →
      DatagramStep sources sinks from bytes e files turn files' → IsPlain e turn.reply
  datagram_plain turn files files' d = (datagram_speaks turn files files' d).plain

plain_in : (e : EndState) (left : ℕ) (phase : Phase) →
    IsPlain e (response_turn (timeout_response left phase) e.position.last_sent_to e).reply
plain_in e left phase = search rules

pub timeout_plain : (e : EndState) → IsPlain e (timeout_turn e).reply
timeout_plain e = plain_in e e.position.retries_left e.position.phase

turn_said : (e : EndState) (turn : Turn) (acts : List Act) → IsNewest e turn → Has (newest e) acts →
    Has (newest (after_turn e turn)) (with_reply turn.reply acts)
turn_said e turn acts h3 h = search rules

pub newest_said : {S K : Type 0} (sources : SourceMeaning S) (sinks : SinkMeaning K) {first e : EndState}
    {acts : List Act} → Life sources sinks first acts e → Has (newest e) acts
newest_said sources sinks Opens = inl refl
newest_said sources sinks (Hears {acts} {e} {turn} {files} {files'} life still from bytes d) =
    turn_said e turn (Took from bytes ∷ acts) (datagram_speaks sources sinks from bytes e turn files files' d).newest_is
    (inr (newest_said sources sinks life))
newest_said sources sinks (Loses life still from bytes) = inr (newest_said sources sinks life)
newest_said sources sinks (Times {acts} {e} life still) =
    turn_said e (timeout_turn e) (Timed ∷ acts)
    (response_newest (timeout_response e.position.retries_left e.position.phase) e.position.last_sent_to e)
    (inr (newest_said sources sinks life))
