-- A turn that sends an ERROR to its peer closes the end, because its store refused.
-- For ErrorsKnown and ErrorsHeard.
use Rattle.tftp_player.proofs.Common.{◌≡◌, ℕ, Bool, true, false, List, Option, Some, arith, rules, Packet, Error}
use Rattle.tftp_player.proofs.Common.{Action, Respond, Response, Terms, EndState, terms_of, is_wrong_peer}
use Rattle.tftp_player.proofs.Common.{datagram_action, ack_bytes, data_bytes, Endpoint, Blames, MayTake, datagram_takes}
use Rattle.tftp_player.proofs.Common.{WrongPeer, Refuse, None, refl, ◌≢◌, StoreFault, Retransmit, DiskFull, Outcome}
use Rattle.tftp_player.proofs.Common.{Fresh, Phase, Sending, Receiving, Dallying, outcome_of, Position}
use Rattle.tftp_player.proofs.Common.{timeout_response, Turn, Reply, AcksAgain, holding, response_turn, sent_turn}
use Rattle.tftp_player.proofs.Common.{refused_turn, commit_reply, error_bytes, At_server, Elsewhere, peer_of, TurnBy}
use Rattle.tftp_player.proofs.Common.{Responds, Sends_data, Has_stored, Full, UnknownTransferId, host_of}
use Rattle.tftp_ends.specs.declared.action.Response.TheVariants.{Close}
use Rattle.tftp_ends.specs.declared.outcome.Outcome.TheVariants as outcomes
use Rattle.tftp_player.proofs.SentAgain.{second}
use Rattle.tftp_ends.specs.declared.error_reply.ErrorReply.TheVariants.{FileChanged}
use Rattle.tftp_player.proofs.Blameless.{Blameless}
use Rattle.tftp_rules.proofs.TurnCases.{Cannot_read, Has_all, Cannot_append, Cannot_commit}

-- the bytes of an ERROR
abbrev pub IsErr : List ℕ → Type 0
IsErr bytes = second bytes ≡ 5

-- DATA is no ERROR
pub no_data : (n : ℕ) (piece : List ℕ) → IsErr (data_bytes n piece) → ⊥
no_data n piece e = let z : ◌≡◌ {A = ℕ} 3 5 = e in omega (arith, z)

-- an ACK is no ERROR
pub no_ack : (n : ℕ) → IsErr (ack_bytes n) → ⊥
no_ack n e = let z : ◌≡◌ {A = ℕ} 4 5 = e in omega (arith, z)

-- the packet is an ERROR of this code
abbrev pub IsErrorOf : ℕ → Option Packet → Type 0
IsErrorOf code decoded = (text : List ℕ) × (decoded ≡ Some (Error code text))

-- ---- what an action says of the datagram that it is for
module _ (known : Option Terms) (wrong : Bool) (decoded : Option Packet) where
  -- why this response sends an ERROR, or closes because of one
  abbrev pub Tells : Response → Type 0
  Tells (Close outcome) =
      (t : Terms) → known ≡ Some t → (code : ℕ) → outcome ≡ outcomes.PeerError code →
      (wrong ≡ false) × IsErrorOf code decoded
  Tells (Refuse terms reply outcome) = Blames outcome
  Tells WrongPeer = wrong ≡ true
  Tells response = Unit {0}

  -- the same of an action
  abbrev pub TellsBy : Action → Type 0
  TellsBy (Respond response) = Tells response
  TellsBy action = Unit {0}

  tells : (from : Endpoint) (action : Action) → MayTake known from decoded wrong action → TellsBy action
  tells from action h2 = search rules

-- so it is of the action on each datagram
pub datagram_tells : (e : EndState) (from : Endpoint) (bytes : List ℕ) (decoded : Option Packet) →
    TellsBy (terms_of e.position.phase) (is_wrong_peer (terms_of e.position.phase) e.position.last_sent_to from) decoded
    (datagram_action e from bytes decoded)
datagram_tells e from bytes decoded = tells _ _ _ _ _ (datagram_takes e from bytes decoded)

-- the bytes of the ERROR for a fault of a store
abbrev pub IsRefusal : List ℕ → Type 0
IsRefusal bytes = (fault : StoreFault) × (bytes ≡ error_bytes (commit_reply fault))

-- ---- an end that has sent an ERROR of these bytes there, in this position
-- the end has sent its peer this ERROR
abbrev pub ToldAt : Position → Endpoint → List ℕ → Type 0
ToldAt position to bytes =
    (peer_of position.phase ≡ Some to → host_of to ≢ Elsewhere →
    (outcome_of position.phase ≡ Some outcomes.StoreFault) × IsRefusal bytes)
    × (peer_of position.phase ≡ None → outcome_of position.phase ≡ None → host_of to ≢ At_server)

-- so it is after a turn that sends one
abbrev pub Answers : Turn → Type 0
Answers turn = Blameless turn.position → (r : Reply) → turn.reply ≡ Some r → IsErr r.bytes →
    ToldAt turn.position r.to r.bytes

-- a reply that is no ERROR
harmless : (turn : Turn) (to : Endpoint) (bytes : List ℕ) → turn.reply ≡ Some (record { to = to; bytes = bytes }) →
    (IsErr bytes → ⊥) → Answers turn
harmless turn to bytes has none b r is e = search rules

-- a turn that closes because the store refused
refuses_as : (turn : Turn) (fault : StoreFault) (to : Endpoint) →
    turn.reply ≡ Some (record { to = to; bytes = error_bytes (commit_reply fault) }) →
    outcome_of turn.position.phase ≡ Some outcomes.StoreFault → Answers turn
refuses_as turn fault to has closed b r is e = search rules

-- a turn that closes by blaming
blames_as : (turn : Turn) (outcome : Outcome) → outcome_of turn.position.phase ≡ Some outcome → Blames outcome →
    Answers turn
blames_as turn outcome closed blames b r is e = search rules

-- of a datagram: `stranger` if it is from a wrong peer, `before` if the answer is the newest datagram again
module _ (from : Endpoint) (e : EndState) (wrong : Bool) (decoded : Option Packet)
    (stranger : wrong ≡ true → ToldAt e.position from (error_bytes UnknownTransferId))
    (before : IsErr e.position.last_sent → ToldAt e.position e.position.last_sent_to e.position.last_sent) where
  response_answers : (response : Response) → Tells (terms_of e.position.phase) wrong decoded response →
      AcksAgain e (response_turn response from e) (Respond response) → Answers (response_turn response from e)
  response_answers response t a = search rules

  -- a turn on a datagram that sends an ERROR is one of those
  pub turn_answers : (action : Action) (turn : Turn) → TellsBy (terms_of e.position.phase) wrong decoded action →
      AcksAgain e turn action → TurnBy from e action turn → Answers turn
  turn_answers action turn t again (Responds response) = response_answers response t again
  turn_answers action turn t again (Sends_data terms n piece) =
      harmless (sent_turn (Sending terms n) from (data_bytes n piece) e) from (data_bytes n piece) refl (no_data n piece)
  turn_answers action turn t again (Cannot_read terms n) =
      blames_as (refused_turn terms FileChanged outcomes.SourceFault from e) outcomes.SourceFault refl tt
  turn_answers action turn t again (Has_stored terms n after positive) =
      harmless (sent_turn (Receiving terms n) from (ack_bytes n) (holding after e)) from (ack_bytes n) refl (no_ack n)
  turn_answers action turn t again (Has_all terms n after) =
      harmless (sent_turn (Dallying terms n Fresh) from (ack_bytes n) (holding after e)) from (ack_bytes n) refl
      (no_ack n)
  turn_answers action turn t again (Cannot_append terms n) =
      refuses_as (refused_turn terms DiskFull outcomes.StoreFault from e) Full from refl refl
  turn_answers action turn t again (Cannot_commit terms n after fault) =
      refuses_as (refused_turn terms (commit_reply fault) outcomes.StoreFault from (holding after e)) fault from refl refl

-- ---- a timeout
module _ (e : EndState)
    (before : IsErr e.position.last_sent → ToldAt e.position e.position.last_sent_to e.position.last_sent) where
  abbrev again : Turn
  again = response_turn Retransmit e.position.last_sent_to e

  -- and a timeout, which sends the newest datagram again
  pub timeout_answers : (left : ℕ) (phase : Phase) →
      Answers (response_turn (timeout_response left phase) e.position.last_sent_to e)
  timeout_answers left phase = search rules
