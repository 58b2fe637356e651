-- What a step of a server's end sends, and to whom.
-- For Reflecting and Leaving.
use Rattle.tftp_loop.proofs.Common.{◌≡◌, ◌≤◌, ◌&&◌, ◌⊎◌, ℕ, Bool, true, false, List, Option, Some, None, refl, ap, ◌∙◌}
use Rattle.tftp_loop.proofs.Common.{inl, inr, if◌then◌else◌, nat_lt, ⊤, has_error_opcode, Mode, Packet, SourceMeaning}
use Rattle.tftp_loop.proofs.Common.{SinkMeaning, Files, Source, datagram_action, EndState, Position, Acts, DatagramStep}
use Rattle.tftp_loop.proofs.Common.{Reply, Turn, response_turn, timeout_turn, Action, Respond, Send, Store, Response}
use Rattle.tftp_loop.proofs.Common.{Retransmit, Close, Endpoint, Fresh, Phase, Waiting, Sending, Receiving, Dallying}
use Rattle.tftp_loop.proofs.Common.{Closed, Terms, An_ack, A_block}
use Rattle.std.proofs.Common.{rules}
use Rattle.std.specs.Prelude.{◌==◌, is_none, length}
use Rattle.tftp_wire.specs.declared.packet.Packet.TheVariants as packets
use Rattle.tftp_ends.specs.Action.{garbled_response, is_wrong_peer, packet_action, timeout_response}
use Rattle.tftp_ends.specs.End.{terms_of}
use Rattle.tftp_ends.specs.Phase.{waited}
use Rattle.tftp_ends.specs.Receiver.{dally_response, next_action, receiver_action}
use Rattle.tftp_ends.specs.Sender.{sender_action}
use Rattle.tftp_ends.specs.Step.{after, holding, reply_at}
use Rattle.tftp_ends.specs.Text.{is_readable}
use Rattle.tftp_ends.specs.declared.action.Response.TheVariants.{Ignore, WrongPeer, ResendReply, Wait}
use Rattle.tftp_ends.specs.declared.action.Response.TheVariants.{Refuse, Accept, Complete as Completes}
use Rattle.tftp_ends.specs.declared.error_reply.ErrorReply.TheVariants as replies
use Rattle.tftp_loop.specs.Leaving.{IsSaid, An_error}
use Rattle.tftp_loop.proofs.EndSteps.{Acknowledges, Gives, Gives_up, Makes, Responds, acts_make}

-- what holds of both cases of a test
pub either : {A : Type 0} (P : A → Type 0) (b : Bool) {one two : A} → P one → P two → P (if b then one else two)
either P true h k = h
either P false h k = k

-- ---- an answer
-- nothing is sent, or a datagram that may be, to this endpoint
abbrev pub SendsTo : (List ℕ → Type 0) → Endpoint → Option Reply → Type 0
SendsTo IsGiven to None = ⊤
SendsTo IsGiven to (Some reply) = (reply.to ≡ to) × IsSaid IsGiven reply.bytes

-- no block may be sent
abbrev pub NoBlock : List ℕ → Type 0
NoBlock piece = ⊥

-- the block sizes with which the end may send are such
module _ (Fits : ℕ → Type 0) where
  -- ---- the peer of an end
  -- the end is a server's, and open with this peer, or it has closed
  abbrev pub IsWith : Endpoint → Phase → Type 0
  IsWith peer (Waiting asked limit) = ⊥
  IsWith peer (Sending terms number) = (terms.peer ≡ peer) × Fits terms.size
  IsWith peer (Receiving terms number) = terms.peer ≡ peer
  IsWith peer (Dallying terms number dally) = terms.peer ≡ peer
  IsWith peer (Closed terms number complete outcome) = ⊤

  -- an action is for this peer
  abbrev RespondsTo : Endpoint → Response → Type 0
  RespondsTo peer (Accept terms) = terms.peer ≡ peer
  RespondsTo peer response = ⊤

  abbrev ActsFor : Endpoint → Action → Type 0
  ActsFor peer (Respond response) = RespondsTo peer response
  ActsFor peer (Send terms number) = (terms.peer ≡ peer) × Fits terms.size
  ActsFor peer (Store terms number) = terms.peer ≡ peer

  module _ (peer : Endpoint) where
    sender_for : (client : Bool) (count : ℕ) (terms : Terms) (n : ℕ) (decoded : Option Packet)
        → (terms.peer ≡ peer) × Fits terms.size → ActsFor peer (sender_action client count terms n decoded)
    sender_for client count terms n decoded is = search rules

    next_for : (mode : Mode) (held : List ℕ) (terms : Terms) (n : ℕ) (piece : List ℕ) → terms.peer ≡ peer
        → ActsFor peer (next_action mode held terms n piece)
    next_for mode held terms n piece is =
        either (ActsFor peer) (nat_lt terms.size (length piece)) tt
        (either (ActsFor peer) (n == 65535 && (length piece == terms.size)) tt
        (either (ActsFor peer) (is_readable mode held piece (nat_lt (length piece) terms.size)) is tt))

    receiver_for : (client : Bool) (mode : Mode) (held : List ℕ) (terms : Terms) (n : ℕ) (decoded : Option Packet)
        → terms.peer ≡ peer → ActsFor peer (receiver_action client mode held terms n decoded)
    receiver_for client mode held terms n decoded is = search (rules, either, nat_lt, next_for)

    dally_for : (n : ℕ) (decoded : Option Packet) → RespondsTo peer (dally_response n decoded)
    dally_for n decoded = search rules

    garbled_for : (phase : Phase) → RespondsTo peer (garbled_response phase)
    garbled_for (Waiting asked limit) = tt
    garbled_for phase = tt

    packet_for : (e : EndState) (from : Endpoint) (decoded : Option Packet) (phase : Phase) → IsWith peer phase
        → ActsFor peer (packet_action e from decoded phase)
    packet_for e from decoded phase is = search (rules, sender_for, receiver_for, dally_for)

  -- ---- whom a test of the peer admits
  -- the action is that of a datagram of a third party, which has no effect, or of a closed end; or the datagram is of
  -- the peer
  data Handles (peer from : Endpoint) (action : Action) : Type 0 where
    Ignored : action ≡ Respond Ignore → Handles peer from action
    Refused : action ≡ Respond WrongPeer → Handles peer from action
    Taken : from ≡ peer → ActsFor peer action → Handles peer from action

  by_tests : (peer from : Endpoint) (wrong error garbled : Bool) (response : Response) (action : Action)
      → (wrong ≡ false → Handles peer from (Respond response)) → (wrong ≡ false → Handles peer from action)
      → Handles peer from (if wrong then (if error then Respond Ignore else Respond WrongPeer)
      else if garbled then Respond response else action)
  by_tests peer from wrong error garbled response action h k = search rules

  module _ (peer from : Endpoint) where
    -- a datagram that passes the test of the peer
    passes : (e : EndState) (decoded : Option Packet) (phase : Phase) (action : Action) → IsWith peer phase
        → (action ≡ Respond (garbled_response phase)) ⊎ (action ≡ packet_action e from decoded phase)
        → ActsFor peer action → is_wrong_peer (terms_of phase) e.position.last_sent_to from ≡ false
        → Handles peer from action
    passes e decoded phase action is chosen for test = search rules

    handles : (e : EndState) (bytes : List ℕ) (decoded : Option Packet) → IsWith peer e.position.phase
        → Handles peer from (datagram_action e from bytes decoded)
    handles e bytes decoded is =
        let phase = e.position.phase in
        by_tests _ _ _ (has_error_opcode bytes) (has_error_opcode bytes && is_none decoded) _ _ (passes e decoded phase
        (Respond (garbled_response phase)) is (inl refl) (garbled_for peer phase)) (passes e decoded phase
        (packet_action e from decoded phase) is (inr refl) (packet_for peer e from decoded phase is))

  -- ---- what is sent
  module _ (IsGiven : List ℕ → Type 0) where
    -- the end is with this peer, to which its newest datagram went, and that may be sent
    pub record IsAt (peer : Endpoint) (position : Position) : Type 0 where
      pub to : position.last_sent_to ≡ peer
      pub with_peer : IsWith peer position.phase
      pub said : IsSaid IsGiven position.last_sent

    pub record Answers (peer : Endpoint) (turn : Turn) : Type 0 where
      pub sends : SendsTo IsGiven peer turn.reply
      pub position : IsAt peer turn.position

    waited_with : (peer : Endpoint) (phase : Phase) → IsWith peer phase → IsWith peer (waited phase)
    waited_with peer (Dallying terms number dally) is = is
    waited_with peer phase is = is

    module _ (from : Endpoint) (e : EndState) (at : IsAt from e.position) where
      -- at another position where the same was sent
      entered : (phase : Phase) (left : ℕ) (held : List ℕ) → IsWith from phase
          → IsAt from (record e.position { phase = phase; retries_left = left; held_back = held })
      entered phase left held is = record { to = at.to; with_peer = is; said = at.said }

      responds : (response : Response) → RespondsTo from response → Answers from (response_turn response from e)
      responds Ignore for = record { sends = tt; position = at }
      responds WrongPeer for = record { sends = (refl, An_error replies.UnknownTransferId refl); position = at }
      responds ResendReply for = record { sends = (refl, at.said); position = at }
      responds Retransmit for = record { sends = (at.to, at.said); position = entered _ _ _ at.with_peer }
      responds Wait for = record {
        sends = tt;
        position = entered _ _ _ (waited_with from e.position.phase at.with_peer);
      }
      responds (Close outcome) for = record { sends = tt; position = entered _ _ _ tt }
      responds (Refuse terms reply outcome) for =
          record { sends = (refl, An_error reply refl); position = entered _ _ _ tt }
      responds (Accept terms) for = record {
        sends = (refl, An_ack 0 refl);
        position = record { to = refl; with_peer = for; said = An_ack 0 refl };
      }
      responds Completes for = record { sends = tt; position = entered _ _ _ tt }

    module _ {S K : Type 0} (sources : SourceMeaning S) where
      -- what the source gives may be sent
      abbrev pub GivesOnly : Files S K → Files S K → Type 0
      GivesOnly files files' =
          (source source' : S) (piece : List ℕ) (size : ℕ) → files ≡ Source source → files' ≡ Source source'
          → sources.gives source piece source' → Fits size → length piece ≤ size → IsGiven piece

    with_peer_in : (peer : Endpoint) (terms : Terms) (number : ℕ) (phase : Phase) → terms.peer ≡ peer
        → (phase ≡ Receiving terms number) ⊎ (phase ≡ Dallying terms number Fresh) → IsWith peer phase
    with_peer_in peer terms number phase is one = search rules

    module _ {S K : Type 0} {sources : SourceMeaning S} {from : Endpoint} {e : EndState} {turn : Turn} {action : Action}
        {files files' : Files S K} where
      acts_so : IsAt from e.position → ActsFor from action → GivesOnly sources files files'
          → Makes sources from e turn action files files' → Answers from turn
      acts_so at for gives (Responds response acts is) = rw is (responds from e at response (rw acts at for))
      acts_so at for gives (Gives terms number source source' piece acts was now gave long is) =
          let own : (terms.peer ≡ from) × Fits terms.size = rw acts at for in
          let said = A_block number piece refl (gives source source' piece terms.size was now gave own.1 long) in
          rw is (record { sends = (refl, said); position = record { to = refl; with_peer = own; said = said } })
      acts_so at for gives (Acknowledges terms number held phase acts which is) =
          let own : terms.peer ≡ from = rw acts at for in
          rw is (record {
            sends = (refl, An_ack number refl);
            position = record {
              to = refl;
              with_peer = with_peer_in from terms number phase own which;
              said = An_ack number refl;
            };
          })
      acts_so at for gives (Gives_up terms reply outcome held is) =
          rw is (responds from (holding held e) (entered from e at _ _ _ at.with_peer) (Refuse (Some terms) reply
          outcome) tt)

    -- ---- a datagram
    -- its sender is answered by an ERROR or not at all, and nothing changes; or it is the peer
    pub data AnswersOne (from : Endpoint) (e : EndState) (turn : Turn) : Type 0 where
      To_other : turn.position ≡ e.position → SendsTo NoBlock from turn.reply → AnswersOne from e turn
      To_peer : from ≡ e.position.last_sent_to → Answers from turn → AnswersOne from e turn

    other_so : (from : Endpoint) (e : EndState) (turn : Turn) (response : Response) → turn ≡ response_turn response from e
        → after response from e ≡ e.position → SendsTo NoBlock from (reply_at response from e) → AnswersOne from e turn
    other_so from e turn response is same sends =
        To_other (ap (λ (t : Turn). t.position) is ∙ same) (rw is sends)

    module _ {S K : Type 0} (sources : SourceMeaning S) (sinks : SinkMeaning K) (from : Endpoint) (bytes : List ℕ)
        (e : EndState) (turn : Turn) (files files' : Files S K) where
      action_so : (action : Action) → IsAt e.position.last_sent_to e.position
          → GivesOnly sources files files'
          → Acts sources sinks action from bytes e files turn files' → Handles e.position.last_sent_to from action
          → AnswersOne from e turn
      action_so action at gives h (Ignored is) = other_so from e turn Ignore (rw is at h).0 refl tt
      action_so action at gives h (Refused is) =
          other_so from e turn WrongPeer (rw is at h).0 refl (refl, An_error replies.UnknownTransferId refl)
      action_so action at gives h (Taken is for) =
          To_peer is (acts_so (rw is at) (rw is for) gives (acts_make _ _ _ _ e _ _ _ _ h))

    module _ {S K : Type 0} {sources : SourceMeaning S} {sinks : SinkMeaning K} {from : Endpoint} {bytes : List ℕ}
        {e : EndState} {turn : Turn} {files files' : Files S K} where
      pub datagram_answers : IsAt e.position.last_sent_to e.position
          → GivesOnly sources files files'
          → DatagramStep sources sinks from bytes e files turn files' → AnswersOne from e turn
      datagram_answers at gives steps =
          action_so sources sinks from bytes e turn files files' (datagram_action e from bytes steps.decoded) at gives
          steps.acts
          (handles e.position.last_sent_to from e bytes steps.decoded at.with_peer)

    -- ---- a timeout
    timeout_for : (peer : Endpoint) (left : ℕ) (phase : Phase) → RespondsTo peer (timeout_response left phase)
    timeout_for peer left phase = search rules

    pub timeout_answers : (e : EndState) → IsAt e.position.last_sent_to e.position
        → Answers e.position.last_sent_to (timeout_turn e)
    timeout_answers e at = search (rules, responds, timeout_for)
