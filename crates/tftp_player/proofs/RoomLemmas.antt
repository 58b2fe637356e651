-- The datagram of a turn fits the capacity that was reserved before it. For `Client::on_datagram` and
-- ServedLemmas.
use Rattle.tftp_player.proofs.Common.{◌≡◌, ◌≤◌, ℕ, Bool, true, false, List, [], ◌∷◌, length, Option, Some, None, Result}
use Rattle.tftp_player.proofs.Common.{Ok, Err, sym, subst, arith, rules, ◌+◌, ◌*◌, nat_lt, is_some, option_map}
use Rattle.tftp_player.proofs.Common.{if◌then◌else◌, Mode, Packet, Ack, Oack, size, agreement, Asked, Known, Blksize}
use Rattle.tftp_player.proofs.Common.{DEFAULT_BLOCK, Refusal, Files, Source, Sink, Action, Respond, Send, Store}
use Rattle.tftp_player.proofs.Common.{Response, Retransmit, Phase, Terms, packet_action, datagram_action, EndState}
use Rattle.tftp_player.proofs.Common.{record_of, size_of, terms_of, AreFilesOf, receiver_action, next_action, Turn}
use Rattle.tftp_player.proofs.Common.{DatagramStep, Acts, AcksAgain, reply_bytes, reader_action, writer_action}
use Rattle.tftp_player.proofs.Common.{accept_action, begin_action, begin_with_action, default_terms, answer_room}
use Rattle.tftp_player.proofs.Common.{AllByRecursion, dally_response, refusal_action, AgreesWithin, Endpoint}
use Rattle.std.proofs.Common.{◌==◌, max}
use Rattle.tftp_wire.specs.declared.limits.TheConstants.{HEADER}
use Rattle.tftp_negotiate.specs.Laws.{IsWithinAsked}
use Rattle.tftp_negotiate.specs.declared.known.Kind.TheVariants as kinds
use Rattle.tftp_negotiate.proofs.LawsLemmas.{takes_nothing_unasked}
use Rattle.tftp_file.specs.Source.{SourceMeaning}
use Rattle.tftp_file.specs.Sink.{SinkMeaning}
use Rattle.tftp_ends.specs.declared.reply.TheConstants.{MAX_ERROR}
use Rattle.tftp_ends.specs.Action.{garbled_response}
use Rattle.tftp_ends.specs.Sender.{sender_action}
use Rattle.tftp_player.specs.Room.{block_within, largest_block}

-- ---- what an action may send
-- it is no retransmission
abbrev IsNew : Response → Type 0
IsNew Retransmit = ⊥
IsNew response = Unit {0}

module _ (most : ℕ) where
  -- its block has at most this size
  abbrev Fits : Action → Type 0
  Fits (Respond response) = IsNew response
  Fits (Send terms number) = terms.size ≤ most
  Fits (Store terms number) = Unit {0}

  either : (b : Bool) (one two : Action) → Fits one → Fits two → Fits (if b then one else two)
  either true one two h k = h
  either false one two h k = k

  sender_fits : (client : Bool) (count : ℕ) (terms : Terms) (n : ℕ) (decoded : Option Packet) → terms.size ≤ most →
      Fits (sender_action client count terms n decoded)
  sender_fits client count terms n decoded w = search rules

  next_fits : (mode : Mode) (held : List ℕ) (terms : Terms) (n : ℕ) (piece : List ℕ) →
      Fits (next_action mode held terms n piece)
  next_fits mode held terms n piece = search (rules, either)

  receiver_fits : (client : Bool) (mode : Mode) (held : List ℕ) (terms : Terms) (n : ℕ) (decoded : Option Packet) →
      Fits (receiver_action client mode held terms n decoded)
  receiver_fits client mode held terms n decoded = search (rules, either, next_fits)

  dally_new : (n : ℕ) (decoded : Option Packet) → IsNew (dally_response n decoded)
  dally_new n decoded = search rules

  garbled_new : (phase : Phase) → IsNew (garbled_response phase)
  garbled_new phase = search rules

  -- ---- a client that waits for its first answer
  default_within : (blksize : Option ℕ) → DEFAULT_BLOCK ≤ largest_block blksize
  default_within None = omega arith
  default_within (Some size) = omega arith

  asked_within : (blksize : Option ℕ) (n one : ℕ) → blksize ≡ Some one → n ≤ one → n ≤ largest_block blksize
  asked_within blksize n one is l = subst (λ (o : Option ℕ). n ≤ largest_block o) (sym is) (omega (arith, l))

  agreed_within : (asked : Asked) (mode : Mode) (limit : ℕ) (known : List Known) →
      AllByRecursion (IsWithinAsked asked kinds.Write mode limit) known → size known ≤ largest_block asked.blksize
  agreed_within asked mode limit [] h = default_within asked.blksize
  agreed_within asked mode limit (Blksize n ∷ known) h = asked_within asked.blksize n h.0.1 h.0.2 h.0.3
  agreed_within asked mode limit (other ∷ known) h = agreed_within asked mode limit known h.1

  refusal_fits : (refusal : Refusal) → Fits (refusal_action refusal)
  refusal_fits refusal = search rules

  accept_fits : (from : Endpoint) (answer : Result (List Known) Refusal) → Fits (accept_action from answer)
  accept_fits from (Ok agreed) = tt
  accept_fits from (Err refusal) = refusal_fits refusal

  begin_fits : (count : ℕ) (terms : Terms) → terms.size ≤ most → Fits (begin_action count terms)
  begin_fits count terms w = either (nat_lt count (65535 * terms.size)) _ _ w tt

  begin_with_fits : (from : Endpoint) (count : ℕ) (answer : Result (List Known) Refusal) →
      ((known : List Known) → answer ≡ Ok known → size known ≤ most) → Fits (begin_with_action from count answer)
  begin_with_fits from count answer w = search rules

  reader_fits : (mode : Mode) (asked : Asked) (limit : ℕ) (from : Endpoint) (decoded : Option Packet) →
      Fits (reader_action mode asked limit from decoded)
  reader_fits mode asked limit from decoded = search (rules, either, receiver_fits, accept_fits)

  writer_fits : (mode : Mode) (asked : Asked) (limit count : ℕ) (from : Endpoint) (decoded : Option Packet) →
      largest_block asked.blksize ≤ most → Fits (writer_action mode asked limit count from decoded)
  writer_fits mode asked limit count from (Some (Ack acked)) w =
      let d = default_within asked.blksize in
      either (acked == 0) _ _ (begin_fits count (default_terms from) (omega (arith, d, w))) tt
  writer_fits mode asked limit count from (Some (Oack options)) w =
      begin_with_fits from count (agreement asked kinds.Write mode options limit)
      (λ known e. let l =
      agreed_within asked mode limit known (takes_nothing_unasked asked kinds.Write mode options limit known e).1 in
      omega (arith, l, w))
  writer_fits mode asked limit count from decoded w = tt

  -- ---- an end in any phase
  abbrev Within : Phase → Type 0
  Within phase = AgreesWithin most phase × (is_some (terms_of phase) ≡ true → size_of (terms_of phase) ≤ most)

  module _ (e : EndState) (from : Endpoint) (bytes : List ℕ) (decoded : Option Packet) where
    packet_fits : (phase : Phase) → Within phase → Fits (packet_action e from decoded phase)
    packet_fits phase w =
        search (rules, either, writer_fits, reader_fits, sender_fits, receiver_fits, dally_new)

    datagram_fits : Within e.position.phase → Fits (datagram_action e from bytes decoded)
    datagram_fits w = search (rules, either, garbled_new, packet_fits)

module _ (from : Endpoint) (e : EndState) where
  -- the turn sends at most this many bytes
  abbrev IsShort : ℕ → Turn → Type 0
  IsShort room turn = length (reply_bytes turn.reply) ≤ room

-- ---- the turn of a datagram
module _ {S K : Type 0} (sources : SourceMeaning S) (sinks : SinkMeaning K) (from : Endpoint) (bytes : List ℕ)
    (e : EndState) where
  abbrev block_room : ℕ → ℕ
  block_room most = max MAX_ERROR (HEADER + most)

  -- a sender's answer, and a receiver's
  source_short : (most : ℕ) (action : Action) (source : S) (files' : Files S K) (turn : Turn) → Fits most action →
      AcksAgain e turn action →
      Acts sources sinks action from bytes e (Source source) turn files' → IsShort from e (block_room most) turn
  source_short most action source files' turn w a h = search rules

  sink_short : (most : ℕ) (action : Action) (sink : K) (files' : Files S K) (turn : Turn) → Fits most action →
      AcksAgain e turn action →
      Acts sources sinks action from bytes e (Sink sink) turn files' → IsShort from e MAX_ERROR turn
  sink_short most action sink files' turn w a h = search rules

  -- the answer fits the capacity by the end's record
  known_within : (most : ℕ) (phase : Phase) → AgreesWithin most phase →
      Within (block_within most (option_map (λ (t : Terms). t.peer) (terms_of phase)) (size_of (terms_of phase))) phase
  known_within most phase w = search rules

  -- an answer fits the capacity that was reserved for it
  pub answer_short : (most : ℕ) (files files' : Files S K) (turn : Turn) → AgreesWithin most e.position.phase →
      AreFilesOf e.role.side files → DatagramStep sources sinks from bytes e files turn files' →
      length (reply_bytes turn.reply) ≤ answer_room most (record_of e)
  answer_short most (Source source) files' turn w side d =
      let block = block_within most (record_of e).peer (record_of e).size in
      rw (side) (source_short block (datagram_action e from bytes d.decoded) source files' turn (datagram_fits block e
      from bytes d.decoded (known_within most e.position.phase w)) d.again d.acts)
  answer_short most (Sink sink) files' turn w side d =
      let block = block_within most (record_of e).peer (record_of e).size in
      subst (λ (b : Bool). length (reply_bytes turn.reply) ≤ (if b then block_room block else MAX_ERROR)) (sym side)
      (sink_short block (datagram_action e from bytes d.decoded) sink files' turn (datagram_fits block e from bytes
      d.decoded (known_within most e.position.phase w)) d.again d.acts)

-- ---- what a client may agree to after a turn
module _ (most : ℕ) where
  abbrev Agrees : Turn → Type 0
  Agrees turn = AgreesWithin most turn.position.phase

  module _ {S K : Type 0} (sources : SourceMeaning S) (sinks : SinkMeaning K) (from : Endpoint) (bytes : List ℕ)
      (e : EndState) where
    acts_agrees : (action : Action) (files files' : Files S K) (turn : Turn) → AgreesWithin most e.position.phase →
        Acts sources sinks action from bytes e files turn files' → Agrees turn
    acts_agrees action files files' turn w h = search rules

    pub step_agrees : (files files' : Files S K) (turn : Turn) → AgreesWithin most e.position.phase →
        DatagramStep sources sinks from bytes e files turn files' → Agrees turn
    step_agrees files files' turn w d = acts_agrees (datagram_action e from bytes d.decoded) files files' turn w d.acts

-- an end that knows its peer agrees to no more
pub known_agrees : (most : ℕ) (phase : Phase) → is_some (terms_of phase) ≡ true → AgreesWithin most phase
known_agrees most phase h = search rules
