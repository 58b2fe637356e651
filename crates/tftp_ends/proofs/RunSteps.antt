-- The end after one step. For RunLemmas.
use Rattle.tftp_ends.proofs.Common.{◌≡◌, ℕ, ◌*◌, ◌<◌, ◌≤◌, Bool, true, false, List, [], length, Option, Some, None}
use Rattle.tftp_ends.proofs.Common.{Result, refl, sym, subst, arith, ◌==◌, ◌&&◌, nat_lt, nat_le, if◌then◌else◌, is_some}
use Rattle.tftp_ends.proofs.Common.{is_none, true≢false, lt-ltb, eqb-true, Packet, Read, Write, Data, Ack, Error, Oack}
use Rattle.tftp_ends.proofs.Common.{has_error_opcode, DEFAULT_BLOCK, Asked, Known, Refusal, agreement, SourceMeaning}
use Rattle.tftp_ends.proofs.Common.{SinkMeaning, StoreFault, Files, Action, Respond, Send, Store, Response, Ignore}
use Rattle.tftp_ends.proofs.Common.{WrongPeer, ResendReply, Close, Refuse, Complete, Endpoint, ErrorReply, Outcome}
use Rattle.tftp_ends.proofs.Common.{Phase, Waiting, Sending, Receiving, Dallying, Closed, Terms, Decodes}
use Rattle.tftp_ends.proofs.Common.{garbled_response, packet_action, EndState, is_sender, is_progress, outcome_of}
use Rattle.tftp_ends.proofs.Common.{receiver_action, next_action, IsOpen, illegal_action, Done, Turn, GoesOn}
use Rattle.tftp_ends.proofs.Common.{with_position, response_turn, refused_turn, sent_turn, data_bytes, block_length}
use Rattle.tftp_ends.proofs.Common.{is_readable, reader_action, writer_action, accept_action, begin_action}
use Rattle.tftp_ends.proofs.Common.{begin_with_action, refusal_action, default_terms, agreed_terms, no_answer}
use Rattle.std.proofs.Common.{◌+◌, ◌/◌, rules}
use Rattle.std.proofs.lemmas.Bool.{ltb-true}
use Rattle.std.proofs.Math.Nat.{div-lt_iff_lt-mul}
use Rattle.tftp_negotiate.specs.declared.known.Kind.TheVariants as kinds
use Rattle.tftp_negotiate.specs.declared.refusal.Refusal.TheVariants as refusals
use Rattle.tftp_ends.specs.declared.error_reply.ErrorReply.TheVariants as replies
use Rattle.tftp_ends.specs.declared.outcome.Outcome.TheVariants as outcomes
use Rattle.tftp_ends.specs.declared.phase.Dally.{Dally}
use Rattle.tftp_ends.specs.Action.{datagram_action}
use Rattle.tftp_ends.specs.End.{is_client}
use Rattle.tftp_ends.specs.Receiver.{data_action, dally_response}
use Rattle.tftp_ends.specs.Sender.{sender_action, acked_action}
use Rattle.tftp_ends.specs.Step.{Acts, DatagramStep}
use Rattle.tftp_ends.proofs.RunMoves.{Kept, rank, waits, Moves, if_either, stays}

-- ---- after a datagram
module _ {S K : Type 0} (sources : SourceMeaning S) (sinks : SinkMeaning K)
    (e : EndState) (from : Endpoint) (bytes : List ℕ) (open_now : IsOpen e)
    (kept : Kept e.role.side e.role.length e.position.phase) where
  -- the end after an action
  abbrev Moving : Action → Type 0
  Moving action =
      (turn : Turn) (files files' : Files S K) → Acts sources sinks action from bytes e files turn files' → Moves e turn

  responds : (response : Response) → Moves e (response_turn response from e) → Moving (Respond response)
  responds response m turn files files' h = subst (λ (t : Turn). Moves e t) (sym h.0) m

  ignores : Moving (Respond Ignore)
  ignores = responds Ignore (stays e None kept (λ _. (refl, refl)))

  answers_wrong_peer : Moving (Respond WrongPeer)
  answers_wrong_peer = search rules

  answers_again : is_sender e.role.side ≡ false → Moving (Respond ResendReply)
  answers_again r = search rules

  gives_up : (outcome : Outcome) → Moving (Respond (Close outcome))
  gives_up outcome = search rules

  refuses : (terms : Option Terms) (reply : ErrorReply) (outcome : Outcome) →
      Moving (Respond (Refuse terms reply outcome))
  refuses terms reply outcome = search rules

  -- a block was read from a source
  filled : (terms : Terms) (number : ℕ) (piece : List ℕ) (b : Bool) → number ≤ 65535 →
      e.role.length < 65535 * terms.size → rank e.position.phase + 1 ≤ number → waits e.position.phase ≡ 0 →
      is_progress e.position.phase (Sending terms number) ≡ true →
      Moves e
      (if b then sent_turn (Sending terms number) from (data_bytes number piece) e
      else refused_turn terms replies.FileChanged outcomes.SourceFault from e)
  filled terms number piece b n fits r w p = search rules

  sends : (terms : Terms) (number : ℕ) → number ≤ 65535 → e.role.length < 65535 * terms.size →
      rank e.position.phase + 1 ≤ number → waits e.position.phase ≡ 0 →
      is_progress e.position.phase (Sending terms number) ≡ true → Moving (Send terms number)
  sends terms number n fits r w p turn h8 h9 h = search (rules, filled, block_length)

  stored : (terms : Terms) (number : ℕ) (last : Bool) (after : List ℕ) (mid sink' : K) (answer : Result Done StoreFault)
      (turn : Turn) →
      is_sender e.role.side ≡ false → number ≤ 65535 → rank e.position.phase ≤ number → waits e.position.phase ≡ 0 →
      GoesOn sinks terms number from e last after mid answer turn sink' → Moves e turn
  stored terms number last after mid sink' answer turn r n l w h = search rules

  stores : (terms : Terms) (number : ℕ) → is_sender e.role.side ≡ false → number ≤ 65535 →
      rank e.position.phase ≤ number → waits e.position.phase ≡ 0 → Moving (Store terms number)
  stores terms number r n l w turn h7 h8 h = search (rules, stored, nat_lt, length)

-- ---- an end by its phase
module _ {S K : Type 0} (sources : SourceMeaning S) (sinks : SinkMeaning K)
    (e0 : EndState) (from : Endpoint) (bytes : List ℕ) where
  -- the end in a phase
  abbrev at : Phase → EndState
  at p = with_position (record e0.position { phase = p }) e0

  -- the end in it after an action
  abbrev Going : (p : Phase) → is_some (outcome_of p) ≡ false → Kept e0.role.side e0.role.length p → Action → Type 0
  Going p o kept action = Moving sources sinks (at p) from bytes o kept action

  ignored : (p : Phase) (o : is_some (outcome_of p) ≡ false) (kept : Kept e0.role.side e0.role.length p) →
      Going p o kept (Respond Ignore)
  ignored p o kept = ignores sources sinks (at p) from bytes o kept

  refused_by : (p : Phase) (o : is_some (outcome_of p) ≡ false) (kept : Kept e0.role.side e0.role.length p)
      (terms : Option Terms) (reply : ErrorReply) (outcome : Outcome) →
      Going p o kept (Respond (Refuse terms reply outcome))
  refused_by p o kept = refuses sources sinks (at p) from bytes o kept

  gone : (p : Phase) (o : is_some (outcome_of p) ≡ false) (kept : Kept e0.role.side e0.role.length p)
      (outcome : Outcome) →
      Going p o kept (Respond (Close outcome))
  gone p o kept = gives_up sources sinks (at p) from bytes o kept

  again : (p : Phase) (o : is_some (outcome_of p) ≡ false) (kept : Kept e0.role.side e0.role.length p) →
      is_sender e0.role.side ≡ false → Going p o kept (Respond ResendReply)
  again p o kept = answers_again sources sinks (at p) from bytes o kept

  next : (p : Phase) (o : is_some (outcome_of p) ≡ false) (kept : Kept e0.role.side e0.role.length p) (terms : Terms)
      (number : ℕ) →
      number ≤ 65535 → e0.role.length < 65535 * terms.size → rank p + 1 ≤ number → waits p ≡ 0 →
      is_progress p (Sending terms number) ≡ true → Going p o kept (Send terms number)
  next p o kept = sends sources sinks (at p) from bytes o kept

  store : (p : Phase) (o : is_some (outcome_of p) ≡ false) (kept : Kept e0.role.side e0.role.length p) (terms : Terms)
      (number : ℕ) →
      is_sender e0.role.side ≡ false → number ≤ 65535 → rank p ≤ number → waits p ≡ 0 →
      Going p o kept (Store terms number)
  store p o kept = stores sources sinks (at p) from bytes o kept

  -- a sender
  completes : (terms : Terms) (n : ℕ) (kept : Kept e0.role.side e0.role.length (Sending terms n)) →
      Going (Sending terms n) refl kept (Respond Complete)
  completes terms n kept = search rules

  acked_goes : (terms : Terms) (n acked : ℕ) (kept : Kept e0.role.side e0.role.length (Sending terms n)) →
      Going (Sending terms n) refl kept (acked_action e0.role.length terms n acked)
  acked_goes terms n acked kept =
      let P = Going (Sending terms n) refl kept in
      let onward = if nat_lt n (e0.role.length / terms.size + 1) then Send terms (n + 1) else Respond Complete in
      let other = if nat_lt acked n then Respond Ignore else illegal_action terms in
      let fits : e0.role.length < 65535 * terms.size = kept.1 in
      let positive : 0 < terms.size = omega arith in
      let d : e0.role.length / terms.size < 65535 =
      (div-lt_iff_lt-mul {k = terms.size} {x = e0.role.length} {y = 65535} positive).1 fits in
      search (rules, if_either, nat_lt, ltb-true, true, lt-ltb, next, completes, illegal_action, ignored, refused_by)

  sender_goes : (client : Bool) (terms : Terms) (n : ℕ) (kept : Kept e0.role.side e0.role.length (Sending terms n))
      (decoded : Option Packet) →
      Going (Sending terms n) refl kept (sender_action client e0.role.length terms n decoded)
  sender_goes client terms n kept None = search rules
  sender_goes client terms n kept (Some (Read r)) = search rules
  sender_goes client terms n kept (Some (Write r)) = search rules
  sender_goes client terms n kept (Some (Data number piece)) = search rules
  sender_goes client terms n kept (Some (Ack acked)) = acked_goes _ n acked kept
  sender_goes client terms n kept (Some (Error code text)) = gone _ refl kept (outcomes.PeerError code)
  sender_goes client terms n kept (Some (Oack options)) = search rules

  -- a receiver, in a phase of this rank at most
  data_goes : (p : Phase) (o : is_some (outcome_of p) ≡ false) (kept : Kept e0.role.side e0.role.length p)
      (text : List ℕ) (terms : Terms) (stored number : ℕ) (piece : List ℕ) →
      is_sender e0.role.side ≡ false → number ≤ 65535 → rank p ≤ stored + 1 → waits p ≡ 0 →
      Going p o kept (data_action e0.role.mode text terms stored number piece)
  data_goes p o kept text terms stored number piece r n l w =
      let P = Going p o kept in
      let last = nat_lt (length piece) terms.size in
      let storing =
      if is_readable e0.role.mode text piece last then Store terms number else Respond (Refuse (Some terms)
      replies.NotNetascii outcomes.NotNetascii) in
      let fitting =
      if number == 65535 && (length piece == terms.size) then Respond (Refuse (Some terms) replies.FileTooLarge
      outcomes.TooLarge) else storing in
      let onward =
      if number == stored + 1 then next_action e0.role.mode text terms number piece else illegal_action terms in
      let other = if nat_lt number stored then Respond Ignore else onward in
      if_either P (number == stored) (Respond ResendReply) other (λ _. again p o kept r) (λ _. if_either P (nat_lt
      number stored) (Respond Ignore) onward (λ _. ignored p o kept) (λ _. if_either P _ _ _ (λ is. let next_is : number
      ≡ stored + 1 = eqb-true number (stored + 1) is in
      if_either P (nat_lt terms.size (length piece)) (illegal_action terms) fitting (λ _. refused_by p o kept (Some
      terms) replies.IllegalOperation outcomes.Illegal) (λ _. if_either P (number == 65535 && (length piece ==
      terms.size)) (Respond (Refuse (Some terms) replies.FileTooLarge outcomes.TooLarge)) storing (λ _. refused_by p o
      kept (Some terms) replies.FileTooLarge outcomes.TooLarge) (λ _. if_either P (is_readable e0.role.mode text piece
      last) (Store terms number) (Respond (Refuse (Some terms) replies.NotNetascii outcomes.NotNetascii)) (λ _. store p
      o kept terms number r n (omega arith) w) (λ _. refused_by p o kept (Some terms) replies.NotNetascii
      outcomes.NotNetascii)))) (λ _. refused_by p o kept (Some terms) replies.IllegalOperation outcomes.Illegal)))

  receiver_goes : (p : Phase) (o : is_some (outcome_of p) ≡ false) (kept : Kept e0.role.side e0.role.length p)
      (client : Bool) (text : List ℕ) (terms : Terms) (stored : ℕ) (decoded : Option Packet) →
      is_sender e0.role.side ≡ false → Decodes bytes decoded → rank p ≤ stored + 1 → waits p ≡ 0 →
      Going p o kept (receiver_action client e0.role.mode text terms stored decoded)
  receiver_goes p o kept client text terms stored decoded r d l w =
      search (rules, refused_by, data_goes, gone, if_either, illegal_action, again, ignored)

  dally_goes : (terms : Terms) (n : ℕ) (dally : Dally)
      (kept : Kept e0.role.side e0.role.length (Dallying terms n dally)) (decoded : Option Packet) →
      Going (Dallying terms n dally) refl kept (Respond (dally_response n decoded))
  dally_goes terms n dally kept decoded = search rules

  -- a client that waits
  module _ (asked : Asked) (limit : ℕ) where
    abbrev waiting : Phase
    waiting = Waiting asked limit

    no_answer_goes : Going waiting refl tt no_answer
    no_answer_goes = refused_by waiting refl tt None replies.IllegalOperation outcomes.Illegal

    refusal_goes : (refusal : Refusal) → Going waiting refl tt (refusal_action refusal)
    refusal_goes refusal = search rules

    accept_goes : is_sender e0.role.side ≡ false → (answer : Result (List Known) Refusal) →
        Going waiting refl tt (accept_action from answer)
    accept_goes r answer = search rules

    begin_goes : (terms : Terms) → Going waiting refl tt (begin_action e0.role.length terms)
    begin_goes terms = search (rules, if_either, nat_lt, next, ltb-true, refused_by)

    begin_with_goes : (answer : Result (List Known) Refusal) →
        Going waiting refl tt (begin_with_action from e0.role.length answer)
    begin_with_goes answer = search (rules, begin_goes, agreed_terms, refusal_goes)

    reader_goes : is_sender e0.role.side ≡ false → (decoded : Option Packet) → Decodes bytes decoded →
        Going waiting refl tt (reader_action e0.role.mode asked limit from decoded)
    reader_goes r None d = no_answer_goes
    reader_goes r (Some (Read q)) d = no_answer_goes
    reader_goes r (Some (Write q)) d = no_answer_goes
    reader_goes r (Some (Data number piece)) d =
        let first = receiver_action true e0.role.mode [] (default_terms from) 0 (Some (Data number piece)) in
        if_either (Going waiting refl tt) (number == 1 && nat_le (length piece) DEFAULT_BLOCK) first no_answer
        (λ _. receiver_goes waiting refl tt true [] (default_terms from) 0 (Some (Data number piece)) r d
        (omega arith) refl)
        (λ _. no_answer_goes)
    reader_goes r (Some (Ack acked)) d = no_answer_goes
    reader_goes r (Some (Error code text)) d = gone waiting refl tt (outcomes.PeerError code)
    reader_goes r (Some (Oack options)) d = accept_goes r (agreement asked kinds.Read e0.role.mode options limit)

    writer_goes : (decoded : Option Packet) →
        Going waiting refl tt (writer_action e0.role.mode asked limit e0.role.length from decoded)
    writer_goes None = no_answer_goes
    writer_goes (Some (Read q)) = no_answer_goes
    writer_goes (Some (Write q)) = no_answer_goes
    writer_goes (Some (Data number piece)) = no_answer_goes
    writer_goes (Some (Ack number)) =
        if_either (Going waiting refl tt) (number == 0) (begin_action e0.role.length (default_terms from)) no_answer
        (λ _. begin_goes (default_terms from)) (λ _. no_answer_goes)
    writer_goes (Some (Error code text)) = gone waiting refl tt (outcomes.PeerError code)
    writer_goes (Some (Oack options)) = begin_with_goes (agreement asked kinds.Write e0.role.mode options limit)

  packet_goes : (p : Phase) (o : is_some (outcome_of p) ≡ false) (kept : Kept e0.role.side e0.role.length p)
      (decoded : Option Packet) →
      Decodes bytes decoded → Going p o kept (packet_action (at p) from decoded p)
  packet_goes (Waiting asked limit) o kept decoded d =
      if_either (Going (Waiting asked limit) o kept) (is_sender e0.role.side)
      (writer_action e0.role.mode asked limit e0.role.length from decoded)
      (reader_action e0.role.mode asked limit from decoded)
      (λ _. writer_goes asked limit decoded) (λ r. reader_goes asked limit r decoded d)
  packet_goes (Sending terms n) o kept decoded d = sender_goes (is_client e0.role.side) terms n kept decoded
  packet_goes (Receiving terms n) o kept decoded d =
      receiver_goes (Receiving terms n) o kept (is_client e0.role.side) e0.position.held_back terms n decoded kept.1 d
      (omega arith) refl
  packet_goes (Dallying terms n dally) o kept decoded d = dally_goes terms n dally kept decoded
  packet_goes (Closed terms n complete outcome) o kept decoded d = absurd (true≢false o)

  garbled_goes : (p : Phase) (o : is_some (outcome_of p) ≡ false) (kept : Kept e0.role.side e0.role.length p) →
      Going p o kept (Respond (garbled_response p))
  garbled_goes p o kept = search rules

  -- any datagram
  datagram_goes : (p : Phase) (o : is_some (outcome_of p) ≡ false) (kept : Kept e0.role.side e0.role.length p)
      (decoded : Option Packet) →
      Decodes bytes decoded → Going p o kept (datagram_action (at p) from bytes decoded)
  datagram_goes p o kept decoded d =
      let P = Going p o kept in
      let strange = if has_error_opcode bytes then Respond Ignore else Respond WrongPeer in
      let known =
      if has_error_opcode bytes && is_none decoded then Respond (garbled_response p) else packet_action (at p) from
      decoded p in
      if_either P _ _ _ (λ _. if_either P (has_error_opcode bytes) (Respond Ignore) (Respond WrongPeer) (λ _. ignored p
      o kept) (λ _. answers_wrong_peer sources sinks (at p) from bytes o kept)) (λ _. if_either P (has_error_opcode
      bytes && is_none decoded) (Respond (garbled_response p)) (packet_action (at p) from decoded p) (λ _. garbled_goes
      p o kept) (λ _. packet_goes p o kept decoded d))

-- an open end after a datagram
pub datagram_moves : {S K : Type 0} (sources : SourceMeaning S) (sinks : SinkMeaning K)
    (e : EndState) (from : Endpoint) (bytes : List ℕ) (files files' : Files S K) (turn : Turn) → IsOpen e →
    Kept e.role.side e.role.length e.position.phase →
    DatagramStep sources sinks from bytes e files turn files' → Moves e turn
datagram_moves sources sinks e from bytes files files' turn o kept step =
    datagram_goes sources sinks e from bytes e.position.phase o kept step.decoded step.says turn files files' step.acts
