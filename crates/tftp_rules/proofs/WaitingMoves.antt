-- A waiting client with its first answer. For EndTurns and the crate tftp_player.
use Rattle.std.proofs.Common.{rules as std_rules}
use Rattle.tftp_rules.proofs.Common.{◌≡◌, List, refl, sym, true, [], false, ℕ, rules, ◌∷◌, arith, ◌∙◌, Some, ◌++◌, ap}
use Rattle.tftp_rules.proofs.Common.{subst, length, ◌<◌, ◌≤◌, inl, None, inr, ◌*◌, Option, Ok, drop, Result, Err}
use Rattle.tftp_rules.proofs.Common.{append_assoc, std_rules, true≢false, eqb-true, ltb-true, Contains, AllByRecursion}
use Rattle.tftp_rules.proofs.Common.{nat_lt, ◌&&◌, ◌==◌, Spells, canonical, MAX_BLOCK, RawOption, Oack, Read, Write}
use Rattle.tftp_rules.proofs.Common.{size, IsAgreeable, agreement, Asked, Kind, Known, DEFAULT_BLOCK, Refusal, block}
use Rattle.tftp_rules.proofs.Common.{block_count, wire_text, is_sender, receiver_action, after_turn, default_terms}
use Rattle.tftp_rules.proofs.Common.{reader_action, writer_action, accept_action, refusal_action, agreed_terms}
use Rattle.tftp_rules.proofs.Common.{begin_action, begin_with_action, Action, Respond, Refuse, Accept, ErrorReply}
use Rattle.tftp_rules.proofs.Common.{Outcome, Waiting, Terms, IsAnswer, Goes, IsOpenAt, Endpoint, Network, Message}
use Rattle.tftp_rules.proofs.Common.{At_server, Says_ack, Says_data, OpenEnd, open_view, in_state, with_phase}
use Rattle.tftp_rules.proofs.Common.{received_text, Rule, message, HasAccepted, Waits, said, oack_size, EndView}
use Rattle.tftp_rules.proofs.Common.{party_of, WirePacket, Replies}
use Rattle.std.specs.Prelude.{nat_le}
use Rattle.std.proofs.lemmas.Bool.{leb-true}
use Rattle.tftp_wire.specs.declared.packet.Packet.TheVariants.{Data, Ack, Error}
use Rattle.tftp_negotiate.specs.declared.known.Known.TheVariants.{Blksize, Timeout, Tsize}
use Rattle.tftp_negotiate.proofs.LawsLemmas.{taken_may_be_agreed}
use Rattle.tftp_ends.specs.Waiting.{no_answer}
use Rattle.tftp_rules.specs.Machine.{Error as Says_error, Oack as Says_oack}
use Rattle.tftp_rules.proofs.Actions.{stores_first, refuses_first, accepts, sends_first, refuses_to_begin}
use Rattle.tftp_rules.proofs.SaidLemmas.{spells_own, taken_oack}
use Rattle.tftp_rules.proofs.EndMoves.{error_says}
use Rattle.tftp_rules.proofs.SourceMoves.{text_if, data_turn, data_end, failed_turn, data_goes, data_kept, valid_data}
use Rattle.tftp_rules.proofs.SinkMoves.{Receives, wire_text_is, refused_goes}
use Rattle.tftp_rules.proofs.PhaseMoves.{Acting, OfDecoded, close_acts, if_acts, both_true, refuse_acts, responds}
use Rattle.tftp_rules.proofs.PhaseMoves.{next_acts}
use Rattle.tftp_negotiate.specs.declared.known.Kind.TheVariants as kinds
use Rattle.tftp_negotiate.specs.declared.refusal.Refusal.TheVariants as refusals
use Rattle.tftp_ends.specs.declared.error_reply.ErrorReply.TheVariants as replies
use Rattle.tftp_ends.specs.declared.outcome.Outcome.TheVariants as outcomes

-- a block size of an agreement
pub agreed_size : (known : List Known) → AllByRecursion IsAgreeable known → (0 < size known) × (size known ≤ MAX_BLOCK)
agreed_size [] h = (omega arith, omega arith)
agreed_size (Blksize n ∷ known) h = let l = h.0.0 in (omega arith, h.0.1)
agreed_size (Timeout n ∷ known) h = agreed_size known h.1
agreed_size (Tsize n ∷ known) h = agreed_size known h.1

module _ (network : Network) where
  -- each answer that was decoded is from the server
  abbrev pub OfServer : Endpoint → Option WirePacket → Type 0
  OfServer from decoded = (p : WirePacket) → decoded ≡ Some p → IsAnswer p → network.host_of from ≡ At_server

module _ {network : Network} {first : List Rule} {views : List EndView} {messages : List Message} {k : ℕ} (x0 : OpenEnd)
    (asked : Asked) (limit : ℕ) (h : IsOpenAt network first views messages k (with_phase (Waiting asked limit) x0))
    (from : Endpoint) (bytes : List ℕ) where
  abbrev waiter : OpenEnd
  waiter = with_phase (Waiting asked limit) x0

  abbrev Answers : Action → Type 0
  Answers action = Acting network first views messages k waiter from bytes action

  refuse_waiter : (reply : ErrorReply) (outcome : Outcome) → Answers (Respond (Refuse None reply outcome))
  refuse_waiter = refuse_acts h from bytes refl

  illegal_waiter : Answers no_answer
  illegal_waiter = refuse_waiter replies.IllegalOperation outcomes.Illegal

  refusal_acts : (refusal : Refusal) → Answers (refusal_action refusal)
  refusal_acts refusals.TooLarge = refuse_waiter replies.DiskFull outcomes.TooLarge
  refusal_acts refusal = refuse_waiter replies.OptionRefused (outcomes.Refused refusal)

  module _ (server : network.host_of from ≡ At_server) where
    waits : Waits network (party_of (open_view waiter)) from
    waits = ((refl, refl, refl), h.kept.phase.0, refl, server)

    -- the agreed size is that of the OACK
    agreed_came : (kind : Kind) (options : List RawOption) (known : List Known) →
        agreement asked kind x0.state.role.mode options limit ≡ Ok known →
        Contains messages (message from x0.address (Says_oack (oack_size options))) →
        Contains messages (message from x0.address (Says_oack (size known)))
    agreed_came kind options known e come = search (std_rules, message, taken_oack)

    module _ (reader : is_sender x0.state.role.side ≡ false) where
      -- a reader handles an OACK
      accept_acts : (options : List RawOption) →
          Contains messages (message from x0.address (Says_oack (oack_size options))) →
          (r : Result (List Known) Refusal) → agreement asked kinds.Read x0.state.role.mode options limit ≡ r →
          Answers (accept_action from r)
      accept_acts options come (Ok known) e =
          let here = agreed_came _ _ _ e come in
          let shown_now = accepts h.stands _ _ (waits, here, λ w. absurd (true≢false (sym w ∙ reader))) reader in
          let says : Replies x0.address (Some (record { to = from; bytes = canonical (Ack 0) })) (message x0.address
          from (Says_ack 0) ∷ []) = (Ack 0, spells_own _ (omega arith), refl) in
          responds h from bytes (Accept (agreed_terms from known)) (search rules)
      accept_acts options come (Err refusal) e = refusal_acts refusal

      -- a reader receives DATA 1
      first_acts : (piece : List ℕ) → length piece ≤ DEFAULT_BLOCK → Spells (Data 1 piece) bytes →
          Contains messages (message from x0.address (Says_data 1 piece)) →
          Answers (receiver_action true x0.state.role.mode [] (default_terms from) 0 (Some (Data 1 piece)))
      first_acts piece l spelled come =
          let terms = default_terms from in
          let kept = h.kept in
          let got : Receives network first views messages k waiter terms 1 from piece = record {
            receiver = reader;
            going = refl;
            incomplete = refl;
            peer = refl;
            fits = omega arith;
            stored = stores_first h.stands from piece (waits, reader, come) l;
            refused = λ t b. refuses_first h.stands from piece t (waits, reader, come) l b;
          } in
          next_acts waiter terms 1 from bytes piece kept [] (sym (kept.phase.4 reader)) spelled (λ _. got)
          (λ reply outcome. responds h from bytes (Refuse (Some terms) reply outcome) (refused_goes kept got _ _ reply
          outcome kept.held_back (kept.committed reader) (
            x0.state.position.held_back ++ piece,
            sym (append_assoc (wire_text x0.state.role.mode x0.stored) x0.state.position.held_back piece) ∙ ap (λ (t :
                List ℕ). t ++ piece) (sym (wire_text_is kept got)),
          )))

      first_cases : (number : ℕ) (piece : List ℕ) → number ≡ 1 → length piece ≤ DEFAULT_BLOCK →
          Spells (Data number piece) bytes → Contains messages (message from x0.address (Says_data number piece)) →
          Answers (receiver_action true x0.state.role.mode [] (default_terms from) 0 (Some (Data number piece)))
      first_cases number piece is l = rw (is) (first_acts piece l)

    -- a writer begins
    module _ (writer : is_sender x0.state.role.side ≡ true) where
      begin_acts : (terms : Terms) → terms.peer ≡ from → 0 < terms.size → terms.size ≤ MAX_BLOCK →
          HasAccepted messages x0.address from terms.size → Answers (begin_action x0.state.role.length terms)
      begin_acts terms peer positive small accepted =
          if_acts Answers (nat_lt x0.state.role.length (65535 * terms.size)) _ _ (λ e.
          let kept = h.kept in
          let text = x0.text in
          let measured = kept.phase.5 writer in
          let fits =
          subst (λ (n : ℕ). n < 65535 * terms.size) measured (ltb-true x0.state.role.length (65535 * terms.size) e) in
          let text_is = text_if (is_sender x0.state.role.side) text (received_text waiter.state waiter.stored) writer in
          let zero_blocks : 0 * terms.size ≡ 0 = omega arith in
          let remaining_is = kept.phase.3 ∙ ap (λ (n : ℕ). drop n text) (sym zero_blocks) in
          let l : 1 ≤ block_count text terms.size = omega arith in
          let packet = Data 1 (block text terms.size 1) in
          let shown = sends_first h.stands from terms.size waits writer accepted in
          let goes_now : Goes network first views messages k waiter (data_turn waiter terms 0 from) (data_end waiter
          terms 0 from) = record {
            said_now = message x0.address from (said packet) ∷ [];
            shown = search std_rules;
            replies = (packet, spells_own packet (valid_data text terms.size 0 positive small fits l), refl);
            kept = data_kept waiter terms 0 from kept measured writer positive small fits l (sym peer);
            side = refl;
            last_sent = inr refl;
            stored = λ _. refl;
          } in
          let y = in_state (after_turn waiter.state (failed_turn terms from waiter)) waiter in
          let still =
          text_is ∙ sym (text_if (is_sender x0.state.role.side) text (received_text y.state y.stored) writer) in
          let failing = refuses_to_begin h.stands from terms.size (waits, writer, accepted) in
          let failed : Goes network first views messages k waiter (failed_turn terms from waiter) y = record {
            said_now = message x0.address from Says_error ∷ [];
            shown = search rules;
            replies = error_says replies.FileChanged x0.address from;
            kept = record { phase = tt; held_back = kept.held_back; committed = kept.committed };
            side = refl;
            last_sent = inl (refl, refl);
            stored = λ _. refl;
          } in
          data_goes terms 0 from writer measured remaining_is goes_now failed) (λ e. refuse_waiter replies.FileTooLarge
          outcomes.TooLarge)

      begin_with : (options : List RawOption) →
          Contains messages (message from x0.address (Says_oack (oack_size options))) →
          (r : Result (List Known) Refusal) → agreement asked kinds.Write x0.state.role.mode options limit ≡ r →
          Answers (begin_with_action from x0.state.role.length r)
      begin_with options come (Ok known) e =
          let b = agreed_size known (taken_may_be_agreed _ _ _ _ _ _ h.kept.phase.1 e).values in
          begin_acts (agreed_terms from known) refl b.0 b.1 (inl (agreed_came kinds.Write options known e come))
      begin_with options come (Err refusal) e = refusal_acts refusal

  -- a waiting reader with any packet
  pub reader_acts : is_sender x0.state.role.side ≡ false → (decoded : Option WirePacket) →
      OfServer network from decoded → ((p : WirePacket) → decoded ≡ Some p → Spells p bytes) →
      OfDecoded messages from x0 decoded → Answers (reader_action x0.state.role.mode asked limit from decoded)
  reader_acts reader (Some (Data number piece)) serves spelled come =
      if_acts Answers (number == 1 && nat_le (length piece) DEFAULT_BLOCK) _ _ (λ e.
      let b = both_true (number == 1) (nat_le (length piece) DEFAULT_BLOCK) e in
      first_cases (serves (Data number piece) refl tt) reader number piece (eqb-true number 1 b.0) (leb-true (length
      piece) DEFAULT_BLOCK b.1) (spelled (Data number piece) refl) (come (Data number piece) refl))
      (λ e. illegal_waiter)
  reader_acts reader (Some (Error code text)) serves spelled come = close_acts h from bytes refl
      (outcomes.PeerError code)
  reader_acts reader (Some (Oack options)) serves spelled come =
      accept_acts (serves (Oack options) refl tt) reader options (come (Oack options) refl) _ refl
  reader_acts reader decoded serves spelled come = illegal_waiter

  -- a waiting writer with any packet
  pub writer_acts : is_sender x0.state.role.side ≡ true → (decoded : Option WirePacket) →
      OfServer network from decoded → OfDecoded messages from x0 decoded →
      Answers (writer_action x0.state.role.mode asked limit x0.state.role.length from decoded)
  writer_acts writer (Some (Ack acked)) serves come =
      if_acts Answers (acked == 0) _ _ (λ e.
      begin_acts (serves (Ack acked) refl tt) writer (default_terms from) refl (omega arith) (omega arith)
      (inr (refl, rw (← eqb-true acked 0 e) (come (Ack acked) refl)))) (λ e. illegal_waiter)
  writer_acts writer (Some (Error code text)) serves come = close_acts h from bytes refl (outcomes.PeerError code)
  writer_acts writer (Some (Oack options)) serves come =
      begin_with (serves (Oack options) refl tt) writer options (come (Oack options) refl) _ refl
  writer_acts writer decoded serves come = illegal_waiter
