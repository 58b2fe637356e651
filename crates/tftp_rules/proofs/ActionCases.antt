-- The actions that a datagram may lead to, each with what is known where it does.
-- For TermsTaken, and for the laws of worlds (tftp_player).
use Rattle.tftp_rules.proofs.Common.{◌≡◌, List, refl, sym, true, false, ℕ, rules, Some, Bool, subst, length, None}
use Rattle.tftp_rules.proofs.Common.{Option, Ok, Result, Err, std_rules, eqb-true, ◌≢◌, if◌then◌else◌, ◌&&◌, ◌==◌}
use Rattle.tftp_rules.proofs.Common.{is_none, ⊤, has_error_opcode, Mode, Asked, Known, Refusal, is_wrong_peer}
use Rattle.tftp_rules.proofs.Common.{datagram_action, garbled_response, packet_action, EndState, terms_of}
use Rattle.tftp_rules.proofs.Common.{receiver_action, next_action, dally_response, sender_action, default_terms}
use Rattle.tftp_rules.proofs.Common.{reader_action, writer_action, accept_action, refusal_action, agreed_terms}
use Rattle.tftp_rules.proofs.Common.{begin_action, begin_with_action, Action, Respond, Send, Store, Close, Refuse}
use Rattle.tftp_rules.proofs.Common.{Ignore, WrongPeer, Complete, ResendReply, Accept, ErrorReply, Outcome, Phase}
use Rattle.tftp_rules.proofs.Common.{Terms, Endpoint, if_either}
use Rattle.tftp_wire.specs.declared.packet.Packet.{Packet}
use Rattle.tftp_wire.specs.declared.packet.Packet.TheVariants.{Data, Ack, Error}
use Rattle.tftp_ends.specs.declared.outcome.Outcome.TheVariants as outcomes

-- an outcome for what a peer sent
abbrev pub Accuses : Outcome → Type 0
Accuses outcomes.Illegal = ⊤
Accuses outcomes.NotNetascii = ⊤
Accuses outcomes.TooLarge = ⊤
Accuses (outcomes.Refused refusal) = ⊤
Accuses outcomes.Complete = ⊥
Accuses outcomes.TimedOut = ⊥
Accuses (outcomes.PeerError code) = ⊥
Accuses outcomes.StoreFault = ⊥
Accuses outcomes.SourceFault = ⊥

-- an answer that is no OACK
abbrev pub IsPlainAnswer : Option Packet → Type 0
IsPlainAnswer (Some (Data number piece)) = Unit {0}
IsPlainAnswer (Some (Ack number)) = number ≡ 0
IsPlainAnswer decoded = ⊥

-- the terms are the end's own; if it has none yet, those of a plain answer, or of an OACK
pub data HasTerms (known : Option Terms) (from : Endpoint) (decoded : Option Packet) (wrong : Bool) : Terms → Type 0
  where
    Agreed : (terms : Terms) → known ≡ Some terms → HasTerms known from decoded wrong terms
    By_default : wrong ≡ false → known ≡ None → IsPlainAnswer decoded →
        HasTerms known from decoded wrong (default_terms from)
    By_oack : (ks : List Known) → known ≡ None → HasTerms known from decoded wrong (agreed_terms from ks)

-- an action of an end with these terms; `wrong` says that the datagram is from a wrong peer
pub data MayTake (known : Option Terms) (from : Endpoint) (decoded : Option Packet) (wrong : Bool) : Action → Type 0
  where
    Ignores : MayTake known from decoded wrong (Respond Ignore)
    Resends : MayTake known from decoded wrong (Respond ResendReply)
    Completes : MayTake known from decoded wrong (Respond Complete)
    Stranger : wrong ≡ true → MayTake known from decoded wrong (Respond WrongPeer)
    Garbled : MayTake known from decoded wrong (Respond (Close outcomes.Illegal))
    Hears : (code : ℕ) (text : List ℕ) → wrong ≡ false → decoded ≡ Some (Error code text) →
        MayTake known from decoded wrong (Respond (Close (outcomes.PeerError code)))
    Refuses_answer : (reply : ErrorReply) (outcome : Outcome) → known ≡ None → Accuses outcome →
        MayTake known from decoded wrong (Respond (Refuse None reply outcome))
    Refuses_peer : (terms : Terms) (reply : ErrorReply) (outcome : Outcome) → HasTerms known from decoded wrong terms →
        Accuses outcome → MayTake known from decoded wrong (Respond (Refuse (Some terms) reply outcome))
    Accepts : (ks : List Known) → known ≡ None → MayTake known from decoded wrong (Respond (Accept (agreed_terms from ks)))
    Sends_block : (terms : Terms) (n : ℕ) → HasTerms known from decoded wrong terms → n ≢ 0 →
        MayTake known from decoded wrong (Send terms n)
    Stores_block : (terms : Terms) (n : ℕ) → HasTerms known from decoded wrong terms →
        MayTake known from decoded wrong (Store terms n)

module _ (known : Option Terms) (from : Endpoint) (decoded : Option Packet) (wrong : Bool) where
  abbrev May : Action → Type 0
  May action = MayTake known from decoded wrong action

  abbrev Has : Terms → Type 0
  Has terms = HasTerms known from decoded wrong terms

  either : (b : Bool) (one two : Action) → May one → May two → May (if b then one else two)
  either b one two h k = if_either May b one two (λ _. h) (λ _. k)

  illegal : (terms : Terms) (reply : ErrorReply) → Has terms →
      May (Respond (Refuse (Some terms) reply outcomes.Illegal))
  illegal terms reply h = Refuses_peer terms reply outcomes.Illegal h tt

  module _ (right : wrong ≡ false) where
    sender_takes : (client : Bool) (count : ℕ) (terms : Terms) (n : ℕ) (d : Option Packet) → decoded ≡ d → Has terms →
        May (sender_action client count terms n d)
    sender_takes client count terms n d is h = search (rules, either, illegal, Hears, Ignores, Completes, Sends_block)

    next_takes : (mode : Mode) (held : List ℕ) (terms : Terms) (n : ℕ) (piece : List ℕ) → Has terms →
        May (next_action mode held terms n piece)
    next_takes mode held terms n piece h = search (rules, either, illegal, Refuses_peer, Stores_block)

    receiver_takes : (client : Bool) (mode : Mode) (held : List ℕ) (terms : Terms) (n : ℕ) (d : Option Packet) →
        decoded ≡ d → Has terms → May (receiver_action client mode held terms n d)
    receiver_takes client mode held terms n d is h = search (
      rules,
      either,
      illegal,
      next_takes,
      Hears,
      Ignores,
      Resends,
    )

    dally_takes : (n : ℕ) (d : Option Packet) → May (Respond (dally_response n d))
    dally_takes n d = search (rules, Ignores, Resends)

    begin_takes : (count : ℕ) (terms : Terms) → known ≡ None → Has terms → May (begin_action count terms)
    begin_takes count terms none h = search (rules, either, Sends_block, Refuses_answer)

    -- ---- an end that waits
    module _ (none : known ≡ None) where
      no_answer_takes : (reply : ErrorReply) → May (Respond (Refuse None reply outcomes.Illegal))
      no_answer_takes reply = Refuses_answer reply outcomes.Illegal none tt

      refusal_takes : (refusal : Refusal) → May (refusal_action refusal)
      refusal_takes refusal = search (rules, Refuses_answer)

      accept_takes : (r : Result (List Known) Refusal) → May (accept_action from r)
      accept_takes r = search (rules, Accepts, refusal_takes)

      begin_with_takes : (count : ℕ) (r : Result (List Known) Refusal) → May (begin_with_action from count r)
      begin_with_takes count (Ok ks) = begin_takes count (agreed_terms from ks) none (By_oack ks none)
      begin_with_takes count (Err refusal) = refusal_takes refusal

      plain : (d : Option Packet) → decoded ≡ d → IsPlainAnswer d → Has (default_terms from)
      plain d is h = By_default right none (subst IsPlainAnswer (sym is) h)

      reader_takes : (mode : Mode) (asked : Asked) (limit : ℕ) (d : Option Packet) → decoded ≡ d →
          May (reader_action mode asked limit from d)
      reader_takes mode asked limit (Some (Data number piece)) is =
          search (std_rules, either, length, receiver_takes, true, default_terms, plain, no_answer_takes)
      reader_takes mode asked limit d is = search (rules, Hears, accept_takes, no_answer_takes)

      writer_takes : (mode : Mode) (asked : Asked) (limit count : ℕ) (d : Option Packet) → decoded ≡ d →
          May (writer_action mode asked limit count from d)
      writer_takes mode asked limit count (Some (Ack number)) is =
          if_either May (number == 0) _ _
          (λ z. begin_takes count (default_terms from) none (plain (Some (Ack number)) is (eqb-true number 0 z)))
          (λ _. no_answer_takes _)
      writer_takes mode asked limit count d is = search (rules, Hears, begin_with_takes, no_answer_takes)

    packet_takes : (e : EndState) (phase : Phase) → known ≡ terms_of phase → May (packet_action e from decoded phase)
    packet_takes e phase has =
        search (rules, either, writer_takes, reader_takes, sender_takes, receiver_takes, Agreed, dally_takes, Ignores)

  garbled_takes : (phase : Phase) → May (Respond (garbled_response phase))
  garbled_takes phase = search (rules, Ignores, Garbled)

-- so it is of the action of an end on a datagram
pub datagram_takes : (e : EndState) (from : Endpoint) (bytes : List ℕ) (decoded : Option Packet) →
    MayTake (terms_of e.position.phase) from decoded
    (is_wrong_peer (terms_of e.position.phase) e.position.last_sent_to from) (datagram_action e from bytes decoded)
datagram_takes e from bytes decoded =
    let known = terms_of e.position.phase in
    let wrong = is_wrong_peer known e.position.last_sent_to from in
    let May = MayTake known from decoded wrong in
    if_either May wrong _ _
    (λ yes. if_either May (has_error_opcode bytes) _ _ (λ _. Ignores) (λ _. Stranger yes))
    (λ no. if_either May (has_error_opcode bytes && is_none decoded) _ _
    (λ _. garbled_takes known from decoded wrong e.position.phase) (λ _. packet_takes known from decoded wrong no e _ refl))
