-- What holds of the action of an end for a packet. For `End::datagram_action` and RowLemmas.
use Rattle.tftp_ends.proofs.Common.{◌≡◌, ◌<◌, ◌∙◌, ℕ, Bool, true, false, List, [], length, Option, Some, None, Result}
use Rattle.tftp_ends.proofs.Common.{Ok, Err, refl, sym, ap, subst, ◌≤◌, arith, lt-ltb, eqb-true, ◌==◌, ◌&&◌, ◌||◌, not}
use Rattle.tftp_ends.proofs.Common.{nat_lt, nat_le, if◌then◌else◌, Packet, Read, Write, Data, Ack, Error, Oack, Spells}
use Rattle.tftp_ends.proofs.Common.{DEFAULT_BLOCK, Asked, Known, Refusal, agreement, Action, Respond, Store, Refuse}
use Rattle.tftp_ends.proofs.Common.{Endpoint, FileTooLarge, NotNetascii, Phase, Waiting, Sending, Receiving, Dallying}
use Rattle.tftp_ends.proofs.Common.{Closed, Terms, Decodes, packet_action, is_wrong_peer, EndState, is_sender, terms_of}
use Rattle.tftp_ends.proofs.Common.{number_of, receiver_action, next_action, illegal_action, BytesFit, ack_bytes}
use Rattle.tftp_ends.proofs.Common.{is_readable, reader_action, writer_action, accept_action, refusal_action}
use Rattle.tftp_ends.proofs.Common.{default_terms, no_answer}
use Rattle.std.proofs.Common.{drop, rules}
use Rattle.tftp_wire.specs.declared.limits.TheConstants.{MAX_REQUEST}
use Rattle.tftp_negotiate.specs.declared.known.Kind.TheVariants as kinds
use Rattle.tftp_negotiate.specs.declared.refusal.Refusal.TheVariants as refusals
use Rattle.tftp_ends.specs.declared.outcome.Outcome.TheVariants as outcomes
use Rattle.tftp_ends.specs.Action.{datagram_action}
use Rattle.tftp_ends.specs.End.{is_client}
use Rattle.tftp_ends.specs.Receiver.{data_action, dally_response}
use Rattle.tftp_ends.specs.Sender.{sender_action}
use Rattle.tftp_ends.specs.Sound.{IsSound, PhaseFits, ResendsAck, HasAcknowledged}
use Rattle.tftp_ends.specs.Fits.{SentFits}

-- both cases of a test
if_either : {A : Type 0} (P : A → Type 0) (b : Bool) (r s : A) → (b ≡ true → P r) → (b ≡ false → P s) →
    P (if b then r else s)
if_either P true r s f g = f refl
if_either P false r s f g = g refl

-- the bytes of a DATA
pub data_after_header : (number : ℕ) (piece bytes : List ℕ) → Spells (Data number piece) bytes → piece ≡ drop 4 bytes
data_after_header number piece bytes s = sym (ap (drop 4) s.whole)

-- DATA has a number from 1 on
positive : {number : ℕ} {piece bytes : List ℕ} → Spells (Data number piece) bytes → 0 < number
positive d = let n = d.valid.0 in omega (arith, n)

-- one of three
last_true : (a b c : Bool) → c ≡ true → (a || (b || c)) ≡ true
last_true true b c h = refl
last_true false true c h = refl
last_true false false c h = h

-- any terms allow the request of an end that had none
pub sent_any : (e : EndState) (terms : Option Terms) → length e.position.last_sent ≤ MAX_REQUEST → SentFits e terms
sent_any e None w = w
sent_any e (Some terms) w = omega (arith, w)

module _ (e : EndState) (from : Endpoint) (bytes : List ℕ) where
  -- what an action requires of the end and of the datagram
  abbrev Fits : Action → Type 0
  Fits action = BytesFit e bytes action

  -- the last datagram sent is the ACK of the number
  abbrev HasAcked : Type 0
  HasAcked = e.position.last_sent ≡ ack_bytes (number_of e.position.phase)

  sender_fits : (client : Bool) (terms : Terms) (number : ℕ) (decoded : Option Packet) → SentFits e (Some terms) →
      Fits (sender_action client e.role.length terms number decoded)
  sender_fits client terms number decoded s = search rules

  next_fits : (held : List ℕ) (terms : Terms) (number : ℕ) (piece : List ℕ) → SentFits e (Some terms) →
      e.position.held_back ≡ held → Spells (Data number piece) bytes →
      Fits (next_action e.role.mode held terms number piece)
  next_fits held terms number piece s h d =
      let p = data_after_header number piece bytes d in
      let last = nat_lt (length piece) terms.size in
      let store =
      if is_readable e.role.mode held piece last then Store terms number else Respond (Refuse (Some terms) NotNetascii
      outcomes.NotNetascii) in
      let fitting =
      if number == 65535 && (length piece == terms.size) then Respond (Refuse (Some terms) FileTooLarge
      outcomes.TooLarge) else store in
      if_either Fits (nat_lt terms.size (length piece)) (illegal_action terms) fitting (λ _. s) (λ _. if_either Fits
      (number == 65535 && (length piece == terms.size)) (Respond (Refuse (Some terms) FileTooLarge outcomes.TooLarge))
      store (λ _. s) (λ _. if_either Fits (is_readable e.role.mode held piece last) (Store terms number) (Respond
      (Refuse (Some terms) NotNetascii outcomes.NotNetascii)) (λ readable. (
        s,
        search (
          subst (λ (t : List ℕ). Spells (Data number t) bytes) p d,
          subst (λ (t : List ℕ). is_readable
              e.role.mode t (drop 4 bytes) (nat_lt (length (drop 4 bytes)) terms.size) ≡ true) (sym h) (subst (λ (t :
              List ℕ). is_readable e.role.mode held t (nat_lt (length t) terms.size) ≡ true) p readable),
        ),
      )) (λ _. s)))

  data_fits : (held : List ℕ) (terms : Terms) (stored number : ℕ) (piece : List ℕ) → SentFits e (Some terms) →
      e.position.held_back ≡ held → (0 < stored → HasAcked) → Spells (Data number piece) bytes →
      Fits (data_action e.role.mode held terms stored number piece)
  data_fits held terms stored number piece s h acked d =
      search (rules, next_action, illegal_action, nat_lt, if_either, eqb-true, positive, next_fits)

  receiver_fits : (client : Bool) (held : List ℕ) (terms : Terms) (stored : ℕ) (decoded : Option Packet) →
      SentFits e (Some terms) → e.position.held_back ≡ held →
      ((client || (not terms.by_oack || nat_lt 0 stored)) ≡ true → HasAcked) → Decodes bytes decoded →
      Fits (receiver_action client e.role.mode held terms stored decoded)
  receiver_fits client held terms stored None s h acked d = s
  receiver_fits client held terms stored (Some (Read r)) s h acked d = s
  receiver_fits client held terms stored (Some (Write r)) s h acked d = s
  receiver_fits client held terms stored (Some (Data number piece)) s h acked d =
      data_fits _ _ _ _ _ s h (λ l. acked (last_true client (not terms.by_oack) _ (lt-ltb 0 stored l))) d
  receiver_fits client held terms stored (Some (Ack acked_now)) s h acked d = s
  receiver_fits client held terms stored (Some (Error code text)) s h acked d = tt
  receiver_fits client held terms stored (Some (Oack options)) s h acked d = search rules

  refusal_fits : (refusal : Refusal) → length e.position.last_sent ≤ MAX_REQUEST → Fits (refusal_action refusal)
  refusal_fits refusal w = search rules

  accept_fits : (answer : Result (List Known) Refusal) → length e.position.last_sent ≤ MAX_REQUEST →
      Fits (accept_action from answer)
  accept_fits (Ok agreed) w = tt
  accept_fits (Err refusal) w = refusal_fits refusal w

  reader_fits : (asked : Asked) (limit : ℕ) (decoded : Option Packet) → length e.position.last_sent ≤ MAX_REQUEST →
      e.position.held_back ≡ [] → Decodes bytes decoded → Fits (reader_action e.role.mode asked limit from decoded)
  reader_fits asked limit None w h d = w
  reader_fits asked limit (Some (Read r)) w h d = w
  reader_fits asked limit (Some (Write r)) w h d = w
  reader_fits asked limit (Some (Data number piece)) w h d =
      let first = receiver_action true e.role.mode [] (default_terms from) 0 (Some (Data number piece)) in
      if_either Fits (number == 1 && nat_le (length piece) DEFAULT_BLOCK) first no_answer
      (λ _. data_fits [] (default_terms from) 0 number piece (sent_any e (Some (default_terms from)) w) h
      (λ l. absurd (let no : ⊥ = omega (arith, l) in no)) d)
      (λ _. w)
  reader_fits asked limit (Some (Ack acked)) w h d = w
  reader_fits asked limit (Some (Error code text)) w h d = tt
  reader_fits asked limit (Some (Oack options)) w h d =
      accept_fits (agreement asked kinds.Read e.role.mode options limit) w

  writer_fits : (asked : Asked) (limit : ℕ) (decoded : Option Packet) → length e.position.last_sent ≤ MAX_REQUEST →
      Fits (writer_action e.role.mode asked limit e.role.length from decoded)
  writer_fits asked limit decoded w = search rules

  -- the last datagram of an end that has acknowledged what it stored
  has_acked : (terms : Terms) (number : ℕ) → number_of e.position.phase ≡ number → HasAcknowledged e terms number →
      (is_client e.role.side || (not terms.by_oack || nat_lt 0 number)) ≡ true → HasAcked
  has_acked terms number same acknowledged may = acknowledged may ∙ ap ack_bytes (sym same)

  dally_fits : (terms : Terms) (number : ℕ) (decoded : Option Packet) → number_of e.position.phase ≡ number →
      HasAcknowledged e terms number → Decodes bytes decoded → Fits (Respond (dally_response number decoded))
  dally_fits terms number decoded same acknowledged d = search rules

  phase_fits : (decoded : Option Packet) (phase : Phase) → number_of e.position.phase ≡ number_of phase →
      PhaseFits e phase → ResendsAck e phase → SentFits e (terms_of phase) → Decodes bytes decoded →
      Fits (packet_action e from decoded phase)
  phase_fits decoded (Waiting asked limit) same fits resends s d =
      if_either Fits (is_sender e.role.side) (writer_action e.role.mode asked limit e.role.length from decoded)
      (reader_action e.role.mode asked limit from decoded)
      (λ _. writer_fits asked limit decoded s) (λ _. reader_fits asked limit decoded s fits.2 d)
  phase_fits decoded (Sending terms number) same fits resends s d =
      sender_fits (is_client e.role.side) terms number decoded s
  phase_fits decoded (Receiving terms number) same fits resends s d =
      receiver_fits (is_client e.role.side) e.position.held_back terms number decoded s refl
      (has_acked terms number same resends) d
  phase_fits decoded (Dallying terms number dally) same fits resends s d =
      dally_fits terms number decoded same resends d
  phase_fits decoded (Closed terms number complete outcome) same fits resends s d = tt

  -- any action for a packet
  pub packet_fits : (decoded : Option Packet) → IsSound e → Decodes bytes decoded →
      Fits (packet_action e from decoded e.position.phase)
  packet_fits decoded sound d = phase_fits decoded e.position.phase refl sound.phase sound.resends sound.sent d

-- the action of a receiver for a DATA from its peer
pub data_acts : (e : EndState) (from : Endpoint) (bytes : List ℕ) (terms : Terms) (stored block : ℕ) (piece : List ℕ) →
    e.position.phase ≡ Receiving terms stored →
    is_wrong_peer (terms_of e.position.phase) e.position.last_sent_to from ≡ false →
    datagram_action e from bytes (Some (Data block piece))
    ≡ data_action e.role.mode e.position.held_back terms stored block piece
data_acts e from bytes terms stored block piece phase peer = search rules

-- what it requires
pub data_acts_fit : (e : EndState) (from : Endpoint) (bytes : List ℕ) (terms : Terms) (stored block : ℕ)
    (piece : List ℕ) → IsSound e → e.position.phase ≡ Receiving terms stored → Spells (Data block piece) bytes →
    BytesFit e bytes (data_action e.role.mode e.position.held_back terms stored block piece)
data_acts_fit e from bytes terms stored block piece sound phase spelled =
    subst (λ (p : Phase). BytesFit e bytes (packet_action e from (Some (Data block piece)) p)) phase
    (packet_fits e from bytes (Some (Data block piece)) sound spelled)
