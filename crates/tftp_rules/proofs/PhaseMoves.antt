-- An end by its phase: a sender, a receiver, one that dallies. For EndTurns, WaitingMoves and the crates tftp_player
-- and tftp_promises.
pub use Rattle.std.proofs.lemmas.Bool.{and_parts as both_true}
pub use Rattle.tftp_ends.proofs.RunMoves.{if_either as if_acts}
use Rattle.std.proofs.Common.{rules as std_rules}
use Rattle.tftp_rules.proofs.Common.{◌≡◌, List, refl, sym, true, ℕ, rules, arith, ◌∙◌, Some, Bool, length, ◌+◌, ◌<◌}
use Rattle.tftp_rules.proofs.Common.{◌≤◌, Option, eqb-true, ltb-true, ltb-false, Contains, if◌then◌else◌, nat_lt, ◌&&◌}
use Rattle.tftp_rules.proofs.Common.{◌==◌, ◌/◌, Spells, block_count, Holding, Files, same_address, terms_of}
use Rattle.tftp_rules.proofs.Common.{receiver_action, next_action, dally_response, sender_action, Turn, Acts}
use Rattle.tftp_rules.proofs.Common.{is_readable, Action, Respond, Store, Response, Close, Refuse, Ignore, WrongPeer}
use Rattle.tftp_rules.proofs.Common.{Complete, ResendReply, ErrorReply, Outcome, Sending, Receiving, Dallying, Terms}
use Rattle.tftp_rules.proofs.Common.{EndKept, Goes, IsOpenAt, known_source, known_sink, Endpoint, Network, Message}
use Rattle.tftp_rules.proofs.Common.{Says_ack, Says_data, OpenEnd, open_view, files_of, end_after, with_phase, goes_on}
use Rattle.tftp_rules.proofs.Common.{Rule, message, IsNext, said, EndView, party_of, WirePacket, same_text}
use Rattle.tftp_wire.specs.declared.packet.Packet.TheVariants.{Data, Ack}
use Rattle.tftp_ends.specs.declared.phase.Dally.{Dally}
use Rattle.tftp_ends.specs.Receiver.{data_action}
use Rattle.tftp_ends.specs.Action.{same_endpoint}
use Rattle.tftp_ends.specs.Sender.{acked_action, illegal_action}
use Rattle.tftp_rules.proofs.Actions.{stores, refuses_next}
use Rattle.tftp_rules.proofs.SaidLemmas.{data_of}
use Rattle.tftp_rules.proofs.EndMoves.{Responding, from_response, ignores, answers_wrong_peer, answers_again, gives_up}
use Rattle.tftp_rules.proofs.EndMoves.{refuses_now}
use Rattle.tftp_rules.proofs.SourceMoves.{data_goes, sends_next, ends_whole}
use Rattle.tftp_rules.proofs.SinkMoves.{Receives, block_goes}
use Rattle.tftp_ends.specs.declared.error_reply.ErrorReply.TheVariants as replies
use Rattle.tftp_ends.specs.declared.outcome.Outcome.TheVariants as outcomes

-- endpoints of the same address by the test of an end have one address
pub same_ips : (a b : Endpoint) → same_address a b ≡ true → a.ip ≡ b.ip
same_ips a b e = same_text a.ip b.ip (sym e)

-- endpoints that are the same by the test of an end are one
pub same_endpoints : (a b : Endpoint) → same_endpoint a b ≡ true → a ≡ b
same_endpoints a b e = search rules

-- the packet that was handled was sent
abbrev pub OfDecoded : List Message → Endpoint → OpenEnd → Option WirePacket → Type 0
OfDecoded messages from x decoded =
    (p : WirePacket) → decoded ≡ Some p → Contains messages (message from x.address (said p))

module _ (network : Network) where
  -- the result of an action is shown
  abbrev pub Acting : List Rule → List EndView → List Message → ℕ → OpenEnd → Endpoint → List ℕ → Action → Type 0
  Acting first views messages k x from bytes action =
      (turn : Turn) (held : Files (List ℕ) Holding) →
      Acts known_source known_sink action from bytes x.state (files_of x) turn held →
      Goes network first views messages k x turn (end_after x turn held)

module _ {network : Network} {first : List Rule} {views : List EndView} {messages : List Message} {k : ℕ} {x : OpenEnd}
    (h : IsOpenAt network first views messages k x) (from : Endpoint) (bytes : List ℕ) where
  -- a response that is shown is an action that is
  pub responds : (response : Response) → Responding network first views messages k x response from →
      Acting network first views messages k x from bytes (Respond response)
  responds response g turn held a = from_response network first views messages k x response from turn held g a

  pub ignore_acts : Acting network first views messages k x from bytes (Respond Ignore)
  ignore_acts = responds Ignore (ignores h from)

  pub wrong_peer_acts : Acting network first views messages k x from bytes (Respond WrongPeer)
  wrong_peer_acts = responds WrongPeer (answers_wrong_peer h from)

  pub again_acts : from ≡ x.state.position.last_sent_to →
      Acting network first views messages k x from bytes (Respond ResendReply)
  again_acts same = responds ResendReply (answers_again h from same)

  either_acts : (b : Bool) (r s : Action) → Acting network first views messages k x from bytes r →
      Acting network first views messages k x from bytes s →
      Acting network first views messages k x from bytes (if b then r else s)
  either_acts b r s f g = if_acts (Acting network first views messages k x from bytes) b r s (λ _. f) (λ _. g)

  module _ (going : goes_on x.state.position.phase ≡ true) where
    pub close_acts : (outcome : Outcome) → Acting network first views messages k x from bytes (Respond (Close outcome))
    close_acts outcome = responds (Close outcome) (gives_up h outcome from going)

    pub refuse_acts : (reply : ErrorReply) (outcome : Outcome) → Acting network first views messages k x from bytes
        (Respond (Refuse (terms_of x.state.position.phase) reply outcome))
    refuse_acts reply outcome = search (std_rules, responds, terms_of, refuses_now)

module _ {network : Network} {first : List Rule} {views : List EndView} {messages : List Message} {k : ℕ} (x : OpenEnd)
    (terms : Terms) (number : ℕ) (from : Endpoint) (bytes piece : List ℕ) (kept : EndKept network x) where
  -- the next block of a receiver, if it is shown to store that, and to refuse it
  pub next_acts : (held : List ℕ) → held ≡ x.state.position.held_back → Spells (Data number piece) bytes →
      (length piece ≤ terms.size → Receives network first views messages k x terms number from piece) →
      ((reply : ErrorReply) (outcome : Outcome) →
      Acting network first views messages k x from bytes (Respond (Refuse (Some terms) reply outcome))) →
      Acting network first views messages k x from bytes (next_action x.state.role.mode held terms number piece)
  next_acts held is spelled got refuse =
      let P = Acting network first views messages k x from bytes in
      let reads = is_readable x.state.role.mode held piece (nat_lt (length piece) terms.size) in
      let unreadable = Respond (Refuse (Some terms) replies.NotNetascii outcomes.NotNetascii) in
      if_acts P _ _ _ (λ e. refuse replies.IllegalOperation outcomes.Illegal) (λ e. if_acts P
      (number == 65535 && (length piece == terms.size)) (Respond (Refuse (Some terms) replies.FileTooLarge
      outcomes.TooLarge)) (if reads then Store terms number else unreadable)
      (λ f. refuse replies.FileTooLarge outcomes.TooLarge) (λ f. if_acts P reads (Store terms number) unreadable
      (λ readable turn after a. block_goes kept (got (ltb-false terms.size (length piece) e)) (rw is at readable) _ _
      (rw (sym (data_of number a.0 bytes a.1) ∙ data_of number piece bytes spelled) at a.2))
      (λ g. refuse replies.NotNetascii outcomes.NotNetascii)))

module _ {network : Network} {first : List Rule} {views : List EndView} {messages : List Message} {k : ℕ} (x0 : OpenEnd)
    (terms : Terms) (n : ℕ) (h : IsOpenAt network first views messages k (with_phase (Sending terms n) x0))
    (from : Endpoint) (bytes : List ℕ) (peer : terms.peer ≡ from) where
  abbrev Sends : Action → Type 0
  Sends action = Acting network first views messages k (with_phase (Sending terms n) x0) from bytes action

  illegal_sender : Sends (illegal_action terms)
  illegal_sender = refuse_acts h from bytes refl replies.IllegalOperation outcomes.Illegal

  -- a sender with an ACK
  acked_acts : (acked : ℕ) → Contains messages (message from x0.address (Says_ack acked)) →
      Sends (acked_action x0.state.role.length terms n acked)
  acked_acts acked come =
      let u = h.kept.phase in
      let count = x0.state.role.length / terms.size + 1 in
      let measured : x0.state.role.length ≡ length x0.text = u.measured in
      if_acts Sends (acked == n) _ _ (λ e.
      let here : Contains messages (message from x0.address (Says_ack n)) = rw (← eqb-true acked n e) come in
      if_acts Sends (nat_lt n count) _ _ (λ l.
      let more : n < block_count x0.text terms.size = rw (← measured) (ltb-true n count l) in
      data_goes terms n from u.sender measured u.left (sends_next x0 terms n h from peer here more) (refuses_now h
      replies.FileChanged outcomes.SourceFault from refl)) (λ l. let least : block_count x0.text terms.size ≤ n = rw (←
      measured) (ltb-false n count l) in
      responds h from bytes Complete (ends_whole x0 terms n h from peer here (omega arith)))) (λ e. if_acts Sends
      (nat_lt acked n) _ _ (λ l. ignore_acts h from bytes) (λ l. illegal_sender))

  -- a sender with any packet
  pub sender_acts : (client : Bool) (decoded : Option WirePacket) → OfDecoded messages from x0 decoded →
      Sends (sender_action client x0.state.role.length terms n decoded)
  sender_acts client (Some (Ack acked)) come = acked_acts acked (come (Ack acked) refl)
  sender_acts client decoded come = search (rules, either_acts, illegal_sender, ignore_acts, close_acts)

module _ {network : Network} {first : List Rule} {views : List EndView} {messages : List Message} {k : ℕ} (x0 : OpenEnd)
    (terms : Terms) (n : ℕ) (h : IsOpenAt network first views messages k (with_phase (Receiving terms n) x0))
    (from : Endpoint) (bytes : List ℕ) (peer : terms.peer ≡ from) where
  abbrev Gets : Action → Type 0
  Gets action = Acting network first views messages k (with_phase (Receiving terms n) x0) from bytes action

  refuse_receiver : (reply : ErrorReply) (outcome : Outcome) → Gets (Respond (Refuse (Some terms) reply outcome))
  refuse_receiver = refuse_acts h from bytes refl

  again_receiver : Gets (Respond ResendReply)
  again_receiver = again_acts h from bytes (sym peer ∙ sym h.kept.phase.1)

  -- a receiver with its next block
  block_acts : (number : ℕ) (piece : List ℕ) → number ≡ n + 1 → Spells (Data number piece) bytes →
      Contains messages (message from x0.address (Says_data number piece)) →
      Gets (next_action x0.state.role.mode x0.state.position.held_back terms number piece)
  block_acts number piece is spelled come =
      let x = with_phase (Receiving terms n) x0 in
      let kept = h.kept in
      next_acts x terms number from bytes piece kept x0.state.position.held_back refl spelled (λ l.
      let next : IsNext messages (party_of (open_view x)) x0.address from piece = search std_rules in
      record {
        receiver = kept.phase.0;
        going = refl;
        incomplete = refl;
        peer = sym peer;
        fits = spelled.valid.1;
        stored = rw (sym is) at (stores h.stands from piece next);
        refused = λ t b. refuses_next h.stands from piece t next b;
      }) refuse_receiver

  data_acts : (number : ℕ) (piece : List ℕ) → Spells (Data number piece) bytes →
      Contains messages (message from x0.address (Says_data number piece)) →
      Gets (data_action x0.state.role.mode x0.state.position.held_back terms n number piece)
  data_acts number piece spelled come =
      if_acts Gets (number == n) _ _ (λ e. again_receiver) (λ e. if_acts Gets (nat_lt number n) _ _
      (λ f. ignore_acts h from bytes) (λ f. if_acts Gets _ _ _
      (λ g. block_acts number piece (eqb-true number (n + 1) g) spelled come)
      (λ g. refuse_receiver replies.IllegalOperation outcomes.Illegal)))

  -- a receiver with any packet
  pub receiver_acts : (client : Bool) (decoded : Option WirePacket) →
      ((p : WirePacket) → decoded ≡ Some p → Spells p bytes) → OfDecoded messages from x0 decoded →
      Gets (receiver_action client x0.state.role.mode x0.state.position.held_back terms n decoded)
  receiver_acts client (Some (Data number piece)) spelled come =
      data_acts _ _ (spelled (Data number piece) refl) (come (Data number piece) refl)
  receiver_acts client decoded spelled come =
      search (rules, either_acts, again_receiver, ignore_acts, refuse_receiver, close_acts)

module _ {network : Network} {first : List Rule} {views : List EndView} {messages : List Message} {k : ℕ} (x0 : OpenEnd)
    (terms : Terms) (n : ℕ) (dally : Dally)
    (h : IsOpenAt network first views messages k (with_phase (Dallying terms n dally) x0)) (from : Endpoint)
    (bytes : List ℕ) (peer : terms.peer ≡ from) where
  abbrev Dallies : Response → Type 0
  Dallies response = Acting network first views messages k (with_phase (Dallying terms n dally) x0) from bytes
      (Respond response)

  -- a receiver that dallies, with any packet
  pub dally_acts : (decoded : Option WirePacket) → Dallies (dally_response n decoded)
  dally_acts (Some (Data number piece)) =
      if_acts Dallies (number == n) ResendReply Ignore
      (λ e. again_acts h from bytes (sym peer ∙ sym h.kept.phase.1)) (λ e. ignore_acts h from bytes)
  dally_acts decoded = ignore_acts h from bytes
