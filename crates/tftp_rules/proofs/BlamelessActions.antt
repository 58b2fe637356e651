-- No action on a datagram blames a peer that is no stranger, which sent what is true.
-- For the laws on blame of worlds (tftp_player) and of programs (tftp_promises).
use Rattle.std.proofs.Common.{rules as std_rules}
use Rattle.tftp_rules.proofs.Common.{◌≡◌, List, refl, sym, true, [], false, ℕ, arith, ◌∙◌, Some, Bool, ◌++◌, ap, subst}
use Rattle.tftp_rules.proofs.Common.{length, ◌+◌, ◌<◌, ◌≤◌, None, inr, ◌*◌, Option, Ok, not, Result, Err, take}
use Rattle.tftp_rules.proofs.Common.{std_rules, true≢false, eqb-true, ltb-false, Contains, ◌≢◌, if◌then◌else◌, nat_lt}
use Rattle.tftp_rules.proofs.Common.{◌&&◌, ◌==◌, slice_get, is_none, option_map, ◌/◌, has_error_opcode, Spells, Mode}
use Rattle.tftp_rules.proofs.Common.{Oack, Read, Write, Asked, Known, DEFAULT_BLOCK, Refusal, block, Fits, wire_text}
use Rattle.tftp_rules.proofs.Common.{is_wrong_peer, datagram_action, Decodes, same_address, garbled_response}
use Rattle.tftp_rules.proofs.Common.{packet_action, is_sender, terms_of, is_client, is_complete, receiver_action}
use Rattle.tftp_rules.proofs.Common.{next_action, dally_response, sender_action, default_terms, reader_action}
use Rattle.tftp_rules.proofs.Common.{writer_action, accept_action, refusal_action, Action, Outcome, Phase, Sending}
use Rattle.tftp_rules.proofs.Common.{Receiving, Dallying, Waiting, Closed, Terms, EndKept, PhaseKept, IsFromServer}
use Rattle.tftp_rules.proofs.Common.{IsThere, Holds, Attests, Endpoint, Network, Message, Machine, Party, Elsewhere}
use Rattle.tftp_rules.proofs.Common.{start, OpenEnd, open_view, has_failed, Rule, message, run, said, EndView, Matches}
use Rattle.tftp_rules.proofs.Common.{IsShownAt, Shows, requested, if_either, one_meaning}
use Rattle.tftp_rules.proofs.PhaseMoves.{both_true}
use Rattle.std.proofs.lemmas.Bool.{le-ltb, eqb-false, not-false}
use Rattle.tftp_wire.specs.declared.packet.Packet.{Packet}
use Rattle.tftp_wire.specs.declared.packet.Packet.TheVariants.{Data, Ack, Error}
use Rattle.tftp_wire.proofs.SpellingLemmas.{spelled_has_no_fault}
use Rattle.tftp_ends.specs.End.{number_of, size_of}
use Rattle.tftp_rules.proofs.BlamelessTurns.{Allowed, CanSend, Fine, FineResponse, no_terms, IsCalm}
use Rattle.tftp_rules.proofs.Grows.{HasPeer, peer_of as peer_is}
use Rattle.tftp_rules.proofs.NumbersNear.{AreNear, near_run, near_start}
use Rattle.tftp_rules.proofs.PlainPeers.{HasPlainPeer, plain_answer}
use Rattle.tftp_rules.proofs.RulesGrow.{run_fit, start_fit, GoToPort, run_goes, start_goes}
use Rattle.tftp_rules.proofs.Runs.{Holds-start, Holds-run}
use Rattle.tftp_rules.proofs.SaidLemmas.{says_spelled}
use Rattle.tftp_rules.proofs.Steps.{own_of, same_size, server_end}
use Rattle.tftp_rules.proofs.StorableBlocks.{IsStorable, storable}
use Rattle.tftp_ends.specs.declared.outcome.Outcome.TheVariants as outcomes

-- bytes that spell a packet are decoded as that one
pub decoded_is : (bytes : List ℕ) (packet : Packet) (decoded : Option Packet) → Spells packet bytes →
    Decodes bytes decoded → decoded ≡ Some packet
decoded_is bytes packet (Some q) s t = ap (λ (p : Packet). Some p) (one_meaning q packet bytes t s)
decoded_is bytes packet None s t =
    absurd (let f : None ≡ Some t.0 = sym (spelled_has_no_fault packet bytes s) ∙ t.1 in cc)

-- ---- an end that is shown, with a datagram that arrives there
module _ (network : Network) (Blames : Endpoint → Outcome → Type 0) (calm : IsCalm Blames) (rules : List Rule)
    (views : List EndView) (messages : List Message) (shown : IsShownAt network rules views messages) (k : ℕ)
    (x : OpenEnd) (there : slice_get views k ≡ Some (open_view x)) (kept : EndKept network x)
    (not_port : x.address ≢ network.request_port)
    (from : Endpoint) (bytes : List ℕ)
    -- what is no stranger's was sent there
    (arrives : network.host_of from ≢ Elsewhere → IsThere messages from x.address bytes)
    -- an answer is the server's
    (serves : IsFromServer network x from bytes)
    -- a client that took no OACK has a peer that was opened without options
    (plain : is_client x.state.role.side ≡ true → (t : Terms) → terms_of x.state.position.phase ≡ Some t →
    HasPlainPeer (Machine.party (run network rules start)) t)
    -- the text of a peer that may be blamed as no netascii is that of a file
    (readable : network.host_of from ≢ Elsewhere → Blames from outcomes.NotNetascii →
    (Machine.party (run network rules start) from).is_open ≡ true →
    (Machine.party (run network rules start) from).sender ≡ true →
    (Machine.party (run network rules start) from).mode ≡ x.state.role.mode →
    (file : List ℕ) × (wire_text x.state.role.mode file ≡ (Machine.party (run network rules start) from).text))
    (decoded : Option Packet) (says : Decodes bytes decoded) where
  abbrev m : Machine
  m = run network rules start

  holds : Holds network m
  holds = Holds-run network rules start (Holds-start network) shown.0

  near : AreNear network m.party
  near = near_run network rules start (Holds-start network) (near_start network) shown.0

  shows : Shows views messages m
  shows = shown.1

  abbrev ends : Endpoint → Party
  ends = Machine.party m

  abbrev now : Phase
  now = x.state.position.phase

  abbrev IsText : Type 0
  IsText = Blames from outcomes.NotNetascii

  abbrev Ours : Type 0
  Ours = network.host_of from ≢ Elsewhere

  abbrev Blames_none : Option Terms → Action → Type 0
  Blames_none known action = Fine network Blames x known action

  -- of two actions, with what was tested
  either : (known : Option Terms) (b : Bool) (one two : Action) → (b ≡ true → Blames_none known one) →
      (b ≡ false → Blames_none known two) → Blames_none known (if b then one else two)
  either known = if_either (Blames_none known)

  at_x : Matches (open_view x) (ends x.address)
  at_x = shows.ends k (open_view x) there

  own_x : network.host_of x.address ≢ Elsewhere
  own_x = own_of network m holds x.address at_x.is_open

  none_garbled : Ours → decoded ≡ None → ⊥
  none_garbled own none =
      let p = arrives own in
      let f : Some p.0 ≡ None = sym (decoded_is bytes p.0 decoded p.1 says) ∙ none in cc

  told : Ours → (p : Packet) → decoded ≡ Some p → Contains messages (message from x.address (said p))
  told own p is =
      let t = arrives own in
      rw (← one_meaning t.0 p bytes t.1 (says_spelled bytes decoded says p is)) t.2

  truth : Ours → (p : Packet) → decoded ≡ Some p → Attests (ends from) x.address (said p)
  truth own p is = holds.attested (message from x.address (said p)) (rw (shows.sent) (told own p is)) own

  port_only : GoToPort network messages
  port_only = search (std_rules, run_goes, start_goes)

  no_request : Ours → (write : Bool) (r : _) → decoded ≡ Some (requested write r) → ⊥
  no_request own write r is = search (std_rules, port_only, message, said, told)

  fit_peer : Ours → (n : ℕ) (piece : List ℕ) → decoded ≡ Some (Data n piece) →
      Fits (ends from).text (ends from).size
  fit_peer own n piece is =
      let t = truth own (Data n piece) is in
      let low = t.first in
      let many = t.number in
      run_fit network rules start (Holds-start network) (start_fit network) shown.0 from t.is_open
      t.sender x.address t.peer (inr (let z : 1 ≤ (ends from).number = omega (arith, low, many) in z))

  -- a peer is blamed for no outcome that does not blame it if it is ours
  blamed : (terms : Terms) → terms.peer ≡ from → (o : Outcome) → (Ours → Blames from o → ⊥) →
      Allowed network Blames (Some terms) o
  blamed terms same o h p e own b = search std_rules

  -- the next block
  next_fine : (known : Option Terms) (terms : Terms) → terms.peer ≡ from → (mode : Mode) (held : List ℕ) (number : ℕ)
      (piece : List ℕ) → (Ours → IsStorable IsText mode held terms.size number piece) →
      Blames_none known (next_action mode held terms number piece)
  next_fine known terms same mode held number piece h =
      either known _ _ _ (λ long. blamed terms same outcomes.Illegal (λ own b.
      true≢false (sym long ∙ le-ltb terms.size (length piece) (h own).within))) (λ _. either known _ _ _ (λ full. blamed
      terms same outcomes.TooLarge (λ own b.
      let both = both_true _ _ full in
      (h own).short (eqb-true number 65535 both.0) (eqb-true (length piece) terms.size both.1))) (λ _. either _ _ _ _
      (λ _. tt) (λ bad. blamed terms same outcomes.NotNetascii (λ own b. true≢false (sym ((h own).readable b) ∙ bad)))))

  -- ---- from the peer of an end that has one
  module _ (terms : Terms) (known : terms_of now ≡ Some terms) (same : terms.peer ≡ from) where
    peer_x : (ends x.address).peer ≡ Some from
    peer_x = at_x.peer ∙ (ap (option_map (λ (t : Terms). t.peer)) known ∙ ap Some same)

    size_x : (ends x.address).size ≡ terms.size
    size_x = at_x.size ∙ ap size_of known

    pair : Ours → HasPeer (ends x.address) (ends from)
    pair own = peer_is network ends x.address (ends x.address) (holds.ends x.address at_x.is_open) from peer_x
        own

    no_oack : Ours → (options : _) → decoded ≡ Some (Oack options) →
        (is_client x.state.role.side && terms.by_oack) ≡ false → ⊥
    no_oack own options is f =
        let t = truth own (Oack options) is in
        let client = sym at_x.client ∙ not-false (ends x.address).client (sym (pair own).client ∙ t.client) in
        let p = plain client terms known (rw client at f) in
        true≢false (sym p.1 ∙ (ap (λ (a : Endpoint). (ends a).plain) same ∙ t.plain))

    -- ---- a sender
    sender_fine : (n : ℕ) → now ≡ Sending terms n → (d : Option Packet) → decoded ≡ d →
        Blames_none (Some terms) (sender_action (is_client x.state.role.side) x.state.role.length terms n d)
    sender_fine n phase None is = blamed terms same outcomes.Illegal (λ own b. none_garbled own is)
    sender_fine n phase (Some (Read r)) is = blamed terms same outcomes.Illegal (λ own b. no_request own false r is)
    sender_fine n phase (Some (Write r)) is = blamed terms same outcomes.Illegal (λ own b. no_request own true r is)
    sender_fine n phase (Some (Data j piece)) is =
        blamed terms same outcomes.Illegal (λ own b.
        let kept_now =
        subst (λ (p : Phase). PhaseKept network x p) phase kept.phase in
        let sends : (ends x.address).sender ≡ true = at_x.sender ∙ kept_now.sender in
        let t = truth own (Data j piece) is in
        true≢false (sym t.sender ∙ ((pair own).sender ∙ ap not sends)))
    sender_fine n phase (Some (Ack acked)) is =
        either (Some terms) (acked == n) _ _
        (λ _. either (Some terms) (nat_lt n (x.state.role.length / terms.size + 1)) _ _
        (λ _. let kept_now =
        subst (λ (p : Phase). PhaseKept network x p) phase kept.phase in
        record { before = n; next = refl; sender = kept_now.sender; measured = kept_now.measured; left = kept_now.left })
        (λ _. tt))
        (λ other. either (Some terms) (nat_lt acked n) _ _ (λ _. tt)
        (λ late. blamed terms same outcomes.Illegal (λ own b.
        let t = truth own (Ack acked) is in
        let h = (near from t.is_open).stores t.sender x.address t.peer own_x in
        let few = t.number in
        let number : (ends x.address).number ≡ n = at_x.number ∙ ap number_of phase in
        let past : n ≤ acked = ltb-false acked n late in
        eqb-false acked n other (omega (arith, h, few, number, past)))))
    sender_fine n phase (Some (Error code text)) is = λ p e own b. calm.heard p code b
    sender_fine n phase (Some (Oack options)) is =
        either (Some terms) (is_client x.state.role.side && terms.by_oack) _ _ (λ _. tt)
        (λ f. blamed terms same outcomes.Illegal (λ own b. no_oack own options is f))

    -- ---- a receiver
    module _ (n : ℕ) (phase : now ≡ Receiving terms n) where
      receives : is_sender x.state.role.side ≡ false
      receives =
          (subst (λ (p : Phase). PhaseKept network x p) phase kept.phase).0

      number_x : (ends x.address).number ≡ n
      number_x = at_x.number ∙ ap number_of phase

      can_store : (piece : List ℕ) → decoded ≡ Some (Data (n + 1) piece) → Ours →
          IsStorable IsText x.state.role.mode x.state.position.held_back terms.size (n + 1) piece
      can_store piece is own =
          let t = truth own _ is in
          let q = pair own in
          let mode_is = q.mode ∙ at_x.mode in
          let sizes = sym (same_size _ m holds _ _ (at_x.is_open, t.is_open, peer_x, t.peer)) ∙ size_x in
          let positive = subst (λ (j : ℕ). 0 < j) size_x (holds.ends x.address at_x.is_open).positive in
          let fits = subst (λ (j : ℕ). Fits (ends from).text j) sizes (fit_peer own _ _ is) in
          let has = (holds.ends x.address at_x.is_open).received (at_x.sender ∙ receives) from peer_x own in
          let not_done = at_x.complete ∙ ap is_complete phase in
          let stored = wire_text x.state.role.mode x.stored in
          let mine : (ends x.address).text ≡ stored ++ x.state.position.held_back = search std_rules in
          let received =
          sym mine ∙ (has.so_far not_done (at_x.failed ∙ ap has_failed phase) ∙ (ap (λ (j : ℕ). take (j * (ends
          x.address).size) (ends from).text) number_x ∙ ap (λ (j : ℕ). take (n * j) (ends from).text) size_x)) in
          let room =
          subst (λ (j : ℕ). n * j ≤ length (ends from).text) size_x (subst (λ (j : ℕ). j * (ends x.address).size ≤
          length (ends from).text) number_x (has.room not_done)) in
          storable IsText x.state.role.mode x.stored x.state.position.held_back (ends from).text _ n piece positive fits
          (λ b. readable own b t.is_open t.sender mode_is) received room (t.bytes ∙ ap (λ (j : ℕ). block (ends
          from).text j (n + 1)) sizes)

      receiver_fine : (d : Option Packet) → decoded ≡ d →
          Blames_none (Some terms)
          (receiver_action (is_client x.state.role.side) x.state.role.mode x.state.position.held_back terms n d)
      receiver_fine None is = blamed terms same outcomes.Illegal (λ own b. none_garbled own is)
      receiver_fine (Some (Read r)) is = blamed terms same outcomes.Illegal (λ own b. no_request own false r is)
      receiver_fine (Some (Write r)) is = blamed terms same outcomes.Illegal (λ own b. no_request own true r is)
      receiver_fine (Some (Data j piece)) is =
          either (Some terms) (j == n) _ _ (λ _. tt)
          (λ other. either (Some terms) (nat_lt j n) _ _ (λ _. tt)
          (λ late. either (Some terms) (j == n + 1) _ _
          (λ next.
          let j_is : j ≡ n + 1 = eqb-true j (n + 1) next in
          next_fine (Some terms) terms same x.state.role.mode x.state.position.held_back j piece (λ own.
          subst (λ (i : ℕ). IsStorable IsText x.state.role.mode x.state.position.held_back terms.size i piece) (sym j_is)
          (can_store piece (is ∙ ap (λ (i : ℕ). Some (Data i piece)) j_is) own)))
          (λ far. blamed terms same outcomes.Illegal (λ own b.
          let t = truth own (Data j piece) is in
          let h = (near from t.is_open).sends t.sender x.address t.peer own_x in
          let few = t.number in
          let number = number_x in
          let past : n ≤ j = ltb-false j n late in
          let low = eqb-false j n other in
          let high = eqb-false j (n + 1) far in
          omega (arith, h, few, number, past, low, high)))))
      receiver_fine (Some (Ack acked)) is =
          blamed terms same outcomes.Illegal (λ own b.
          let t = truth own (Ack acked) is in
          true≢false (sym ((pair own).sender ∙ ap not (at_x.sender ∙ receives)) ∙ t.sender))
      receiver_fine (Some (Error code text)) is = λ p e own b. calm.heard p code b
      receiver_fine (Some (Oack options)) is =
          either (Some terms) (is_client x.state.role.side && terms.by_oack) _ _
          (λ _. either (Some terms) (n == 0) _ _ (λ _. tt) (λ _. tt))
          (λ f. blamed terms same outcomes.Illegal (λ own b. no_oack own options is f))

  refusal_fine : (refusal : Refusal) → Blames_none None (refusal_action refusal)
  refusal_fine refusal = search std_rules

  accept_fine : (r : Result (List Known) Refusal) → Blames_none None (accept_action from r)
  accept_fine (Ok ks) = tt
  accept_fine (Err refusal) = refusal_fine refusal

  can_begin : (asked : Asked) (limit : ℕ) → now ≡ Waiting asked limit → is_sender x.state.role.side ≡ true →
      (terms : Terms) → CanSend x terms 1
  can_begin asked limit phase sends terms = search std_rules

  writer_fine : (mode : Mode) (asked : Asked) (limit count : ℕ) (d : Option Packet) →
      ((terms : Terms) → CanSend x terms 1) → Blames_none None (writer_action mode asked limit count from d)
  writer_fine mode asked limit count d can = search std_rules

  module _ (asked : Asked) (limit : ℕ) (phase : now ≡ Waiting asked limit)
      (right : is_wrong_peer (terms_of now) x.state.position.last_sent_to from ≡ false)
      (receives : is_sender x.state.role.side ≡ false) where
    none_yet : terms_of now ≡ None
    none_yet = ap terms_of phase

    can_store_first : (piece : List ℕ) → decoded ≡ Some (Data 1 piece) → Ours →
        IsStorable IsText x.state.role.mode [] DEFAULT_BLOCK (0 + 1) piece
    can_store_first piece is own =
        let t = truth own (Data 1 piece) is in
        let kept_now = subst (λ (p : Phase). PhaseKept network x p) phase kept.phase in
        let near_port : same_address network.request_port from ≡ true = search std_rules in
        let here =
        serves (ap (option_map (λ (t : Terms). t.peer)) none_yet) near_port (Data 1 piece) (says_spelled bytes decoded
        says (Data 1 piece) is) tt in
        let server = server_end network m holds from t.is_open here in
        let q = peer_is network ends from (ends from) (holds.ends from t.is_open) x.address t.peer own_x in
        let mode_is = sym q.mode ∙ at_x.mode in
        let nobody = at_x.peer ∙ ap (option_map (λ (t : Terms). t.peer)) none_yet in
        let is_plain = plain_answer network m holds x.address from own_x nobody here (Data 1 piece) t tt in
        let small : (ends from).size ≡ DEFAULT_BLOCK = (holds.ends from t.is_open).plain server is_plain.1 in
        let fits = subst (λ (j : ℕ). Fits (ends from).text j) small (fit_peer own 1 piece is) in
        let empty = (holds.ends x.address at_x.is_open).no_peer nobody in
        let stored = wire_text x.state.role.mode x.stored in
        let mine : (ends x.address).text ≡ stored ++ x.state.position.held_back = search std_rules in
        let held = kept_now.4 receives in
        let received = sym (ap (λ (h : List ℕ). stored ++ h) held) ∙ (sym mine ∙ empty.2 (at_x.sender ∙ receives)) in
        storable IsText x.state.role.mode x.stored [] (ends from).text DEFAULT_BLOCK 0 piece (omega arith) fits (λ b.
        readable own b t.is_open t.sender mode_is) received (omega arith) (t.bytes ∙ ap (λ (j : ℕ). block (ends
        from).text j 1) small)

    first_fine : (j : ℕ) (piece : List ℕ) → decoded ≡ Some (Data j piece) → j ≡ 1 →
        Blames_none None
        (receiver_action true x.state.role.mode [] (default_terms from) 0 (Some (Data j piece)))
    first_fine j piece is j_is =
        either None (j == 0) _ _ (λ _. tt)
        (λ _. either None (nat_lt j 0) _ _ (λ _. tt)
        (λ _. either None (j == 0 + 1) _ _
        (λ _. next_fine None (default_terms from) refl x.state.role.mode [] j piece (λ own.
        subst (λ (i : ℕ). IsStorable IsText x.state.role.mode [] DEFAULT_BLOCK i piece) (sym j_is)
        (can_store_first piece (is ∙ ap (λ (i : ℕ). Some (Data i piece)) j_is) own)))
        (λ far. absurd (eqb-false j 1 far j_is))))

    reader_fine : (d : Option Packet) → decoded ≡ d →
        Blames_none None (reader_action x.state.role.mode asked limit from d)
    reader_fine d is =
        search (std_rules, no_terms, either, first_fine, eqb-true, both_true, accept_fine)

  -- ---- in every phase
  abbrev IsRight : Type 0
  IsRight = is_wrong_peer (terms_of now) x.state.position.last_sent_to from ≡ false

  peer_of_now : (terms : Terms) → terms_of now ≡ Some terms → IsRight → terms.peer ≡ from
  peer_of_now terms known right = search std_rules

  dally_fine : (known : Option Terms) (n : ℕ) (d : Option Packet) → FineResponse network Blames known (dally_response n d)
  dally_fine known n d = search std_rules

  packet_fine : (p : Phase) → now ≡ p → IsRight → Blames_none (terms_of p) (packet_action x.state from decoded p)
  packet_fine (Waiting asked limit) e right =
      search (std_rules, either, writer_fine, can_begin, reader_fine)
  packet_fine (Sending terms n) e right =
      let known = ap terms_of e in sender_fine terms known (peer_of_now terms known right) n e decoded refl
  packet_fine (Receiving terms n) e right =
      let known = ap terms_of e in receiver_fine terms known (peer_of_now terms known right) n e decoded refl
  packet_fine (Dallying terms n dally) e right = dally_fine (Some terms) n decoded
  packet_fine (Closed terms n complete outcome) e right = tt

  none_of : (o : Option Packet) → is_none o ≡ true → o ≡ None
  none_of None e = refl
  none_of (Some p) e = absurd (true≢false (sym e))

  garbled_fine : (p : Phase) → now ≡ p → IsRight → is_none decoded ≡ true →
      FineResponse network Blames (terms_of p) (garbled_response p)
  garbled_fine p e right none = search (std_rules, no_terms, blamed, peer_of_now, none_garbled, none_of)

  -- the action on a datagram blames no peer that is no stranger
  pub datagram_fine : Blames_none (terms_of now) (datagram_action x.state from bytes decoded)
  datagram_fine =
      either _ _ _ _ (λ wrong. either (terms_of now) (has_error_opcode bytes) _ _ (λ _. tt) (λ _. tt)) (λ right. either
      (terms_of now) (has_error_opcode bytes && is_none decoded) _ _ (λ g. garbled_fine now refl right (both_true
      (has_error_opcode bytes) (is_none decoded) g).1) (λ _. packet_fine now refl right))
