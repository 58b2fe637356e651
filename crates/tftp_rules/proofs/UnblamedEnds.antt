-- An end that has blamed no peer, and knows whether its peer was opened without options, does so after each turn.
-- For the law on blame of programs (tftp_promises).
use Rattle.tftp_rules.proofs.Common.{◌≡◌, List, refl, sym, true, false, ℕ, ◌∙◌, Some, ◌++◌, ap, subst, None, Option}
use Rattle.tftp_rules.proofs.Common.{std_rules, true≢false, same_Some, Contains, ◌≢◌, slice_get, option_map, ⊤, Spells}
use Rattle.tftp_rules.proofs.Common.{Mode, wire_text, Holding, Files, is_wrong_peer, Decodes, same_address, is_sender}
use Rattle.tftp_rules.proofs.Common.{EndState, terms_of, outcome_of, is_client, Turn, timeout_turn, after_turn}
use Rattle.tftp_rules.proofs.Common.{DatagramStep, default_terms, Outcome, Terms, EndKept, IsFromServer, IsAnswer}
use Rattle.tftp_rules.proofs.Common.{IsThere, Holds, known_source, known_sink, Endpoint, Network, Message, Machine}
use Rattle.tftp_rules.proofs.Common.{Party, Elsewhere, start, OpenEnd, open_view, files_of, Rule, message, run, said}
use Rattle.tftp_rules.proofs.Common.{EndView, Matches, IsShownAt, one_meaning}
use Rattle.tftp_wire.specs.declared.packet.Packet.{Packet}
use Rattle.tftp_ends.specs.declared.role.Role.{Role}
use Rattle.tftp_rules.proofs.ActionCases.{IsPlainAnswer}
use Rattle.tftp_rules.proofs.BlamelessActions.{datagram_fine}
use Rattle.tftp_rules.proofs.BlamelessTurns.{Blameless, IsCalm, acts_blameless}
use Rattle.tftp_rules.proofs.PlainPeers.{HasPlainPeer, AreOpenedAs, opened_as, opened_still, plain_answer, run_opens}
use Rattle.tftp_rules.proofs.PlainPeers.{start_opens}
use Rattle.tftp_rules.proofs.Runs.{Holds-start, Holds-run}
use Rattle.tftp_rules.proofs.Steps.{own_of, own_server, server_end}
use Rattle.tftp_rules.proofs.TermsTaken.{step_are}
use Rattle.tftp_ends.specs.declared.outcome.Outcome.TheVariants as outcomes

-- which outcomes of an end blame its peer there: no netascii does if what that peer sends is the text of a file, and a
-- fault of a source if the end sends nothing
abbrev pub BlamesBy : (Endpoint → Mode → Type 0) → Role → Endpoint → Outcome → Type 0
BlamesBy IsText role p outcomes.Illegal = ⊤
BlamesBy IsText role p outcomes.NotNetascii = IsText p role.mode
BlamesBy IsText role p outcomes.TooLarge = ⊤
BlamesBy IsText role p (outcomes.Refused refusal) = ⊤
BlamesBy IsText role p outcomes.Complete = ⊥
BlamesBy IsText role p outcomes.TimedOut = ⊥
BlamesBy IsText role p (outcomes.PeerError code) = ⊥
BlamesBy IsText role p outcomes.StoreFault = ⊥
BlamesBy IsText role p outcomes.SourceFault = is_sender role.side ≡ false

calm : (IsText : Endpoint → Mode → Type 0) (role : Role) → IsCalm (BlamesBy IsText role)
calm IsText role = search std_rules

-- the peer of these terms was opened without options, unless by an OACK
abbrev IsPlain : List Message → Terms → Type 0
IsPlain messages t = t.by_oack ≡ false → opened_as t.peer messages ≡ Some true

-- the end has blamed no peer that is no stranger; a client that took no OACK has a peer that was opened without options
pub record IsUnblamed (network : Network) (IsText : Endpoint → Mode → Type 0) (messages : List Message) (e : EndState)
    : Type 0 where
  pub blameless : Blameless network (BlamesBy IsText e.role) e.position
  pub plain : is_client e.role.side ≡ true → (t : Terms) → terms_of e.position.phase ≡ Some t → t.by_oack ≡ false →
      opened_as t.peer messages ≡ Some true

module _ (network : Network) {IsText : Endpoint → Mode → Type 0} where
  -- so it is once more was sent
  pub unblamed_still : (messages more : List Message) (e : EndState) → IsUnblamed network IsText messages e →
      IsUnblamed network IsText (messages ++ more) e
  unblamed_still messages more e h = record {
    blameless = h.blameless;
    plain = λ c t is b. opened_still t.peer messages more true (h.plain c t is b);
  }

  -- so is an end that opens
  pub opens_unblamed : (messages : List Message) (e : EndState) → outcome_of e.position.phase ≡ None →
      (is_client e.role.side ≡ true → terms_of e.position.phase ≡ None) → IsUnblamed network IsText messages e
  opens_unblamed messages e still none = search std_rules

  -- and one after a timeout
  pub timeout_unblamed : (messages : List Message) (e : EndState) → IsUnblamed network IsText messages e →
      IsUnblamed network IsText messages (after_turn e (timeout_turn e))
  timeout_unblamed messages e h = search std_rules

plain_is_answer : (p : Packet) → IsPlainAnswer (Some p) → IsAnswer p
plain_is_answer p h = search std_rules

-- ---- an open end that is shown, with a datagram that arrives there
module _ (network : Network) (IsText : Endpoint → Mode → Type 0) (rules : List Rule) (views : List EndView)
    (messages : List Message) (shown : IsShownAt network rules views messages) (k : ℕ) (x : OpenEnd)
    (there : slice_get views k ≡ Some (open_view x)) (kept : EndKept network x)
    (still : outcome_of x.state.position.phase ≡ None) (unblamed : IsUnblamed network IsText messages x.state)
    (not_port : x.address ≢ network.request_port) (from : Endpoint) (bytes : List ℕ)
    (arrives : network.host_of from ≢ Elsewhere → IsThere messages from x.address bytes)
    (serves : IsFromServer network x from bytes)
    (readable : network.host_of from ≢ Elsewhere → IsText from x.state.role.mode →
    (Machine.party (run network rules start) from).is_open ≡ true →
    (Machine.party (run network rules start) from).sender ≡ true →
    (file : List ℕ) × (wire_text x.state.role.mode file ≡ (Machine.party (run network rules start) from).text))
  where
    abbrev m : Machine
    m = run network rules start

    abbrev ends : Endpoint → Party
    ends = Machine.party m

    holds : Holds network m
    holds = Holds-run network rules start (Holds-start network) shown.0

    opened : AreOpenedAs network messages ends
    opened = search (std_rules, run_opens, start_opens)

    at_x : Matches (open_view x) (ends x.address)
    at_x = shown.1.ends k (open_view x) there

    -- its peer was opened so
    has_plain : is_client x.state.role.side ≡ true → (t : Terms) → terms_of x.state.position.phase ≡ Some t →
        HasPlainPeer ends t
    has_plain client t is b =
        let peer : (ends x.address).peer ≡ Some t.peer =
        at_x.peer ∙ ap (option_map (λ (u : Terms). u.peer)) is in
        let serving = ((holds.ends x.address at_x.is_open).serving (at_x.client ∙ client) t.peer peer).1 in (
          serving.is_open,
          same_Some (ends t.peer).plain true
              (sym (opened t.peer serving.is_open serving.client) ∙ unblamed.plain client t is b),
        )

    takes_plain : (p : Packet) → Spells p bytes →
        is_wrong_peer (terms_of x.state.position.phase) x.state.position.last_sent_to from ≡ false →
        terms_of x.state.position.phase ≡ None → IsPlainAnswer (Some p) → opened_as from messages ≡ Some true
    takes_plain p spells right none plain =
        let near : same_address network.request_port from ≡ true = search std_rules in
        let here = serves (ap (option_map (λ (t : Terms). t.peer)) none) near p spells (plain_is_answer p plain) in
        let own = own_server network from here in
        let sent = arrives own in
        let truth =
        holds.attested (message from x.address (said p)) (rw (shown.1.sent) (subst (λ (q : Packet). Contains messages
        (message from x.address (said
        q))) (one_meaning sent.0 p bytes sent.1 spells) sent.2)) own in
        let nobody = at_x.peer ∙ ap (option_map (λ (t : Terms). t.peer)) none in
        let is_plain = plain_answer _ m holds _ _ (own_of _ m holds _ at_x.is_open) nobody here p truth plain in
        opened from is_plain.0 (server_end _ m holds _ is_plain.0 here) ∙ ap Some is_plain.1

    takes : (decoded : Option Packet) → Decodes bytes decoded →
        is_wrong_peer (terms_of x.state.position.phase) x.state.position.last_sent_to from ≡ false →
        terms_of x.state.position.phase ≡ None → IsPlainAnswer decoded → IsPlain messages (default_terms from)
    takes decoded says right none plain b = search (std_rules, takes_plain)

    -- a turn on a datagram
    pub datagram_unblamed : (turn : Turn) (held : Files (List ℕ) Holding) →
        DatagramStep known_source known_sink from bytes x.state (files_of x) turn held →
        IsUnblamed network IsText messages (after_turn x.state turn)
    datagram_unblamed turn held d =
        record {
          blameless =
              acts_blameless network _ (calm IsText x.state.role) _ (λ text. refl) _ _ x (λ sends left want may p b.
              true≢false (sym sends ∙ b)) _ _ _ _ (datagram_fine _ _ (calm IsText x.state.role) _ _ _ shown k x there
              kept not_port _ _ arrives serves has_plain (λ own b is_open sender mode. readable own b is_open sender) _
              d.says) still d.acts;
          plain = λ c.
              step_are _ _ _ _ _ _ _ _ _ (unblamed.plain c) (λ ks b. absurd (true≢false b)) takes d;
        }
