-- The terms that an end has after a turn: its own, or those of an answer.
-- For PlainPeers, and for the laws of worlds on blame (tftp_player).
use Rattle.tftp_rules.proofs.Common.{◌≡◌, List, false, ℕ, rules, Some, Bool, subst, None, Option, same_Some, Known}
use Rattle.tftp_rules.proofs.Common.{Holding, SinkMeaning, SourceMeaning, Files, is_wrong_peer, Decodes, EndState}
use Rattle.tftp_rules.proofs.Common.{terms_of, Position, Turn, response_turn, timeout_turn, DatagramStep, default_terms}
use Rattle.tftp_rules.proofs.Common.{agreed_terms, Action, Respond, Send, Store, Response, Refuse, Accept, Terms}
use Rattle.tftp_rules.proofs.Common.{Endpoint}
use Rattle.tftp_wire.specs.declared.packet.Packet.{Packet}
use Rattle.tftp_rules.proofs.ActionCases.{IsPlainAnswer, HasTerms, MayTake, datagram_takes}
use Rattle.tftp_rules.proofs.TurnCases.{TurnBy, Responds, acts_by}

module _ (P : Terms → Type 0) where
  abbrev Are : Option Terms → Type 0
  Are terms = (t : Terms) → terms ≡ Some t → P t

  are_some : (terms : Terms) → P terms → Are (Some terms)
  are_some terms p t e = subst P (same_Some terms t e) p

  are_none : Are None
  are_none t e = absurd (let f : None ≡ Some t = e in cc)

  abbrev Says : Response → Type 0
  Says (Refuse terms reply outcome) = Are terms
  Says (Accept terms) = P terms
  Says response = Unit {0}

  abbrev Names : Action → Type 0
  Names (Respond response) = Says response
  Names (Send terms number) = P terms
  Names (Store terms number) = P terms

  -- the terms that an action names
  module _ (from : Endpoint) (known : Option Terms) (decoded : Option Packet) (wrong : Bool) (old : Are known)
      (agreed : (ks : List Known) → P (agreed_terms from ks))
      (plain : wrong ≡ false → known ≡ None → IsPlainAnswer decoded → P (default_terms from)) where
    its_own : (terms : Terms) → HasTerms known from decoded wrong terms → P terms
    its_own terms h1 = search rules

    names : (action : Action) → MayTake known from decoded wrong action → Names action
    names action h1 = search (rules, are_none, are_some, its_own)

  abbrev Has : Position → Type 0
  Has position = Are (terms_of position.phase)

  response_has : (response : Response) (from : Endpoint) (e : EndState) → Says response → Has e.position →
      Has (response_turn response from e).position
  response_has response from e s h = search rules

  -- after a timeout
  pub timeout_are : (e : EndState) → Has e.position → Has (timeout_turn e).position
  timeout_are e h = search rules

  turn_has : (from : Endpoint) (e : EndState) (action : Action) (turn : Turn) → Names action → Has e.position →
      TurnBy from e action turn → Has turn.position
  turn_has from e action turn s h (Responds response) = response_has response from e s h
  turn_has from e action turn s h t = search (rules, are_some)

  module _ (sources : SourceMeaning (List ℕ)) (sinks : SinkMeaning Holding) (from : Endpoint) (bytes : List ℕ)
      (e : EndState) where
    -- after a datagram
    pub step_are : (files files' : Files (List ℕ) Holding) (turn : Turn) → Has e.position →
        ((ks : List Known) → P (agreed_terms from ks)) →
        ((decoded : Option Packet) → Decodes bytes decoded →
        is_wrong_peer (terms_of e.position.phase) e.position.last_sent_to from ≡ false →
        terms_of e.position.phase ≡ None → IsPlainAnswer decoded → P (default_terms from)) →
        DatagramStep sources sinks from bytes e files turn files' → Has turn.position
    step_are files files' turn h agreed plain d =
        turn_has _ e _ _ (names _ _ _ _ h agreed (plain d.decoded d.says) _ (datagram_takes e from bytes d.decoded)) h
        (acts_by _ _ _ _ e _ _ _ _ d.acts)
