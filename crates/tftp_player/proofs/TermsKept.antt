-- The agreed terms stay, for all later steps of an end. For six other files.
use Rattle.tftp_player.proofs.Common.{◌≡◌, ℕ, Bool, true, List, Option, Some, ap, rules, is_some, Packet, memory_source}
use Rattle.tftp_player.proofs.Common.{StoreFault, Files, Holding, Action, Respond, Send, Store, Response, Accept, Terms}
use Rattle.tftp_player.proofs.Common.{EndState, terms_of, Position, datagram_action, Turn, DatagramStep, response_turn}
use Rattle.tftp_player.proofs.Common.{timeout_turn, Endpoint, world_sink, MayTake, datagram_takes, TurnBy, Responds}
use Rattle.tftp_player.proofs.Common.{acts_by, OpenEnd, WorldState, Refuse, files_of}
use Rattle.tftp_player.proofs.Changes.{IsTurn, At_timeout, At_datagram}

module _ (agreed : Terms) where
  -- the response and the action name no other terms
  abbrev Says : Response → Type 0
  Says (Refuse terms reply outcome) = terms ≡ Some agreed
  Says (Accept terms) = terms ≡ agreed
  Says response = Unit {0}

  abbrev Names : Action → Type 0
  Names (Respond response) = Says response
  Names (Send terms number) = terms ≡ agreed
  Names (Store terms number) = terms ≡ agreed

  names : (known : Option Terms) (from : Endpoint) (decoded : Option Packet) (wrong : Bool) (action : Action) →
      known ≡ Some agreed → MayTake known from decoded wrong action → Names action
  names known from decoded wrong action has h6 = search rules

  -- ---- nor does its turn
  abbrev Has : Position → Type 0
  Has position = terms_of position.phase ≡ Some agreed

  response_has : (response : Response) (from : Endpoint) (e : EndState) → Says response → Has e.position →
      Has (response_turn response from e).position
  response_has response from e s h = search rules

  -- a timeout keeps them
  pub timeout_has : (e : EndState) → Has e.position → Has (timeout_turn e).position
  timeout_has e h = search rules

  turn_has : (from : Endpoint) (e : EndState) (action : Action) (turn : Turn) → Names action → Has e.position →
      TurnBy from e action turn → Has turn.position
  turn_has from e action turn s h (Responds response) = response_has response from e s h
  turn_has from e action turn s h t = ap Some s

  module _ (refuses_commit : Holding → StoreFault → Type 0) (from : Endpoint) (bytes : List ℕ) (e : EndState) where
    pub step_has : (files files' : Files (List ℕ) Holding) (turn : Turn) → Has e.position →
        DatagramStep memory_source (world_sink refuses_commit) from bytes e files turn files' → Has turn.position
    step_has files files' turn h d =
        let action = datagram_action e from bytes d.decoded in
        turn_has from e action turn
        (names (terms_of e.position.phase) from d.decoded _ action h (datagram_takes e from bytes d.decoded)) h
        (acts_by memory_source (world_sink refuses_commit) from bytes e action files files' turn d.acts)

-- so does each turn of an end of a world
pub turn_terms : (w : WorldState) (x : OpenEnd) (turn : Turn) (held : Files (List ℕ) Holding) → IsTurn w x turn held →
    (agreed : Terms) → terms_of x.state.position.phase ≡ Some agreed → terms_of turn.position.phase ≡ Some agreed
turn_terms w x turn held At_timeout agreed h = timeout_has agreed x.state h
turn_terms w x turn held (At_datagram from bytes t files a d) agreed h =
    step_has agreed _ from bytes x.state (files_of x) files t h d

-- the peer stays known
pub still_known : (old new : Option Terms) → ((agreed : Terms) → old ≡ Some agreed → new ≡ Some agreed) →
    is_some old ≡ true → is_some new ≡ true
still_known old new kept known = search rules
