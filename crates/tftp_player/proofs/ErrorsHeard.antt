-- An end that closed by an ERROR got it from its peer, and an established end closes as it may.
-- For the law no_end_is_blamed.
use Rattle.tftp_player.proofs.Common.{◌≡◌, ℕ, Bool, true, false, List, [], ◌∷◌, ◌++◌, Option, Some, None, refl, sym, ap}
use Rattle.tftp_player.proofs.Common.{◌∙◌, subst, inl, inr, rules, ◌≢◌, ◌⊎◌, slice_get, Contains, Contains-append_left}
use Rattle.tftp_player.proofs.Common.{Spells, Packet, Error, StoreFault, Files, memory_source, Holding, Action}
use Rattle.tftp_player.proofs.Common.{Response, Outcome, Terms, EndState, terms_of, outcome_of, is_wrong_peer}
use Rattle.tftp_player.proofs.Common.{datagram_action, Turn, response_turn, commit_reply, error_bytes, two_hosts}
use Rattle.tftp_player.proofs.Common.{Endpoint, Elsewhere, OpenEnd, end_after, peer_of, own_of, Blames, WorldState}
use Rattle.tftp_player.proofs.Common.{WorldEnd, Open_end, Closed_end, standing, datagram, new_world, end_address}
use Rattle.tftp_player.proofs.Common.{end_record, Refines, PlaysAll, Datagram, Event, TurnBy, acts_by, host_of}
use Rattle.tftp_player.proofs.Common.{says_spelled}
use Rattle.tftp_ends.specs.declared.outcome.Outcome.TheVariants as outcomes
use Rattle.tftp_player.specs.Closing.{MayCloseAs, EstablishedEndsCloseSo}
use Rattle.tftp_player.proofs.AnsweringEnds.{reached_ok}
use Rattle.tftp_player.proofs.Blameless.{none_is_blamed}
use Rattle.tftp_player.proofs.Changes.{IsTurn, At_timeout, At_datagram, Came, Was, Began, Was_armed, Moved, event_came}
use Rattle.tftp_player.proofs.Changes.{armed_has}
use Rattle.tftp_player.proofs.ErrorAnswers.{IsErrorOf, Tells, TellsBy, datagram_tells}
use Rattle.tftp_player.proofs.ErrorsKnown.{refusals_are_told}
use Rattle.tftp_player.proofs.OneLemmas.{events_add_one_at_most}
use Rattle.tftp_rules.proofs.StorableBlocks.{the_peer}
use Rattle.tftp_player.proofs.WorldFacts.{m, holds, matched}
use Rattle.tftp_player.proofs.WorldRuns.{new_ok, step_keeps}

-- ---- a turn closes by an ERROR only if that is the packet, and from the peer
module _ (e : EndState) (wrong : Bool) (decoded : Option Packet) (still : outcome_of e.position.phase ≡ None) where
  abbrev Heard : ℕ → Endpoint → Type 0
  Heard code p =
      (t : Terms) × (terms_of e.position.phase ≡ Some t) × (t.peer ≡ p) × (wrong ≡ false) × IsErrorOf code decoded

  abbrev Hears : Turn → Type 0
  Hears turn =
      (code : ℕ) (p : Endpoint) → outcome_of turn.position.phase ≡ Some (outcomes.PeerError code) →
      peer_of turn.position.phase ≡ Some p → Heard code p

  goes_on_so : (turn : Turn) → outcome_of turn.position.phase ≡ None → Hears turn
  goes_on_so turn none code p o is = absurd (let f : None ≡ Some (outcomes.PeerError code) = sym none ∙ o in cc)

  ends_as : (turn : Turn) (outcome : Outcome) → outcome_of turn.position.phase ≡ Some outcome →
      ((code : ℕ) → outcome ≡ outcomes.PeerError code → ⊥) → Hears turn
  ends_as turn outcome has none code p o is = search rules

  no_fault : (code : ℕ) → outcomes.StoreFault ≡ outcomes.PeerError code → ⊥
  no_fault code z = cc

  no_source : (code : ℕ) → outcomes.SourceFault ≡ outcomes.PeerError code → ⊥
  no_source code z = cc

  response_hears : (response : Response) (from : Endpoint) → Tells (terms_of e.position.phase) wrong decoded response →
      Hears (response_turn response from e)
  response_hears response from t = search rules

  turn_hears : (from : Endpoint) (action : Action) (turn : Turn) →
      TellsBy (terms_of e.position.phase) wrong decoded action → TurnBy from e action turn → Hears turn
  turn_hears from action turn t h4 =
      search (rules, response_hears, goes_on_so, ends_as, no_source, no_fault)

-- ---- the ends of a world that closed by an ERROR
-- an ERROR of this code was sent there, from a peer
abbrev WasTold : WorldState → Endpoint → Endpoint → ℕ → Type 0
WasTold w from to code =
    (bytes : List ℕ) × Contains w.sent (datagram from to bytes) × (text : List ℕ) × Spells (Error code text) bytes

abbrev ClosedByPeer : WorldState → WorldEnd → Type 0
ClosedByPeer w (Open_end x) = Unit {0}
ClosedByPeer w (Closed_end x) =
    (code : ℕ) (p : Endpoint) → x.recorded.outcome ≡ Some (outcomes.PeerError code) → x.recorded.peer ≡ Some p →
    host_of p ≢ Elsewhere → WasTold w p x.address code

abbrev AllByPeer : WorldState → Type 0
AllByPeer w = (k : ℕ) (z : WorldEnd) → slice_get w.ends k ≡ Some z → ClosedByPeer w z

stands_by : (w : WorldState) (x : OpenEnd) (turn : Turn) (held : Files (List ℕ) Holding) →
    ((code : ℕ) (p : Endpoint) → outcome_of turn.position.phase ≡ Some (outcomes.PeerError code) →
    peer_of turn.position.phase ≡ Some p → host_of p ≢ Elsewhere → WasTold w p x.address code) →
    ClosedByPeer w (standing (end_after x turn held))
stands_by w x turn held h = search rules

came_by : (w : WorldState) → Refines true w → AllByPeer w → (j : ℕ) (z : WorldEnd) → Came (IsTurn w) w j z →
    ClosedByPeer w z
came_by w ok h j z (Was y i) = h j y i
came_by w ok h j z (Began x none o) = tt
came_by w ok h j z (Was_armed y i) = armed_has (ClosedByPeer w) (λ x n. n) y (h j y i)
came_by w ok h j z (Moved x _ _ i At_timeout) =
    let e = x.state in
    let still = (ok.ends j (Open_end x) i).stands.still in
    search rules
came_by w ok h j z (Moved x _ _ i (At_datagram from bytes turn held arrives d)) =
    let e = x.state in
    let wrong = is_wrong_peer (terms_of e.position.phase) e.position.last_sent_to from in
    let action = datagram_action e from bytes d.decoded in
    stands_by w x turn held (λ code p o is own.
    let r =
    turn_hears e wrong d.decoded (ok.ends j (Open_end x) i).stands.still from action turn (datagram_tells e from bytes
    d.decoded) (acts_by memory_source _ from bytes e action _ held turn d.acts) code p o is in
    let sender : from ≡ p =
    sym (the_peer r.0 e.position.last_sent_to from (sym (ap (λ (t : Option Terms). is_wrong_peer t
    e.position.last_sent_to from) r.1) ∙ r.3)) ∙ r.2 in
    let near : host_of from ≢ Elsewhere = subst (λ (q : Endpoint). host_of q ≢ Elsewhere) (sym sender) own in
    let there : Contains w.sent (datagram from x.address bytes) = elim arrives [
      | inl c ↦ c
      | inr far ↦ absurd (near far)
    ] in (
      bytes,
      subst (λ (q : Endpoint). Contains w.sent (datagram q x.address bytes)) sender there,
      r.4.0,
      says_spelled bytes d.decoded d.says (Error code r.4.0) r.4.1,
    ))

-- all that was sent stays
later_by : (w v : WorldState) (said : List Datagram) → v.sent ≡ w.sent ++ said → (z : WorldEnd) → ClosedByPeer w z →
    ClosedByPeer v z
later_by w v said more (Open_end x) h = tt
later_by w v said more (Closed_end x) h = λ code p o is own.
    let r = h code p o is own in (
      r.0,
      subst (λ (ds : List Datagram). Contains ds (datagram p x.address r.0)) (sym more)
          (Contains-append_left w.sent said (datagram p x.address r.0) r.1),
      r.2,
      r.3,
    )

run_by : (events : List Event) (w v : WorldState) → Refines true w → AllByPeer w → PlaysAll w events v → AllByPeer v
run_by [] w v ok h r = subst AllByPeer (sym r) h
run_by (event ∷ events) w v ok h r =
    let mid = r.0 in
    let adds = events_add_one_at_most w mid event r.1 r.2 in
    run_by events mid v (step_keeps true w mid event r.1 tt ok r.2)
    (λ k z i. later_by w mid adds.said adds.sent z (came_by w ok h k z (event_came w mid event r.1 r.2 k z i))) r.3

refused_by : (code : ℕ) (text bytes : List ℕ) (fault : StoreFault) → Spells (Error code text) bytes →
    bytes ≡ error_bytes (commit_reply fault) → (code ≡ 3) ⊎ (code ≡ 6)
refused_by code text bytes fault s is = search rules

-- so an established end closes as it may
pub established_ends_close_so : EstablishedEndsCloseSo
established_ends_close_so w k x y outcome reached there at_y peer back is = by outcome is where
  ok : Refines true w
  ok = reached_ok w reached

  own : (j : ℕ) (z : WorldEnd) → slice_get w.ends j ≡ Some z → host_of (end_address z) ≢ Elsewhere
  own j z i = own_of two_hosts (m w ok) (holds w ok) (end_address z) (matched w ok j z i).is_open

  blames : (o : Outcome) → x.recorded.outcome ≡ Some o → Blames o → ⊥
  blames o e b = none_is_blamed w k x (end_address y) o reached there peer (own at_y.0 y at_y.1) e b

  told : (code : ℕ) → x.recorded.outcome ≡ Some (outcomes.PeerError code) →
      ((code ≡ 3) ⊎ (code ≡ 6)) × ((end_record y).outcome ≡ Some outcomes.StoreFault)
  told code e =
      let r =
      run_by reached.events (new_world reached.files reached.config) w
      (new_ok true reached.files reached.config reached.max_block)
      (λ j z i. absurd (let f : None ≡ Some z = i in cc)) reached.plays k (Closed_end x) there code (end_address y) e peer
      (own at_y.0 y at_y.1) in
      let said =
      refusals_are_told w (datagram (end_address y) x.address r.0) code r.2 at_y.0 y reached r.1 r.3 at_y.1 refl back
      (own k (Closed_end x) there) in
      (refused_by code r.2 r.0 said.1.0 r.3 said.1.1, said.0)

  by : (o : Outcome) → x.recorded.outcome ≡ Some o → MayCloseAs y o
  by outcomes.Complete e = tt
  by outcomes.TimedOut e = tt
  by outcomes.StoreFault e = tt
  by (outcomes.PeerError code) e = told code e
  by o e = absurd (blames o e tt)
