-- No end of a world closes because of what a peer at one of the two hosts sent.
-- For the law no_end_is_blamed.
use Rattle.tftp_player.proofs.Common.{◌≡◌, ℕ, true, List, Some, None, refl, sym, ap, ◌∙◌, subst, arith, inl, inr, rules}
use Rattle.tftp_player.proofs.Common.{◌≢◌, is_some, map, slice_get, Contains, Mode, memory_source, wire_text}
use Rattle.tftp_player.proofs.Common.{StoreFault, Files, Holding, Outcome, EndState, is_sender, outcome_of, Position}
use Rattle.tftp_player.proofs.Common.{datagram_action, Turn, DatagramStep, timeout_turn, two_hosts, request_port}
use Rattle.tftp_player.proofs.Common.{Endpoint, Elsewhere, Machine, Message, Party, OpenEnd, files_of, EndView, Matches}
use Rattle.tftp_player.proofs.Common.{Blames, WorldState, Open_end, datagram, view_of_end, end_address, end_record}
use Rattle.tftp_player.proofs.Common.{end_file, Refines, world_sink, IsThere, host_of, end_mode, [], ◌∷◌, end_after}
use Rattle.tftp_player.proofs.Common.{WorldEnd, Closed_end, standing, new_world, PlaysAll, Event}
use Rattle.tftp_ends.specs.declared.outcome.Outcome.TheVariants as outcomes
use Rattle.tftp_rules.proofs.BlamelessTurns.{IsCalm, Blameless as BlamelessIn, acts_blameless}
use Rattle.tftp_rules.proofs.BlamelessActions.{datagram_fine}
use Rattle.tftp_player.proofs.Changes.{Arrives, IsTurn, At_timeout, At_datagram, Came, Was, Began, Was_armed, Moved}
use Rattle.tftp_player.proofs.Changes.{event_came, armed_has}
use Rattle.tftp_player.proofs.KnownSteps.{from_server}
use Rattle.tftp_player.proofs.OacksTaken.{ArePlain, Known_world, known_then, known_new}
use Rattle.tftp_player.proofs.Standing.{open_is}
use Rattle.tftp_player.proofs.WorldFacts.{m, shows}
use Rattle.tftp_player.proofs.WorldTurns.{view_at, viewed_at}
use Rattle.tftp_player.proofs.WorldSafe.{wire_of}
use Rattle.tftp_player.specs.Closing.{NoneIsBlamed}

-- the same outcomes blame any peer
abbrev pub BlamesAny : Endpoint → Outcome → Type 0
BlamesAny p o = Blames o

calm : IsCalm BlamesAny
calm = search rules

-- an end in this position has blamed no peer at one of the two hosts
abbrev pub Blameless : Position → Type 0
Blameless position = BlamelessIn two_hosts BlamesAny position

-- a timeout blames nobody
timeout_blameless : (e : EndState) → outcome_of e.position.phase ≡ None → Blameless (timeout_turn e).position
timeout_blameless e still = search rules

-- ---- an end of a world, with a datagram that arrives there
module _ (w : WorldState) (ok : Refines true w) (plain : ArePlain w ok) (k : ℕ) (x : OpenEnd)
    (there : slice_get w.ends k ≡ Some (Open_end x)) (from : Endpoint) (bytes : List ℕ)
    (arrives : Arrives w from x.address bytes) where
  abbrev ends : Endpoint → Party
  ends = Machine.party (m w ok)

  abbrev Ours : Type 0
  Ours = host_of from ≢ Elsewhere

  still : outcome_of x.state.position.phase ≡ None
  still = (ok.ends k (Open_end x) there).stands.still

  arrived : Ours → IsThere ok.messages from x.address bytes
  arrived own = elim arrives [
    | inl sent ↦
        let tells = ok.sent (datagram from x.address bytes) sent in (
          tells.1.packet,
          tells.1.spells,
          subst (λ (d : Message). Contains ok.messages d) tells.1.says tells.2,
        )
    | inr far ↦ absurd (own far)
  ]

  not_port : x.address ≢ request_port
  not_port same =
      let a = ok.ports k (Open_end x) there in
      let b = ap (λ (p : Endpoint). p.port) same in omega (arith, a, b)

  -- the file that the peer sends
  sends_file : Ours → Blames outcomes.NotNetascii → (ends from).is_open ≡ true → (ends from).sender ≡ true →
      (ends from).mode ≡ x.state.role.mode → (file : List ℕ) × (wire_text x.state.role.mode file ≡ (ends from).text)
  sends_file own blames is_open sender mode =
      let at_peer = (shows w ok).only from is_open in
      let found = viewed_at w.ends at_peer.0 at_peer.1 at_peer.2 in
      let z = found.0 in
      let address : end_address z ≡ from = ap (λ e. e.address) found.2 ∙ at_peer.3 in
      let at_z : Matches (view_of_end z) (ends from) = search rules in
      let sends : is_sender (end_record z).side ≡ true = sym at_z.sender ∙ sender in
      let mode_is : end_mode z ≡ x.state.role.mode = sym at_z.mode ∙ mode in (
        end_file z,
        sym (at_z.sent sends ∙ (wire_of z sends ∙ ((ok.ends at_peer.0 z found.1).text ∙ ap (λ (q : Mode). wire_text q
            (end_file z)) mode_is))),
      )

  -- a turn on a datagram blames nobody
  datagram_blameless : (refuses_commit : Holding → StoreFault → Type 0) (held : Files (List ℕ) Holding) (turn : Turn) →
      DatagramStep memory_source (world_sink refuses_commit) from bytes x.state (files_of x) turn held →
      Blameless turn.position
  datagram_blameless refuses_commit held turn d =
      acts_blameless two_hosts BlamesAny calm memory_source (λ text. refl) (world_sink refuses_commit) from x (λ sends
      left want may p b. may) bytes (datagram_action x.state from bytes d.decoded) held turn (datagram_fine two_hosts
      BlamesAny calm ok.shown.0 (map view_of_end w.ends) ok.messages ok.shown.1 k x (view_at _ k _ there ∙ ap (λ (v :
      EndView). Some v) (open_is x (ap is_some still))) (ok.ends k (Open_end x) there).stands.kept not_port from bytes
      arrived (from_server x from bytes) (plain k (Open_end x) there) sends_file d.decoded d.says) still d.acts

-- no turn of an end blames
pub turn_blameless : (w : WorldState) (ok : Refines true w) → ArePlain w ok → (k : ℕ) (x : OpenEnd) →
    slice_get w.ends k ≡ Some (Open_end x) → (turn : Turn) (held : Files (List ℕ) Holding) → IsTurn w x turn held →
    Blameless turn.position
turn_blameless w ok plain k x there turn held At_timeout =
    timeout_blameless x.state (ok.ends k (Open_end x) there).stands.still
turn_blameless w ok plain k x there turn held (At_datagram from bytes t files a d) =
    datagram_blameless w ok plain k x there from bytes a _ files t d

-- ---- every end of a world
abbrev IsUnblamed : WorldEnd → Type 0
IsUnblamed (Open_end x) = Unit {0}
IsUnblamed (Closed_end x) =
    (o : Outcome) → x.recorded.outcome ≡ Some o → (p : Endpoint) → x.recorded.peer ≡ Some p →
    host_of p ≢ Elsewhere → Blames o → ⊥

abbrev AreUnblamed : WorldState → Type 0
AreUnblamed w = (k : ℕ) (z : WorldEnd) → slice_get w.ends k ≡ Some z → IsUnblamed z

stands_unblamed : (x : OpenEnd) (turn : Turn) (held : Files (List ℕ) Holding) → Blameless turn.position →
    IsUnblamed (standing (end_after x turn held))
stands_unblamed x turn held h = search rules

came_unblamed : (w : WorldState) (ok : Refines true w) → ArePlain w ok → AreUnblamed w → (j : ℕ) (z : WorldEnd) →
    Came (IsTurn w) w j z → IsUnblamed z
came_unblamed w ok plain h j z (Was y i) = h j y i
came_unblamed w ok plain h j z (Began x none o) = tt
came_unblamed w ok plain h j z (Was_armed y i) = armed_has IsUnblamed (λ x n. n) y (h j y i)
came_unblamed w ok plain h j z (Moved x turn held i t) =
    stands_unblamed x turn held (turn_blameless w ok plain j x i turn held t)

run_unblamed : (events : List Event) (w v : WorldState) → Known_world w → AreUnblamed w → PlaysAll w events v →
    AreUnblamed v
run_unblamed [] w v known h r = subst AreUnblamed (sym r) h
run_unblamed (event ∷ events) w v known h r =
    run_unblamed events r.0 v (known_then w r.0 event r.1 known r.2)
    (λ k z i. came_unblamed w known.ok known.plain h k z (event_came w r.0 event r.1 r.2 k z i)) r.3

-- so no end of a world is blamed
pub none_is_blamed : NoneIsBlamed
none_is_blamed w k x p outcome reached there peer own is blames =
    run_unblamed reached.events (new_world reached.files reached.config) w
    (known_new reached.files reached.config reached.max_block) (λ j z i. absurd (let f = i in cc)) reached.plays k
    (Closed_end x) there outcome is p peer own blames
