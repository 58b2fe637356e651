-- What a datagram of neither host leaves unchanged. For `a_stray_changes_no_record`.
use Rattle.tftp_player.proofs.Common.{◌≡◌, ◌≢◌, ℕ, Bool, true, false, List, Some, refl, sym, ap, ◌∙◌, subst, rules, not}
use Rattle.tftp_player.proofs.Common.{is_some, slice_get, true≢false, same_Some, Files, Holding, Phase, terms_of}
use Rattle.tftp_player.proofs.Common.{outcome_of, record_of, is_wrong_peer, Turn, request_port, two_hosts, Endpoint}
use Rattle.tftp_player.proofs.Common.{Elsewhere, OpenEnd, end_after, peer_of, PhaseKept, WorldState, WorldEnd, Open_end}
use Rattle.tftp_player.proofs.Common.{end_record, standing, Refines, None, with_phase, same_ips, StepAt}
use Rattle.tftp_rules.proofs.PhaseMoves.{same_endpoints}
use Rattle.tftp_player.specs.Strangers.{HasNoStranger, StraysChangeNoRecord, ClientsHaveServers}
use Rattle.tftp_player.proofs.Changes.{arrival, Came, Was, Began, Was_armed, Moved, came, lasts, armed_has}
use Rattle.tftp_player.proofs.WorldSafe.{kept_is_safe}
use Rattle.tftp_rules.specs.Hosts.{host_of}

-- a test that cannot hold
fails : (b : Bool) → (b ≡ true → ⊥) → not b ≡ true
fails true cannot = absurd (cannot refl)
fails false cannot = refl

-- a stranger is not at the server
not_server : (from : Endpoint) → host_of from ≡ Elsewhere → from.ip ≡ request_port.ip → ⊥
unfolding host_of
not_server from far same = search rules

-- to an open end whose peer is no stranger
is_strange : (phase : Phase) (x0 : OpenEnd) (from : Endpoint) → PhaseKept two_hosts (with_phase phase x0) phase →
    host_of from ≡ Elsewhere → ((p : Endpoint) → peer_of phase ≡ Some p → host_of p ≢ Elsewhere) →
    is_some (outcome_of phase) ≡ false → is_wrong_peer (terms_of phase) x0.state.position.last_sent_to from ≡ true
is_strange phase x0 from kept far home o =
    search (rules, fails, not_server, same_ips, same_endpoints, true≢false)

-- a turn of such an end leaves its record
abbrev FarTurn : WorldState → OpenEnd → Turn → Files (List ℕ) Holding → Type 0
FarTurn w x turn held =
    (from : Endpoint) × (bytes : List ℕ) × (host_of from ≡ Elsewhere) × StepAt w x from bytes turn held

strange_same : (w : WorldState) (x : OpenEnd) (from : Endpoint) (bytes : List ℕ) (turn : Turn)
    (held : Files (List ℕ) Holding) → StepAt w x from bytes turn held →
    is_wrong_peer (terms_of x.state.position.phase) x.state.position.last_sent_to from ≡ true →
    turn.position ≡ x.state.position
strange_same w x from bytes turn held s strange = search rules

-- the record of an end whose state is unchanged
after_state : (x : OpenEnd) (turn : Turn) (held : Files (List ℕ) Holding) → turn.position ≡ x.state.position →
    end_record (standing (end_after x turn held)) ≡ record_of x.state
after_state x turn held same = search rules

-- however it came to be
came_same : (strangers : Bool) (w : WorldState) → Refines strangers w → (k : ℕ) (x z : WorldEnd) →
    slice_get w.ends k ≡ Some x → HasNoStranger x → Came (FarTurn w) w k z → end_record z ≡ end_record x
came_same strangers w ok k x z there home (Was y i) = ap end_record (same_Some y x (sym i ∙ there))
came_same strangers w ok k x z there home (Began y none o) = absurd (let f : None ≡ Some x = sym none ∙ there in cc)
came_same strangers w ok k x z there home (Was_armed y i) =
    armed_has (λ u. end_record u ≡ end_record x) (λ u n. n) y (ap end_record (same_Some y x (sym i ∙ there)))
came_same strangers w ok k x z there home (Moved y turn held i t) =
    let e : Open_end y ≡ x = same_Some (Open_end y) x (sym i ∙ there) in
    let was = (ok.ends k (Open_end y) i).stands in
    let own : HasNoStranger (Open_end y) = subst HasNoStranger (sym e) home in
    after_state y turn held (strange_same w y t.0 t.1 turn held t.3
    (is_strange y.state.position.phase y t.0 was.kept.phase t.2 own (ap is_some was.still))) ∙ ap end_record e

-- no datagram of neither host changes a record
pub strays_change_no_record : StraysChangeNoRecord
strays_change_no_record strangers old new from to bytes report k x ok s there home =
    let change = arrival (FarTurn old) old new report from to bytes s.1 (λ y turn held here t. (from, bytes, s.0, t)) in
    let z = lasts (FarTurn old) old new report change k x there in (
      z.0,
      z.1,
      came_same strangers old ok k x z.0 there home (came (FarTurn old) old new report change k z.0 z.1),
    )

-- the peer of a client is at the server's host
pub clients_have_servers : ClientsHaveServers
clients_have_servers strangers w x p ok i client peer = (kept_is_safe strangers w ok).at_server x p i client peer
