-- A world that is kept is safe. For six functions, AnsweringEnds and ErrorsKnown.
use Rattle.tftp_player.proofs.Common.{◌≡◌, ℕ, Bool, true, false, List, [], ◌++◌, map, Some, sym, refl, ap, ◌∙◌, subst}
use Rattle.tftp_player.proofs.Common.{arith, rules, ◌≢◌, if◌then◌else◌, slice_get, true≢false, append-nil, same_Some}
use Rattle.tftp_player.proofs.Common.{Mode, Octet, wire_text, is_sender, is_client, Attests, server_ip, client_ip}
use Rattle.tftp_player.proofs.Common.{request_port, two_hosts, Endpoint, At_server, Elsewhere, said, EndView, Matches}
use Rattle.tftp_player.proofs.Common.{goes_on, WorldState, WorldEnd, Open_end, Closed_end, end_record, end_address}
use Rattle.tftp_player.proofs.Common.{end_file, end_stored, new_world, view_of_end, HasPeer, IsSafe, IsKeptIn, Refines}
use Rattle.tftp_player.proofs.Common.{Netascii, home, requested, end_mode, end_committed, end_text, end_wire, WasAsked}
use Rattle.tftp_wire.specs.declared.packet.Request.{Request as WireRequest}
use Rattle.tftp_file.specs.Block.{IsPrefixOf}
use Rattle.tftp_rules.specs.Facts.{IsServing, IsSoundParty}
use Rattle.tftp_rules.specs.Machine.{At_client, Request, is_same_ip}
use Rattle.tftp_rules.specs.Safety.{AreSafe, IsSenderAt}
use Rattle.tftp_rules.specs.ViewSafety.{IsAmong, IsSafeViews, safety_view}
use Rattle.tftp_player.specs.WorldSafety.{HasRequested, IsIn, AnswersClient, endpoint_of_end, safety_of}
use Rattle.tftp_player.specs.WorldRuns.{WorldsAreSafe, PeersStayHome, KeptIsSafe}
use Rattle.tftp_rules.proofs.HostBytes.{wire_prefix, wire_same}
use Rattle.tftp_rules.proofs.Endpoints.{endpoint_from}
use Rattle.tftp_rules.proofs.ViewSafe.{IsPrefixOf-trans, first_of_empty, shown_safe}
use Rattle.tftp_player.proofs.WorldTurns.{home_not_elsewhere, view_at, viewed_at}
use Rattle.tftp_player.proofs.WorldRuns.{run_keeps, new_ok, any_may, ok_at_home}
use Rattle.tftp_player.proofs.WorldFacts.{any_of, attests, holds, matched, party, shows}
use Rattle.tftp_rules.specs.Hosts.{host_of}

end_of : (w : WorldState) (e : EndView) → IsAmong (map view_of_end w.ends) e →
    (x : WorldEnd) × IsIn w x × (view_of_end x ≡ e)
end_of w e i = let h = viewed_at w.ends i.0 e i.1 in (h.0, (i.0, h.1), h.2)

-- what a receiver stored begins its text
stored_begins : (b g : Bool) (f w h : List ℕ) → b ≡ false → IsPrefixOf w (if b then f else if g then w ++ h else w)
stored_begins true g f w h e = absurd (true≢false e)
stored_begins false true f w h e = (h, refl)
stored_begins false false f w h e = ([], append-nil w)

-- an endpoint at one of the two hosts has its address
home_ip : (client s c : Bool) (ip : List ℕ) → is_same_ip ip server_ip ≡ s → is_same_ip ip client_ip ≡ c →
    (if s then At_server else if c then At_client else Elsewhere) ≡ home client →
    ip ≡ (if client then client_ip else server_ip)
home_ip client s c ip p q h = search rules

-- an endpoint of a host has that host's address
pub ip_at_home : (a : Endpoint) (client : Bool) → host_of a ≡ home client → a.ip ≡ (if client then client_ip else server_ip)
unfolding host_of
ip_at_home a client h = home_ip client (is_same_ip a.ip server_ip) (is_same_ip a.ip client_ip) a.ip refl refl h

nothing_travels : (mode : Mode) → wire_text mode [] ≡ []
nothing_travels Octet = refl
nothing_travels Netascii = refl

says_request : (write : Bool) (request : WireRequest) → said (requested write request) ≡ Request write request
says_request true request = refl
says_request false request = refl

-- a sender's text
pub wire_of : (x : WorldEnd) → is_sender (end_record x).side ≡ true → end_text x ≡ end_wire x
wire_of x s = search rules

module _ (w : WorldState) (ok : Refines true w) where
  safe : IsSafeViews two_hosts (map view_of_end w.ends)
  safe = shown_safe two_hosts (map view_of_end w.ends) ok.messages ok.shown

  among : (x : WorldEnd) → IsIn w x → IsAmong (map view_of_end w.ends) (view_of_end x)
  among x i = (i.0, view_at w.ends i.0 x i.1)

  begins : (x : WorldEnd) → is_sender (end_record x).side ≡ false →
      IsPrefixOf (wire_text (end_mode x) (end_stored x)) (end_text x)
  begins (Open_end x) r =
      stored_begins (is_sender x.state.role.side) (goes_on x.state.position.phase) x.text
      (wire_text x.state.role.mode x.stored) x.state.position.held_back r
  begins (Closed_end x) r = stored_begins (is_sender x.recorded.side) false x.text (wire_text x.mode x.stored) [] r

  whole : (x : WorldEnd) → is_sender (end_record x).side ≡ false → (end_record x).complete ≡ true →
      end_text x ≡ wire_text (end_mode x) (end_stored x)
  whole x r d = search rules

  sends : (x : WorldEnd) → IsIn w x → is_sender (end_record x).side ≡ true →
      end_text x ≡ wire_text (end_mode x) (end_file x)
  sends x i s = wire_of x s ∙ (ok.ends i.0 x i.1).text

  committed : (x : WorldEnd) → IsKeptIn w x → is_sender (end_record x).side ≡ false → (end_record x).complete ≡ true →
      end_committed x ≡ true
  committed (Open_end x) h r d = h.stands.kept.committed r ∙ d
  committed (Closed_end x) h r d = h.stands r ∙ d

  sound : (k : ℕ) (x : WorldEnd) → slice_get w.ends k ≡ Some x →
      IsSoundParty two_hosts (party w ok) (end_address x) (party w ok (end_address x))
  sound k x i = (holds w ok).ends (end_address x) (matched w ok k x i).is_open

  -- the end that sends to x, if its view is among the views
  sender_at : (x : WorldEnd) (p : Endpoint) (v : EndView) →
      IsSenderAt safety_view (IsAmong (map view_of_end w.ends)) p (end_mode x) v →
      (z : WorldEnd) × IsSenderAt safety_of (IsIn w) p (end_mode x) z × (v.text ≡ wire_text (end_mode x) (end_file z))
      × ((end_record z).peer ≡ v.peer)
  sender_at x p v sender =
      let y = end_of w v sender.is_end in
      let z = y.0 in
      let sends_it : is_sender (end_record z).side ≡ true = ap (λ (e : EndView). e.sender) y.2 ∙ sender.sends in
      let mode : end_mode z ≡ end_mode x = ap (λ (e : EndView). e.mode) y.2 ∙ sender.mode in (
        z,
        record {
          is_end = y.1;
          address = ap (λ (e : EndView). e.address) y.2 ∙ sender.address;
          sends = sends_it;
          mode = mode;
        },
        ap (λ (e : EndView). e.text) (sym y.2)
            ∙ (sends z y.1 sends_it ∙ ap (λ (m : Mode). wire_text m (end_file z)) mode),
        ap (λ (e : EndView). e.peer) y.2,
      )

  at_server : (x : WorldEnd) (p : Endpoint) → IsIn w x → is_client (end_record x).side ≡ true → HasPeer x p →
      host_of p ≡ At_server
  at_server x p i client peer =
      let at_x = matched w ok i.0 x i.1 in
      ((sound i.0 x i.1).serving (at_x.client ∙ client) p (at_x.peer ∙ peer)).0

  -- a request of one of the two hosts is its end's
  attested : (a : Endpoint) (write : Bool) (request : WireRequest) → host_of a ≢ Elsewhere →
      HasRequested w a write request → Attests (party w ok a) request_port (Request write request)
  attested a write request near h =
      subst (Attests (party w ok a) request_port) (says_request write request)
      (attests w ok a request_port h.0 (requested write request) near h.1 h.2)

  -- the peer of a client
  module _ (x : WorldEnd) (p : Endpoint) (i : IsIn w x) (client : is_client (end_record x).side ≡ true)
      (peer : HasPeer x p) where
    serving : IsServing (end_address x) (party w ok (end_address x)) (party w ok p)
    serving =
        let at_x = matched w ok i.0 x i.1 in ((sound i.0 x i.1).serving (at_x.client ∙ client) p (at_x.peer ∙ peer)).1

    near : host_of (end_address x) ≢ Elsewhere
    near far = home_not_elsewhere (party w ok (end_address x)).client (sym (sound i.0 x i.1).at_home ∙ far)

    -- an end of the world is there
    there : (y : WorldEnd) × IsIn w y × (end_address y ≡ p)
    there =
        let at_peer = (shows w ok).only p serving.is_open in
        let found = end_of w at_peer.1 (at_peer.0, at_peer.2) in
        let address : end_address found.0 ≡ at_peer.1.address = ap (λ (v : EndView). v.address) found.2 in
        (found.0, found.1, address ∙ at_peer.3)

    module _ (y : WorldEnd) (j : IsIn w y) (address : end_address y ≡ p) where
      at_y : Matches (view_of_end y) (party w ok p)
      at_y = subst (λ (a : Endpoint). Matches (view_of_end y) (party w ok a)) address (matched w ok j.0 y j.1)

      server : is_client (end_record y).side ≡ false
      server = sym at_y.client ∙ serving.client

      its_peer : HasPeer y (end_address x)
      its_peer = sym at_y.peer ∙ serving.peer

      asked : WasAsked w (end_address x) y
      asked =
          let by = (ok.ends j.0 y j.1).asked server in
          let same : by.0 ≡ end_address x = same_Some by.0 (end_address x) (sym by.1 ∙ its_peer) in
          subst (λ (a : Endpoint). host_of a ≢ Elsewhere → WasAsked w a y) same by.2 near

      its_own : (write : Bool) (request : WireRequest) → HasRequested w (end_address x) write request →
          Attests (party w ok (end_address x)) request_port (Request write request)
      its_own write request h = attested (end_address x) write request near h

      serves : AnswersClient w (end_address x) y
      serves = record {
        is_in = j;
        server = server;
        peer = its_peer;
        write = asked.write;
        request = asked.request;
        asked = asked.sent;
        only = λ also other h. (
          sym (its_own also other h).sender ∙ (its_own asked.write asked.request asked.sent).sender,
          sym (its_own also other h).request ∙ (its_own asked.write asked.request asked.sent).request,
        );
        opened = asked.opened;
        path = asked.path;
      }

    served : (y : WorldEnd) × (end_address y ≡ p) × AnswersClient w (end_address x) y
    served = (there.0, there.2, serves there.0 there.1 there.2)

  transfers : AreSafe safety_of (IsIn w) (λ p. host_of p ≢ Elsewhere)
  transfers = record {
    same_size = λ x y i j e f. safe.same_size (view_of_end x) (view_of_end y) (among x i) (among y j) e f;
    ours = λ x p i client peer. safe.ours (view_of_end x) p (among x i) client peer;
    is_empty = λ x i r e.
        let t = safe.is_empty (view_of_end x) (among x i) r e in
        let b =
        subst (λ (z : List ℕ). IsPrefixOf (wire_text (end_mode x) (end_stored x)) z)
        (t ∙ sym (nothing_travels (end_mode x))) (begins x r) in
        first_of_empty (end_stored x) (wire_prefix (end_mode x) (end_stored x) [] b);
    is_prefix = λ x p i r e own.
        let h = safe.is_prefix (view_of_end x) p (among x i) r e own in
        let z = sender_at x p h.0 h.1 in
        let b = subst (λ (t : List ℕ). IsPrefixOf (wire_text (end_mode x) (end_stored x)) t) z.2
        (IsPrefixOf-trans (wire_text (end_mode x) (end_stored x)) (end_text x) h.0.text (begins x r) h.2) in
        (z.0, z.1, wire_prefix (end_mode x) (end_stored x) (end_file z.0) b);
    is_committed = λ x i r d. committed x (ok.ends i.0 x i.1) r d;
    is_whole = λ x i r d.
        let g = safe.is_whole (view_of_end x) (among x i) r d in (
          g.0,
          g.1,
          λ own.
              let h = g.2 own in
              let z = sender_at x g.0 h.0 h.1 in (
                z.0,
                z.1,
                z.3 ∙ h.2,
                wire_same (end_mode x) (end_stored x) (end_file z.0) (sym (whole x r d) ∙ (h.3 ∙ z.2)),
                refl,
              ),
        );
    sender_last = λ x i s d.
        let g = safe.sender_last (view_of_end x) (among x i) s d in (
          g.0,
          g.1,
          λ own.
              let h = g.2 own in
              let y = end_of w h.0 h.1.is_end in (
                y.0,
                record {
                  is_end = y.1;
                  address = ap (λ (v : EndView). v.address) y.2 ∙ h.1.address;
                  peer = ap (λ (v : EndView). v.peer) y.2 ∙ h.1.peer;
                  complete = ap (λ (v : EndView). v.complete) y.2 ∙ h.1.complete;
                },
              ),
        );
  }

  -- a world that refines the rules is safe
  pub ok_safe : IsSafe w
  ok_safe = record {
    at_address = λ k x i.
        let client = is_client (end_record x).side in
        endpoint_from (end_address x) (endpoint_of_end (end_record x).side k)
        (ip_at_home (end_address x) client ((sound k x i).at_home ∙ ap home (matched w ok k x i).client))
        (ok.ports k x i);
    unique = λ x y i j e.
        let p = ok.ports i.0 x i.1 in
        let q = ok.ports j.0 y j.1 in
        let f : (end_address x).port ≡ (end_address y).port = ap (λ (a : Endpoint). a.port) e in
        let k : i.0 ≡ j.0 = omega (arith, p, q, f) in
        same_Some x y (sym i.1 ∙ (ap (slice_get w.ends) k ∙ j.1));
    transfers = transfers;
    at_server = at_server;
    served = served;
    is_from_path = λ o x i s c. (ok.ends i.0 x i.1).sends o c s;
    is_at_path = λ o x i r d c. (ok.ends i.0 x i.1).stored o c r d;
  }

-- a world that is kept is safe
pub kept_is_safe : KeptIsSafe
kept_is_safe strangers w ok = ok_safe w (any_of strangers w ok)

-- every run leads to a safe world
pub worlds_are_safe : WorldsAreSafe
worlds_are_safe files config events w max r =
    ok_safe w (run_keeps true events (new_world files config) w (any_may events) (new_ok true files config max) r)

-- without strangers every peer is at one of the two hosts
pub peers_stay_home : PeersStayHome
peers_stay_home files config events w max may r =
    ok_at_home w (run_keeps false events (new_world files config) w may (new_ok false files config max) r)
