-- What the run of rules behind a world says of its ends, and of two that are established.
-- For the laws on recovery, and for those on blame.
use Rattle.tftp_player.proofs.Common.{◌≡◌, ℕ, ◌+◌, ◌*◌, ◌<◌, ◌≤◌, Bool, true, false, not, List, ◌++◌, length, take, map}
use Rattle.tftp_player.proofs.Common.{Some, None, refl, sym, ap, ◌∙◌, subst, arith, inl, inr, ◌≢◌, if◌then◌else◌}
use Rattle.tftp_player.proofs.Common.{slice_get, Contains, true≢false, same_Some, Packet, Spells, one_meaning}
use Rattle.tftp_player.proofs.Common.{block_count, wire_text, Phase, Terms, is_sender, is_complete, outcome_of}
use Rattle.tftp_player.proofs.Common.{terms_of, size_of, IsUnderWay, PhaseKept, Attests, two_hosts, Endpoint, Elsewhere}
use Rattle.tftp_player.proofs.Common.{Machine, Message, OpenEnd, goes_on, received_text, message, said, Matches}
use Rattle.tftp_player.proofs.Common.{text_else, text_if, own_of, WorldState, WorldEnd, Open_end, datagram, view_of_end}
use Rattle.tftp_player.proofs.Common.{end_address, Refines, Sending, Party, peer_of, end_record, Holds, host_of, start}
use Rattle.tftp_player.proofs.Common.{Shows, same_size, end_mode, rules}
use Rattle.tftp_ends.specs.End.{number_of}
use Rattle.tftp_rules.specs.Facts.{HasReceived}
use Rattle.tftp_rules.specs.Rules.{run}
use Rattle.tftp_rules.proofs.Blocks.{count_is_past}
use Rattle.tftp_rules.proofs.Grows.{HasPeer, peer_of as peer_is}
use Rattle.tftp_rules.proofs.Runs.{Holds-start, Holds-run}
use Rattle.tftp_player.specs.Recovering.{IsEstablished}
use Rattle.tftp_rules.proofs.NextBlocks.{less}
use Rattle.tftp_rules.proofs.NumbersNear.{AreNear, near_run, near_start}
use Rattle.tftp_player.proofs.WorldTurns.{view_at}

-- strangers may have sent, or may not
pub any_of : (strangers : Bool) (w : WorldState) → Refines strangers w → Refines true w
any_of strangers w ok = search rules

-- ---- what the rules behind a world say
module _ (w : WorldState) (ok : Refines true w) where
  -- the state that the rules lead to
  abbrev pub m : Machine
  m = run two_hosts ok.shown.0 start

  -- its invariant
  pub holds : Holds two_hosts m
  holds = Holds-run two_hosts ok.shown.0 start (Holds-start two_hosts) ok.shown.1.0

  -- the numbers of its ends are near
  pub near : AreNear two_hosts m.party
  near = near_run two_hosts ok.shown.0 start (Holds-start two_hosts) (near_start two_hosts) ok.shown.1.0

  -- it shows the ends of the world
  pub shows : Shows (map view_of_end w.ends) ok.messages m
  shows = ok.shown.1.1

  -- each end matches its party
  pub matched : (k : ℕ) (x : WorldEnd) → slice_get w.ends k ≡ Some x → Matches (view_of_end x) (m.party (end_address x))
  matched k x i = shows.ends k (view_of_end x) (view_at w.ends k x i)

  -- what was sent spells a packet, which is true of its sender
  pub spoken : (from to : Endpoint) (bytes : List ℕ) → Contains w.sent (datagram from to bytes) →
      (p : Packet) × Spells p bytes
  spoken from to bytes i = let says = ok.sent (datagram from to bytes) i in (says.1.packet, says.1.spells)

  -- what was sent is true of its sender
  pub attests : (from to : Endpoint) (bytes : List ℕ) (p : Packet) → host_of from ≢ Elsewhere →
      Contains w.sent (datagram from to bytes) → Spells p bytes → Attests (m.party from) to (said p)
  attests from to bytes p own i s =
      let says = ok.sent (datagram from to bytes) i in
      let same : says.1.packet ≡ p = one_meaning says.1.packet p bytes says.1.spells s in
      let message_is : says.0 ≡ message from to (said p) =
      says.1.says ∙ ap (λ (q : Packet). message from to (said q)) same in
      holds.attested (message from to (said p))
      (subst (λ (ms : List Message). Contains ms (message from to (said p))) (sym shows.sent)
      (subst (λ (n : Message). Contains ok.messages n) message_is says.2)) own

  -- the party at an endpoint
  abbrev pub party : Endpoint → Party
  party = m.party

  -- an open end is kept in its phase
  pub phase_kept : (k : ℕ) (x : OpenEnd) (phase : Phase) → slice_get w.ends k ≡ Some (Open_end x) →
      x.state.position.phase ≡ phase → PhaseKept two_hosts x phase
  phase_kept k x phase there is = subst (PhaseKept two_hosts x) is (ok.ends k (Open_end x) there).stands.kept.phase

  -- its party has its block size
  pub size_in : (k : ℕ) (x : OpenEnd) (phase : Phase) → slice_get w.ends k ≡ Some (Open_end x) →
      x.state.position.phase ≡ phase → (party x.address).size ≡ size_of (terms_of phase)
  size_in k x phase there is = (matched k (Open_end x) there).size ∙ ap (λ (p : Phase). size_of (terms_of p)) is

  -- and its text, if it sends
  pub text_sent : (k : ℕ) (x : OpenEnd) → slice_get w.ends k ≡ Some (Open_end x) →
      is_sender x.state.role.side ≡ true → (party x.address).text ≡ x.text
  text_sent k x there sends = (matched k (Open_end x) there).sent sends
      ∙ text_if (is_sender x.state.role.side) x.text (received_text x.state x.stored) sends

  -- or what it has received
  pub text_had : (k : ℕ) (x : OpenEnd) → slice_get w.ends k ≡ Some (Open_end x) →
      is_sender x.state.role.side ≡ false → is_complete x.state.position.phase ≡ false →
      goes_on x.state.position.phase ≡ true →
      (party x.address).text ≡ wire_text x.state.role.mode x.stored ++ x.state.position.held_back
  text_had k x there receives open_now on =
      let t = wire_text x.state.role.mode x.stored in
      (matched k (Open_end x) there).live open_now refl
      ∙ (text_else (is_sender x.state.role.side) x.text (received_text x.state x.stored) receives
      ∙ ap (λ (b : Bool). if b then t ++ x.state.position.held_back else t) on)

-- ---- two ends of a world, of which the first has the second as its peer
pub record Peers : Type 0 where
  pub w : WorldState
  pub ok : Refines true w
  pub one : ℕ
  pub other : ℕ
  pub x : WorldEnd
  pub y : WorldEnd
  pub x_at : slice_get w.ends one ≡ Some x
  pub y_at : slice_get w.ends other ≡ Some y
  pub has : (end_record x).peer ≡ Some (end_address y)

module _ (p : Peers) where
  open p use {w, ok, one, other, x, y, x_at, y_at, has}

  -- each matches its party
  pub match_x : Matches (view_of_end x) (party w ok (end_address x))
  match_x = matched w ok one x x_at

  pub match_y : Matches (view_of_end y) (party w ok (end_address y))
  match_y = matched w ok other y y_at

  -- and is at one of the two hosts
  pub own_x : host_of (end_address x) ≢ Elsewhere
  own_x = own_of two_hosts (m w ok) (holds w ok) (end_address x) match_x.is_open

  pub own_y : host_of (end_address y) ≢ Elsewhere
  own_y = own_of two_hosts (m w ok) (holds w ok) (end_address y) match_y.is_open

  pub peer_x : (party w ok (end_address x)).peer ≡ Some (end_address y)
  peer_x = match_x.peer ∙ has

  -- they have one mode; one is a client, and one sends
  pub pair : HasPeer (party w ok (end_address x)) (party w ok (end_address y))
  pair = peer_is two_hosts (party w ok) (end_address x) (party w ok (end_address x))
      ((holds w ok).ends (end_address x) match_x.is_open) (end_address y) peer_x own_y

  pub mode_same : end_mode y ≡ end_mode x
  mode_same = sym match_y.mode ∙ (pair.mode ∙ match_x.mode)

-- ---- a sender and its receiver, which has it as its peer
pub record Pair : Type 0 where
  pub w : WorldState
  pub ok : Refines true w
  pub one : ℕ
  pub other : ℕ
  pub x : OpenEnd
  pub y : OpenEnd
  pub st : Terms
  pub n : ℕ
  pub e : IsEstablished w one other x y st n

module _ (p : Pair) where
  open p use {w, ok, one, other, x, y, st, n, e}

  abbrev now : Phase
  now = y.state.position.phase

  abbrev stored_now : ℕ
  stored_now = number_of now

  -- the two ends
  abbrev pub peers : Peers
  peers = record {
    w = w;
    ok = ok;
    one = one;
    other = other;
    x = Open_end x;
    y = Open_end y;
    x_at = e.sender_at;
    y_at = e.receiver_at;
    has = ap peer_of e.sends ∙ ap Some e.to_receiver;
  }

  -- the sender is under way
  pub way : IsUnderWay x st n
  way = phase_kept w ok one x (Sending st n) e.sender_at e.sends

  -- both are open
  pub still_x : outcome_of x.state.position.phase ≡ None
  still_x = (ok.ends one (Open_end x) e.sender_at).stands.still

  pub still_y : outcome_of now ≡ None
  still_y = (ok.ends other (Open_end y) e.receiver_at).stands.still

  peer_y : (party w ok y.address).peer ≡ Some x.address
  peer_y = (match_y peers).peer ∙ e.to_sender

  sends_x : (party w ok x.address).sender ≡ true
  sends_x = (match_x peers).sender ∙ way.sender

  takes_y : (party w ok y.address).sender ≡ false
  takes_y = (pair peers).sender ∙ ap not sends_x

  -- one sends, the other receives
  pub receives : is_sender y.state.role.side ≡ false
  receives = sym (match_y peers).sender ∙ takes_y

  -- the sender's block size
  pub size_x : (party w ok x.address).size ≡ st.size
  size_x = size_in w ok one x (Sending st n) e.sender_at e.sends

  -- is the receiver's
  pub size_y : (party w ok y.address).size ≡ st.size
  size_y =
      sym (same_size two_hosts (m w ok) (holds w ok) x.address y.address
      ((match_x peers).is_open, (match_y peers).is_open, peer_x peers, peer_y)) ∙ size_x

  -- the text that is sent
  pub text_x : (party w ok x.address).text ≡ x.text
  text_x = text_sent w ok one x e.sender_at way.sender

  number_x : (party w ok x.address).number ≡ n
  number_x = (match_x peers).number ∙ ap number_of e.sends

  -- the sender is one block ahead at most
  pub low : n ≤ stored_now + 1
  low =
      let h = (near w ok x.address (match_x peers).is_open).sends sends_x y.address (peer_x peers) (own_y peers) in
      let a = number_x in let b = (match_y peers).number in omega (arith, h, a, b)

  -- and never behind
  pub high : stored_now ≤ n
  high =
      let h = (near w ok y.address (match_y peers).is_open).stores takes_y x.address peer_y (own_x peers) in
      let a = number_x in let b = (match_y peers).number in omega (arith, h, a, b)

  -- a complete receiver has all blocks
  pub all_blocks : is_complete now ≡ true → stored_now ≡ block_count x.text st.size
  all_blocks d =
      sym (match_y peers).number
      ∙ ((near w ok y.address (match_y peers).is_open).whole takes_y ((match_y peers).complete ∙ d) x.address peer_y
      (own_x peers)
      ∙ (ap (λ (t : List ℕ). block_count t (party w ok y.address).size) text_x ∙ ap (block_count x.text) size_y))

  received_y : HasReceived (party w ok y.address) (party w ok x.address)
  received_y =
      ((holds w ok).ends y.address (match_y peers).is_open).received takes_y x.address peer_y (own_x peers)

  -- the receiver has the first blocks of the text
  pub has_text : is_complete now ≡ false → goes_on now ≡ true →
      wire_text y.state.role.mode y.stored ++ y.state.position.held_back ≡ take (stored_now * st.size) x.text
  has_text d g =
      sym (text_had w ok other y e.receiver_at receives d g)
      ∙ (received_y.so_far ((match_y peers).complete ∙ d) (match_y peers).failed
      ∙ (ap (λ (k : ℕ). take (k * (party w ok y.address).size) (party w ok x.address).text) (match_y peers).number
      ∙ (ap (λ (k : ℕ). take (stored_now * k) (party w ok x.address).text) size_y
      ∙ ap (take (stored_now * st.size)) text_x)))

  has_room : is_complete now ≡ false → stored_now * st.size ≤ length x.text
  has_room d =
      let r = received_y.room ((match_y peers).complete ∙ d) in
      subst (λ (t : List ℕ). stored_now * st.size ≤ length t) text_x
      (subst (λ (k : ℕ). stored_now * k ≤ length (party w ok x.address).text) size_y
      (subst (λ (k : ℕ). k * (party w ok y.address).size ≤ length (party w ok x.address).text) (match_y peers).number
      r))

  -- fewer blocks than there are
  pub has_more : is_complete now ≡ false → stored_now < block_count x.text st.size
  has_more d = elim (less (block_count x.text st.size) stored_now) [
    | inl h ↦ h
    | inr h ↦ absurd (let past = count_is_past x.text stored_now st.size way.positive h in
        let room = has_room d in omega (arith, past, room))
  ]

  -- they are two ends
  pub apart : other ≢ one
  apart same =
      let same_ends : Open_end y ≡ Open_end x =
      same_Some (Open_end y) (Open_end x)
      (sym e.receiver_at ∙ (ap (slice_get w.ends) same ∙ e.sender_at)) in
      let same_end : y ≡ x = (let f : Open_end y ≡ Open_end x = same_ends in cc) in
      true≢false (sym way.sender ∙ (ap (λ (z : OpenEnd). is_sender z.state.role.side) (sym same_end) ∙ receives))
