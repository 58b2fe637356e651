-- A request that repeats that of an open transfer opens nothing, and repeats it while that transfer is open. For
-- `a_repeat_opens_nothing` and six other files.
use Rattle.tftp_player.proofs.Common.{◌≡◌, ℕ, ◌<◌, Bool, true, false, List, [], ◌∷◌, ◌++◌, length, Option, Some, None}
use Rattle.tftp_player.proofs.Common.{refl, sym, ap, ◌∙◌, subst, inl, inr, arith, rules, if◌then◌else◌, slice_get}
use Rattle.tftp_player.proofs.Common.{true≢false, same_Some, Spells, Mode, Packet, Read, Write, Known, Files, Holding}
use Rattle.tftp_player.proofs.Common.{Terms, terms_of, Decodes, Turn, Service, Silent, Refused, Sends, Takes}
use Rattle.tftp_player.proofs.Common.{request_port, Endpoint, OpenEnd, end_after, sending_end, receiving_end}
use Rattle.tftp_player.proofs.Common.{IsRepeated, Repeats, AnyRepeats, served, service, WorldState, WorldEnd, Open_end}
use Rattle.tftp_player.proofs.Common.{standing, is_closed, Refines, ServiceStep, Delivery, At_request_port, At_open_end}
use Rattle.tftp_player.proofs.Common.{At_closed_end, At_nobody, OpeningStep, Stays, Turns, armed_end, Report}
use Rattle.tftp_player.proofs.Common.{has_error_opcode, IllegalOperation, Refuses}
use Rattle.tftp_server.specs.Port.{Ignores}
use Rattle.tftp_player.specs.Repeating.{AsksForTransfer, RepeatsOpenNothing, IsNewRequest, OnlyNewRequestsOpen}
use Rattle.tftp_player.specs.Repeating.{RequestsLast}
use Rattle.tftp_player.specs.Requests.{WasAskedBy}
use Rattle.tftp_player.proofs.ServerLemmas.{says_one}
use Rattle.tftp_player.proofs.Changes.{IsTurn, Came, Was, Began, Was_armed, Moved, event_came}
use Rattle.tftp_player.proofs.TermsKept.{turn_terms}

-- ---- what repeats a request is ignored

-- no end is at the request port
none_at_port : (strangers : Bool) (w : WorldState) (k : ℕ) (x : OpenEnd) → Refines strangers w →
    slice_get w.ends k ≡ Some (Open_end x) → x.address ≡ request_port → ⊥
none_at_port strangers w k x ok there at =
    let p = ok.ports k (Open_end x) there in
    let q : x.address.port ≡ 69 = ap (λ (e : Endpoint). e.port) at in
    omega (arith, p, q)

module _ (old new : WorldState) (from : Endpoint) (packet : Packet) (bytes : List ℕ) (report : Report)
    (asks : AsksForTransfer packet) (spells : Spells packet bytes) (any : AnyRepeats from packet old.ends) where
  at_port : (repeated : Bool) → IsRepeated repeated from (Some packet) old.ends →
      ServiceStep (service old repeated bytes (Some packet)) old from bytes report new → Stays old report new
  at_port repeated same s = search rules

  stays : (strangers : Bool) (to : Endpoint) → Refines strangers old → to ≡ request_port →
      Delivery old from to bytes report new → Stays old report new
  stays strangers to ok here (At_request_port _ port decoded says repeated same s) =
      let e = says_one bytes decoded (Some packet) says spells in
      at_port repeated (subst (λ (d : Option Packet). IsRepeated repeated from d old.ends) e same)
      (subst (λ (d : Option Packet). ServiceStep (service old repeated bytes d) old from bytes report new) e s)
  stays strangers to ok here (At_open_end k x there at t) = absurd (none_at_port strangers old k x ok there (at ∙ here))
  stays strangers to ok here (At_closed_end k x there at s) = s
  stays strangers to ok here (At_nobody away nobody s) = absurd (away here)

-- a repeated request opens nothing
pub repeats_open_nothing : RepeatsOpenNothing
repeats_open_nothing strangers old new from packet bytes report ok asks spells any l =
    let s = stays old new from packet bytes report asks spells any strangers request_port ok refl l in
    (s.reports, s.is)

-- ---- what opens an end

any_last : (from : Endpoint) (packet : Packet) (ends : List WorldEnd) (x : WorldEnd) → Repeats from packet x →
    AnyRepeats from packet (ends ++ x ∷ [])
any_last from packet [] x r = inl r
any_last from packet (y ∷ ends) x r = inr (any_last from packet ends x r)

-- the datagram that opened a sender repeats its request
pub sender_repeats :
    (w : WorldState) (from : Endpoint) (bytes : List ℕ) (mode : Mode) (path file : List ℕ) (agreed : List Known)
    (packet : Packet) → Spells packet bytes →
    WasAskedBy from packet (sending_end w from bytes mode path file agreed)
sender_repeats w from bytes mode path file h6 packet spells = search rules

-- the datagram that opened a receiver repeats its request
pub receiver_repeats :
    (w : WorldState) (from : Endpoint) (bytes : List ℕ) (mode : Mode) (path : List ℕ) (agreed : List Known)
    (packet : Packet) → Spells packet bytes →
    WasAskedBy from packet (receiving_end w from bytes mode path agreed)
receiver_repeats w from bytes mode path h5 packet spells = search rules

module _ (old new : WorldState) (from : Endpoint) (bytes : List ℕ) (report : Report)
    (more : length old.ends < length new.ends) where
  abbrev Serves_so : Service → Type 0
  Serves_so what = ServiceStep what old from bytes report new

  -- the same ends are no more
  same : length new.ends ≡ length old.ends → ⊥
  same e = omega (arith, e, more)

  still : Stays old report new → ⊥
  still s = same (ap (λ (w : WorldState). length w.ends) s.is)

  said : (w : WorldState) → new ≡ w → w.ends ≡ old.ends → ⊥
  said w is e = same (ap (λ (v : WorldState). length v.ends) is ∙ ap length e)

  opened_repeats : (packet : Packet) (x : OpenEnd) → OpeningStep old x report new → WasAskedBy from packet x →
      AnyRepeats from packet new.ends
  opened_repeats packet x o r = search (rules, any_last)

  served_repeats : (what : Service) (packet : Packet) → Spells packet bytes → Serves_so what →
      AnyRepeats from packet new.ends
  served_repeats Silent packet spells s = absurd (still s)
  served_repeats (Refused reply) packet spells s = absurd (said _ s.1 refl)
  served_repeats (Sends path mode count agreed) packet spells s =
      opened_repeats packet _ s.2 (sender_repeats old from bytes mode path s.0 agreed packet spells)
  served_repeats (Takes path mode agreed) packet spells s =
      opened_repeats packet _ s (receiver_repeats old from bytes mode path agreed packet spells)

  -- no request: an ERROR or nothing
  no_request : (b : Bool) → Serves_so (served old (if b then Ignores else Refuses IllegalOperation)) → ⊥
  no_request true s = still s
  no_request false s = said _ s.1 refl

  asked : (to : Endpoint) → to ≡ request_port → (packet : Packet) → AsksForTransfer packet → Spells packet bytes →
      (repeated : Bool) → IsRepeated repeated from (Some packet) old.ends →
      Serves_so (service old repeated bytes (Some packet)) → IsNewRequest from to bytes old new
  asked to here packet asks spells true same s = search rules
  asked to here packet asks spells false same s = record {
    packet = packet;
    asks = asks;
    spells = spells;
    at_port = here;
    before = λ any. true≢false (sym (same.1 any));
    now = served_repeats (service old false bytes (Some packet)) packet spells s;
  }

  port_opens : (to : Endpoint) → to ≡ request_port → (decoded : Option Packet) → Decodes bytes decoded →
      (repeated : Bool) → IsRepeated repeated from decoded old.ends →
      Serves_so (service old repeated bytes decoded) → IsNewRequest from to bytes old new
  port_opens to here (Some (Read request)) says repeated same s = asked to here (Read request) tt says repeated same s
  port_opens to here (Some (Write request)) says repeated same s = asked to here (Write request) tt says repeated same s
  port_opens to here decoded says repeated same s = absurd (no_request (has_error_opcode bytes) s)

  turned : (k : ℕ) (x : OpenEnd) (turn : Turn) (held : Files (List ℕ) Holding) → Turns old k x turn held report new → ⊥
  turned k x turn held t = search rules

  opens : (to : Endpoint) → Delivery old from to bytes report new → IsNewRequest from to bytes old new
  opens to (At_request_port here port decoded says repeated same s) = port_opens to here decoded says repeated same s
  opens to (At_open_end k x there at t) = absurd (turned k x t.turn t.held t.turns)
  opens to (At_closed_end k x there at s) = absurd (still s)
  opens to (At_nobody away nobody s) = absurd (still s)

-- what opens an end repeats no request
pub only_new_requests_open : OnlyNewRequestsOpen
only_new_requests_open old new from to bytes report l more = opens old new from bytes report more to l

-- ---- a request lasts as long as the end that it opened is open

module _ (from : Endpoint) (packet : Packet) where
  -- while it is open it is repeated
  abbrev Lasts : WorldEnd → Type 0
  Lasts x = is_closed x ≡ false → Repeats from packet x

  turn_lasts : (x : OpenEnd) (turn : Turn) (held : Files (List ℕ) Holding) →
      ((agreed : Terms) → terms_of x.state.position.phase ≡ Some agreed → terms_of turn.position.phase ≡ Some agreed) →
      WasAskedBy from packet x → Lasts (standing (end_after x turn held))
  turn_lasts x turn held stays r = search rules

  armed_lasts : (x : WorldEnd) → Repeats from packet x → Repeats from packet (armed_end x)
  armed_lasts x r = search rules

  -- however an end came to be that repeated it
  came_lasts : (w : WorldState) (k : ℕ) (x z : WorldEnd) → slice_get w.ends k ≡ Some x → Repeats from packet x →
      Came (IsTurn w) w k z → Lasts z
  came_lasts w k x z there r (Was y i) o = subst (Repeats from packet) (same_Some x y (sym there ∙ i)) r
  came_lasts w k x z there r (Began y none begins) o = absurd (let f : None ≡ Some x = sym none ∙ there in cc)
  came_lasts w k x z there r (Was_armed y i) o =
      armed_lasts y (subst (Repeats from packet) (same_Some x y (sym there ∙ i)) r)
  came_lasts w k x z there r (Moved y turn held i t) o =
      turn_lasts y turn held (turn_terms w y turn held t)
      (subst (Repeats from packet) (same_Some x (Open_end y) (sym there ∙ i)) r) o

-- a request is repeated as long as its end is open
pub requests_last : RequestsLast
requests_last old new event report from packet k x y s there r here open_now =
    came_lasts from packet old k x y there r (event_came old new event report s k y here) open_now
