-- What an open end sent last: a sender its newest block, or the OACK before its first.
-- For RecoveringRuns.
use Rattle.tftp_player.proofs.Common.{◌≡◌, ℕ, suc, zero, Bool, true, List, [], ◌∷◌, Option, Some, None, refl, sym}
use Rattle.tftp_player.proofs.Common.{subst, rules, ◌≢◌, slice_get, canonical, Mode, RawOption, Packet, Oack}
use Rattle.tftp_player.proofs.Common.{agreed_options, Known, memory_source, StoreFault, Files, Holding, Action, Respond}
use Rattle.tftp_player.proofs.Common.{Send, Store, Response, Accept, Outcome, Phase, Waiting, Sending, Receiving}
use Rattle.tftp_player.proofs.Common.{Dallying, Closed, Terms, EndState, is_client, Position, datagram_action}
use Rattle.tftp_player.proofs.Common.{serving_read, Turn, DatagramStep, response_turn, data_bytes, timeout_turn}
use Rattle.tftp_player.proofs.Common.{Endpoint, OpenEnd, end_after, WorldState, WorldEnd, Open_end, Closed_end}
use Rattle.tftp_player.proofs.Common.{by_outcome, StoredFile, new_world, PlaysAll, world_sink, Event, Config, MayTake}
use Rattle.tftp_player.proofs.Common.{datagram_takes, TurnBy, Responds, Sends_data, Has_stored, acts_by, files_of}
use Rattle.tftp_player.proofs.Changes.{IsOpening, Reads, Writes, Serves_read, Serves_write, IsTurn, Came, Was, Began}
use Rattle.tftp_player.proofs.Changes.{Was_armed, Moved, event_came, armed_has, At_timeout, At_datagram}

-- the newest datagram of a sender at this number
abbrev pub IsNewest : List ℕ → ℕ → Type 0
IsNewest sent zero = (options : List RawOption) × (sent ≡ canonical (Oack options))
IsNewest sent (suc n) = (piece : List ℕ) × (sent ≡ data_bytes (suc n) piece)

-- what a client's end, or a server's, has sent last in this phase; a client that has stored nothing
-- was opened by an OACK
abbrev pub Newest : Bool → List ℕ → Phase → Type 0
Newest client sent (Waiting asked limit) = Unit {0}
Newest client sent (Sending terms n) = IsNewest sent n
Newest client sent (Receiving terms n) = n ≡ 0 → client ≡ true → terms.by_oack ≡ true
Newest client sent (Dallying terms n dally) = Unit {0}
Newest client sent (Closed terms n complete outcome) = Unit {0}

newest_data : (n : ℕ) (piece : List ℕ) → n ≢ 0 → IsNewest (data_bytes n piece) n
newest_data zero piece positive = absurd (positive refl)
newest_data (suc n) piece positive = (piece, refl)

-- ---- no action leads elsewhere
abbrev Says : Response → Type 0
Says (Accept terms) = terms.by_oack ≡ true
Says response = Unit {0}

abbrev Names : Action → Type 0
Names (Respond response) = Says response
Names (Send terms number) = number ≢ 0
Names (Store terms number) = Unit {0}

names : (known : Option Terms) (from : Endpoint) (decoded : Option Packet) (wrong : Bool) (action : Action) →
    MayTake known from decoded wrong action → Names action
names known from decoded wrong action h5 = search rules

module _ (client : Bool) where
  -- ---- nor does a turn
  abbrev Has : Position → Type 0
  Has position = Newest client position.last_sent position.phase

  response_has : (response : Response) (from : Endpoint) (e : EndState) → Says response → Has e.position →
      Has (response_turn response from e).position
  response_has response from e s h = search rules

  timeout_has : (e : EndState) → Has e.position → Has (timeout_turn e).position
  timeout_has e h = search rules

  turn_has : (from : Endpoint) (e : EndState) (action : Action) (turn : Turn) → Names action → Has e.position →
      TurnBy from e action turn → Has turn.position
  turn_has from e action turn s h (Responds response) = response_has response from e s h
  turn_has from e action turn s h (Sends_data terms n piece) = newest_data n piece s
  turn_has from e action turn s h (Has_stored terms n after positive) = λ z _. absurd (positive z)
  turn_has from e action turn s h h6 = tt

  module _ (refuses_commit : Holding → StoreFault → Type 0) (from : Endpoint) (bytes : List ℕ) (e : EndState) where
    step_has : (files files' : Files (List ℕ) Holding) (turn : Turn) → Has e.position →
        DatagramStep memory_source (world_sink refuses_commit) from bytes e files turn files' → Has turn.position
    step_has files files' turn h d =
        let action = datagram_action e from bytes d.decoded in
        turn_has _ e _ _ (names _ _ _ _ _ (datagram_takes e from bytes d.decoded)) h (acts_by memory_source (world_sink
        refuses_commit) from bytes e action files files' turn d.acts)

-- ---- the ends of a world
-- what an open end of a world sent last
abbrev pub EndNewest : WorldEnd → Type 0
EndNewest (Open_end x) = Newest (is_client x.state.role.side) x.state.position.last_sent x.state.position.phase
EndNewest (Closed_end x) = Unit {0}

-- so it is of each end
abbrev pub AllNewest : WorldState → Type 0
AllNewest w = (k : ℕ) (z : WorldEnd) → slice_get w.ends k ≡ Some z → EndNewest z

outcome_newest : (o : Option Outcome) (x : OpenEnd) → EndNewest (Open_end x) → EndNewest (by_outcome o x)
outcome_newest None x h = h
outcome_newest (Some outcome) x h = tt

turn_newest : (w : WorldState) (x : OpenEnd) (turn : Turn) (held : Files (List ℕ) Holding) → EndNewest (Open_end x) →
    IsTurn w x turn held → EndNewest (Open_end (end_after x turn held))
turn_newest w x turn held h At_timeout = timeout_has (is_client x.state.role.side) x.state h
turn_newest w x turn held h (At_datagram from bytes t files a d) =
    step_has (is_client x.state.role.side) _ from bytes x.state (files_of x) files t h d

read_newest : (agreed : List Known) (peer : Endpoint) (mode : Mode) (count retries : ℕ) (piece : List ℕ) →
    let e = serving_read agreed peer mode count retries piece in
    Newest (is_client e.role.side) e.position.last_sent e.position.phase
read_newest [] peer mode count retries piece = (piece, refl)
read_newest (known ∷ others) peer mode count retries piece = (agreed_options (known ∷ others), refl)

opening_newest : (w : WorldState) (x : OpenEnd) → IsOpening w x → EndNewest (Open_end x)
opening_newest w x (Reads name mode asked) = tt
opening_newest w x (Writes name mode asked file) = tt
opening_newest w x (Serves_read peer request mode path file agreed) = read_newest agreed peer mode _ _ _
opening_newest w x (Serves_write peer request mode path agreed) = search rules

came_newest : (w : WorldState) → AllNewest w → (j : ℕ) (z : WorldEnd) → Came (IsTurn w) w j z → EndNewest z
came_newest w h j z (Was y i) = h j y i
came_newest w h j z (Began x none o) = opening_newest w x o
came_newest w h j z (Was_armed y i) = armed_has EndNewest (λ x n. n) y (h j y i)
came_newest w h j z (Moved x turn held i t) =
    outcome_newest _ (end_after x turn held) (turn_newest w x turn held (h j (Open_end x) i) t)

-- so it is after all events
pub run_newest : (events : List Event) (old new : WorldState) → AllNewest old → PlaysAll old events new → AllNewest new
run_newest [] old new h r = subst AllNewest (sym r) h
run_newest (event ∷ events) old new h r =
    run_newest events r.0 new (λ k z i. came_newest old h k z (event_came old r.0 event r.1 r.2 k z i)) r.3

-- a new world has no ends
pub new_newest : (files : List StoredFile) (config : Config) → AllNewest (new_world files config)
new_newest files config k z i = absurd (let f : None ≡ Some z = i in cc)
