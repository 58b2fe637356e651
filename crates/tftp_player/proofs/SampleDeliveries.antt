-- What each delivery of a sample run does, computed from the world before it. For five other files.
use Rattle.tftp_player.proofs.Common.{◌≡◌, ◌≢◌, ℕ, ◌+◌, ◌-◌, ◌<◌, Bool, true, false, List, [], ◌∷◌, length, rules, take}
use Rattle.tftp_player.proofs.Common.{drop, Option, Some, None, Result, Ok, refl, sym, ap, subst, zero, suc, arith}
use Rattle.tftp_player.proofs.Common.{nat_lt, ◌&&◌, not, min, slice_get, ⊤, true≢false, ltb-true, Packet, Data}
use Rattle.tftp_player.proofs.Common.{packet_in, Spells, memory_source, Holding, StoreFault, Files, Source, Sink}
use Rattle.tftp_player.proofs.Common.{Action, Respond, Send, Store, Receiving, Terms, datagram_action, is_client, Turn}
use Rattle.tftp_player.proofs.Common.{Done, AcksAgain, Acts, Appended, GoesOn, holding, committed_turn, response_turn}
use Rattle.tftp_player.proofs.Common.{sent_turn, ack_bytes, timeout_turn, OpenEnd, files_of, holding_of, end_after}
use Rattle.tftp_player.proofs.Common.{Behaves, WorldState, WorldEnd, Open_end, Closed_end, StoredFile, file_at}
use Rattle.tftp_player.proofs.Common.{in_the_way, has_committed, no_report, report_of, world_after, PlaysAll}
use Rattle.tftp_player.proofs.Common.{FilesAfter, Settles, At_open_end, WorldStep, may_refuse_commit, world_sink}
use Rattle.tftp_player.proofs.Common.{Datagram, Event, Deliver, Timeout, Report, UnlessArmed, block_length, Decoded}
use Rattle.tftp_player.proofs.Common.{StoresTake}
use Rattle.std.proofs.Common.{cond, get_or}
use Rattle.std.specs.BTreeMap.{is_at}
use Rattle.std.proofs.lemmas.Map.Text.{is_eq-slice_cmp}
use Rattle.tftp_wire.specs.Reading.{first_fault}
use Rattle.tftp_wire.proofs.SpellingLemmas.{fault_where_nothing}
use Rattle.tftp_file.specs.Sink.{with_piece}
use Rattle.tftp_store.specs.Store.{path_cmp}
use Rattle.tftp_ends.specs.Step.{filled_turn}

-- ---- bytes, and the packet that they spell
-- each number is a byte
abbrev pub all_bytes : List ℕ → Bool
all_bytes [] = true
all_bytes (b ∷ bytes) = nat_lt b 256 && all_bytes bytes

first_of : (a b : Bool) → (a && b) ≡ true → a ≡ true
first_of true b e = refl
first_of false b e = e

second_of : (a b : Bool) → (a && b) ≡ true → b ≡ true
second_of true b e = e
second_of false b e = absurd (true≢false (sym e))

bytes_below : (bytes : List ℕ) → all_bytes bytes ≡ true → (k : ℕ) → get_or bytes k 0 < 256
bytes_below [] e k = omega arith
bytes_below (b ∷ bytes) e zero = ltb-true b 256 (first_of (nat_lt b 256) (all_bytes bytes) e)
bytes_below (b ∷ bytes) e (suc k) = bytes_below bytes (second_of (nat_lt b 256) (all_bytes bytes) e) k

-- bytes that spell a packet
abbrev pub IsSpelled : List ℕ → Type 0
IsSpelled bytes = (all_bytes bytes ≡ true) × (first_fault bytes ≡ None)

-- they spell the packet in them
pub spells : (bytes : List ℕ) → IsSpelled bytes → Spells (packet_in bytes) bytes
spells bytes is = fault_where_nothing bytes (bytes_below bytes is.0) is.1

-- the data of a DATA
abbrev pub data_of : Packet → List ℕ
data_of (Data number bytes) = bytes
data_of _ = []

-- there are bytes
abbrev pub HasBytes : List ℕ → Type 0
HasBytes [] = ⊥
HasBytes (b ∷ bytes) = ⊤

-- ---- a sink that is not set to refuse
abbrev done : Result Done StoreFault
done = Ok tt

freely : (armed : Bool) (before : Holding) (after : Option Holding) (effect : Type 0) → armed ≡ false → effect →
    UnlessArmed {A = Done} armed before after done effect
freely true before after effect e so = absurd (true≢false e)
freely false before after effect e so = so

appends : (may : Holding → StoreFault → Type 0) (bytes : List ℕ) (h : Holding) → h.refuses ≡ false → HasBytes bytes →
    Appended (world_sink may) bytes h (with_piece h bytes) done
appends may bytes h free some = search rules

-- ---- the turn of an open end at a datagram, by its action; a block stands for these bytes of the host
module _ (host : List ℕ → List ℕ) (d : Datagram) (x : OpenEnd) where
  -- the block that the datagram carries
  abbrev pub piece : List ℕ
  piece = data_of (packet_in d.bytes)

  -- it is shorter than a full block
  abbrev pub is_last : Terms → Bool
  is_last terms = nat_lt (length piece) terms.size

  -- how many bytes the next block has
  abbrev pub want : Terms → ℕ → ℕ
  want terms number = block_length x.state.role.length terms.size number

  -- the sink with the block
  abbrev pub with_block : Holding
  with_block = with_piece (holding_of x) (host piece)

  -- the turn of a receiver that stores it
  abbrev pub stored_turn : Bool → Terms → ℕ → Turn
  stored_turn true terms number = committed_turn {A = Done} terms number d.from (holding [] x.state) (Ok tt)
  stored_turn false terms number =
      sent_turn (Receiving terms number) d.from (ack_bytes number) (holding [] x.state)

  -- the turn of an action
  abbrev pub turn_by : Action → Turn
  turn_by (Respond response) = response_turn response d.from x.state
  turn_by (Send terms number) =
      filled_turn terms number d.from (take (want terms number) x.left) x.state (Ok (want terms number))
  turn_by (Store terms number) = stored_turn (is_last terms) terms number

  -- its file after the turn
  abbrev pub files_by : Action → Files (List ℕ) Holding
  files_by (Respond response) = files_of x
  files_by (Send terms number) = Source (drop (want terms number) x.left)
  files_by (Store terms number) = Sink (record with_block { committed = is_last terms })

  -- what is left to check
  abbrev pub CanAct : Action → Type 0
  CanAct (Respond response) = ⊤
  CanAct (Send terms number) =
      (files_of x ≡ Source x.left) × (want terms number ≡ min (want terms number) (length x.left))
  CanAct (Store terms number) =
      (files_of x ≡ Sink (holding_of x)) × (x.refuses ≡ false) × (packet_in d.bytes ≡ Data number piece)
      × HasBytes (host piece) × Decoded x.state.role.mode x.state.position.held_back piece (host piece) []

  goes_on : (may : Holding → StoreFault → Type 0) (terms : Terms) (number : ℕ) (last : Bool) → x.refuses ≡ false →
      GoesOn (world_sink may) terms number d.from x.state last [] with_block done (stored_turn last terms number)
      (record with_block { committed = last })
  goes_on may terms number true free = record {
    answer = done;
    commits = freely x.refuses with_block _ _ free refl;
    refused = tt;
    leaves = tt;
    effect = tt;
    answers = refl;
  }
  goes_on may terms number false free = (refl, refl)

  acts : (may : Holding → StoreFault → Type 0) (action : Action) → IsSpelled d.bytes → CanAct action →
      Acts memory_source (world_sink may) action d.from d.bytes x.state (files_of x) (turn_by action) (files_by action)
  acts may (Respond response) spelled can = (refl, refl)
  acts may (Send terms number) spelled can =
      rw can.0 (record {
        answer = Ok (want terms number);
        piece = take (want terms number) x.left;
        reads = search rules;
        gives = tt;
        answers = refl;
      })
  acts may (Store terms number) spelled can = (
    piece,
    subst (λ (packet : Packet). Spells packet d.bytes) can.2 (spells d.bytes spelled),
    rw can.0 (record {
      bytes = host piece;
      after = [];
      mid = with_block;
      answer = done;
      decoded = can.4;
      appended = appends may (host piece) (holding_of x) can.1 can.3;
      memory = λ e. absurd (cc);
      rest = goes_on may terms number (is_last terms) can.1;
    }),
  )

  -- the end after the turn, and whether it has committed a file of the server
  abbrev pub end_by : Action → OpenEnd
  end_by action = end_after x (turn_by action) (files_by action)

  -- a server's receiver commits in that turn
  abbrev pub has_stored : Action → Bool
  has_stored action = not (is_client x.state.role.side) && has_committed x (end_by action)

-- ---- the server's files
-- the files with one more, if it was committed
abbrev pub with_file : Bool → List ℕ → List ℕ → List StoredFile → List StoredFile
with_file true path bytes files = (path, bytes) ∷ files
with_file false path bytes files = files

-- the path of the file is free, if a file is committed
abbrev pub IsFree : Bool → Bool → List ℕ → List ℕ → List StoredFile → Type 0
IsFree overwrite true path bytes files =
    (in_the_way overwrite (file_at files path) ≡ None) × (file_at ((path, bytes) ∷ files) path ≡ Some bytes)
IsFree overwrite false path bytes files = ⊤

-- the files under other paths are as before
as_before : (bytes : List ℕ) (there : Option (List ℕ)) (is : Bool) (q path : List ℕ) → is_at (path_cmp q) path ≡ is →
    q ≢ path → cond is (Some bytes) there ≡ there
as_before bytes there is q path e n = search (rules, is_eq-slice_cmp)

files_after : (overwrite stored : Bool) (path bytes : List ℕ) (files : List StoredFile) →
    IsFree overwrite stored path bytes files →
    FilesAfter overwrite stored path bytes files (with_file stored path bytes files)
files_after overwrite stored path bytes files free = search (rules, as_before)

-- ---- one delivery to an open end
-- a report, and the world after it
pub record Delivered : Type 0 where
  pub report : Report
  pub world : WorldState

-- the action of an end for a datagram without a fault
abbrev pub action_of : Datagram → OpenEnd → Action
action_of d x = datagram_action x.state d.from d.bytes (Some (packet_in d.bytes))

-- the index of the end with this port
abbrev pub index_of : Datagram → ℕ
index_of d = d.to.port - 1024

module _ (host : List ℕ → List ℕ) (w : WorldState) where
  -- what the delivery of a datagram does, by the end's action, by the end, and by the datagram
  abbrev pub by_action : Datagram → OpenEnd → Action → Delivered
  by_action d x action =
      record {
        report = report_of w x (turn_by host d x action);
        world =
            world_after w (index_of d) x (turn_by host d x action) (files_by host d x action)
            (with_file (has_stored host d x action) x.path (end_by host d x action).stored w.files);
      }

  -- what the delivery does at the end that is there
  abbrev pub at_end : Datagram → Option WorldEnd → Delivered
  at_end d (Some (Open_end x)) = by_action d x (action_of d x)
  at_end d _ = record { report = no_report; world = w }

  -- what the delivery of a datagram does
  abbrev pub of_datagram : Option Datagram → Delivered
  of_datagram (Some d) = at_end d (slice_get w.ends (index_of d))
  of_datagram None = record { report = no_report; world = w }

  -- what is left to check
  abbrev pub IsHandled : Datagram → OpenEnd → Action → Type 0
  IsHandled d x action =
      (x.address ≡ d.to) × IsSpelled d.bytes × CanAct host d x action
      × AcksAgain x.state (turn_by host d x action) action
      × IsFree w.overwrite (has_stored host d x action) x.path (end_by host d x action).stored w.files

  -- what is to be checked of it at that end
  abbrev pub IsHandledAt : Datagram → Option WorldEnd → Type 0
  IsHandledAt d (Some (Open_end x)) = IsHandled d x (action_of d x)
  IsHandledAt d _ = ⊥

  -- what is to be checked of it
  abbrev pub IsDelivered : Option Datagram → Type 0
  IsDelivered (Some d) = IsHandledAt d (slice_get w.ends (index_of d))
  IsDelivered None = ⊥

  arrives : (i : ℕ) (d : Datagram) (there : Option WorldEnd) → slice_get w.sent i ≡ Some d →
      slice_get w.ends (index_of d) ≡ there → IsHandledAt d there →
      WorldStep w (Deliver i) (at_end d there).report (at_end d there).world
  arrives i d None sent is handled = absurd handled
  arrives i d (Some (Closed_end x)) sent is handled = absurd handled
  arrives i d (Some (Open_end x)) sent is handled = (
    d,
    sent,
    At_open_end (index_of d) x is handled.0 (record {
      turn = turn_by host d x (action_of d x);
      held = files_by host d x (action_of d x);
      steps = record {
        decoded = Some (packet_in d.bytes);
        says = spells d.bytes handled.1;
        acts =
            acts host d x (may_refuse_commit (is_client x.state.role.side) (in_the_way w.overwrite (file_at w.files
            x.path))) (action_of d x) handled.1 handled.2;
        again = handled.3;
      };
      turns = search (rules, files_after);
    }),
  )

  -- a datagram that was sent is delivered
  pub delivers : (i : ℕ) (sent : Option Datagram) → slice_get w.sent i ≡ sent → IsDelivered sent →
      WorldStep w (Deliver i) (of_datagram sent).report (of_datagram sent).world
  delivers i None is delivered = absurd delivered
  delivers i (Some d) is delivered = arrives i d (slice_get w.ends (index_of d)) is refl delivered

-- ---- n deliveries, from the datagram at an index on
module _ (host : List ℕ → List ℕ) where
  -- what the delivery at an index does
  abbrev pub next : WorldState → ℕ → Delivered
  next w i = of_datagram host w (slice_get w.sent i)

  -- the reports of so many deliveries from an index on
  abbrev pub reports : ℕ → WorldState → ℕ → List Report
  reports zero w i = []
  reports (suc n) w i = (next w i).report ∷ reports n (next w i).world (i + 1)

  -- the world after them
  abbrev pub world_at : ℕ → WorldState → ℕ → WorldState
  world_at zero w i = w
  world_at (suc n) w i = world_at n (next w i).world (i + 1)

  -- what is to be checked of each of them
  abbrev pub AllDelivered : ℕ → WorldState → ℕ → Type 0
  AllDelivered zero w i = ⊤
  AllDelivered (suc n) w i = IsDelivered host w (slice_get w.sent i) × AllDelivered n (next w i).world (i + 1)

  -- if it was checked they are what `settle` does
  pub settles : (n : ℕ) (w : WorldState) (i : ℕ) → AllDelivered n w i → Settles w i (reports n w i) (world_at n w i)
  settles zero w i all = refl
  settles (suc n) w i all =
      ((next w i).world, delivers host w i (slice_get w.sent i) refl all.0, settles n (next w i).world (i + 1) all.1)

  -- there are as many reports as deliveries
  pub count_reports : (n : ℕ) (w : WorldState) (i : ℕ) → length (reports n w i) ≡ n
  count_reports zero w i = refl
  count_reports (suc n) w i = ap suc (count_reports n (next w i).world (i + 1))

-- ---- the events of a straight run
-- as many deliveries as reports
abbrev pub deliveries : ℕ → List Report → List Event
deliveries i [] = []
deliveries i (report ∷ reports) = Deliver i ∷ deliveries (i + 1) reports

-- what `settle` does is a run of deliveries
pub plays : (w : WorldState) (i : ℕ) (reports : List Report) (new : WorldState) → Settles w i reports new →
    PlaysAll w (deliveries i reports) new
plays w i [] new settled = settled
plays w i (report ∷ reports) new settled =
    (settled.0, report, settled.1, plays settled.0 (i + 1) reports new settled.2)

-- ---- a timeout, and then the deliveries of all that is sent
-- the world after a timeout of the end at an index
abbrev pub timed_by : WorldState → ℕ → OpenEnd → WorldState
timed_by w k x = world_after w k x (timeout_turn x.state) (files_of x) w.files

-- by which no file of the server changes
abbrev pub StoresNone : OpenEnd → Type 0
StoresNone x =
    (not (is_client x.state.role.side) && has_committed x (end_after x (timeout_turn x.state) (files_of x))) ≡ false

-- that is a step
pub times_out : (w : WorldState) (k : ℕ) (x : OpenEnd) (port : ℕ) → slice_get w.ends k ≡ Some (Open_end x) →
    port ≡ 1024 + k → StoresNone x →
    WorldStep w (Timeout port) (report_of w x (timeout_turn x.state)) (timed_by w k x)
times_out w k x port there is none = (
  k,
  Open_end x,
  record { is = is; there = there },
  record {
    files = w.files;
    stored =
        subst
        (λ (b : Bool).
        FilesAfter w.overwrite b x.path (end_after x (timeout_turn x.state) (files_of x)).stored w.files w.files)
        (sym none) refl;
    reports = refl;
    is = refl;
  },
)

-- and the network behaves after it
abbrev pub behaves : (w new : WorldState) (k : ℕ) (x y : OpenEnd) → slice_get w.ends k ≡ Some (Open_end x) →
    x.address.port ≡ 1024 + k → StoresNone x → 0 < x.state.position.retries_left → (rs : List Report) →
    Settles (timed_by w k x) (length w.sent) rs new → StoresTake y rs → Behaves w x y new
behaves w new k x y there is none some rs settled taken =
    record {
      retries = some;
      report = report_of w x (timeout_turn x.state);
      mid = timed_by w k x;
      times_out = times_out w k x x.address.port there is none;
      reports = rs;
      settles = settled;
      taken = taken;
    }
