-- The world after a sample transfer, computed: a client opens, and each datagram from its request on is delivered
-- once, in order. What is left to check are equations, which hold by computation. For five other files.
use Rattle.tftp_player.proofs.Common.{◌≡◌, ℕ, true, false, List, [], ◌∷◌, length, Option, Some, refl, sym, ap, subst}
use Rattle.tftp_player.proofs.Common.{◌∙◌, suc, arith, inl, inr, rules, slice_get, true≢false, Mode, packet_in, size}
use Rattle.tftp_player.proofs.Common.{Asked, Kind, Known, Fits, wire_text, is_sender, is_client, Service, Sends, Takes}
use Rattle.tftp_player.proofs.Common.{Config, request_port, OpenEnd, MayGet, MayPut, reading_client, writing_client}
use Rattle.tftp_player.proofs.Common.{sending_end, receiving_end, IsRepeated, service, AllTaken, IsAccepted, read_adds}
use Rattle.tftp_player.proofs.Common.{write_adds, WorldState, WorldEnd, StoredFile, datagram, end_address, end_file}
use Rattle.tftp_player.proofs.Common.{end_record, end_stored, new_world, opened_in, sent_report, HasPeer, IsComplete}
use Rattle.tftp_player.proofs.Common.{ServiceStep, At_request_port, WorldStep, Event, Get, Put, Deliver, Transfers}
use Rattle.tftp_player.proofs.Common.{RunsStraight, SomeReadIsStraight, SomeWriteIsStraight, TakesAnswer, IsReceiver}
use Rattle.tftp_player.proofs.Common.{IsReached, PlaysAll}
use Rattle.tftp_negotiate.specs.declared.known.Kind.TheVariants.{Read, Write}
use Rattle.tftp_player.specs.Completing.{IsTransferred}
use Rattle.tftp_player.proofs.WorldRuns.{new_ok}
use Rattle.tftp_player.proofs.SampleDeliveries.{IsSpelled, spells, reports, world_at, AllDelivered, settles}
use Rattle.tftp_player.proofs.SampleDeliveries.{count_reports, deliveries, plays}

-- ---- a transfer of one file, of this name and in a world in which nothing has happened
-- the name of the file
abbrev pub name : List ℕ
name = 97 ∷ []

-- the configuration of the sample worlds
abbrev pub config : Config
config = record { limits = record { max_block = 1428; max_file = 10 }; retries = 2; cap = 1; overwrite = false }

-- the options that are requested and agreed, and the file
pub record Sample : Type 0 where
  pub mode : Mode
  pub asked : Asked
  pub agreed : List Known
  pub file : List ℕ
  -- how many datagrams are delivered after the request
  pub count : ℕ
  -- the bytes of the host that a block stands for
  pub host : List ℕ → List ℕ

-- the server's files, the event that opens the client, both ends, and the worlds after each of them and at the end
abbrev pub files_for : Kind → Sample → List StoredFile
files_for Read s = (name, s.file) ∷ []
files_for Write s = []

-- the world at its start
abbrev pub new_world_for : Kind → Sample → WorldState
new_world_for kind s = new_world (files_for kind s) config

-- the event by which the client opens
abbrev pub event_for : Kind → Sample → Event
event_for Read s = Get name s.mode s.asked
event_for Write s = Put name s.mode s.asked s.file

-- the client may open so
abbrev pub MayOpen : Kind → Sample → Type 0
MayOpen Read s = MayGet name s.mode s.asked
MayOpen Write s = MayPut name s.mode s.asked (length (wire_text s.mode s.file))

-- the client as it opens
abbrev pub client_for : Kind → Sample → OpenEnd
client_for Read s = reading_client (new_world_for Read s) name s.mode s.asked
client_for Write s = writing_client (new_world_for Write s) name s.mode s.asked s.file

-- the bytes of its request
abbrev pub request_for : Kind → Sample → List ℕ
request_for kind s = (client_for kind s).state.position.last_sent

-- the world once it has asked
abbrev pub asked_world : Kind → Sample → WorldState
asked_world kind s = opened_in (new_world_for kind s) (client_for kind s)

-- what the server decides
abbrev pub service_for : Kind → Sample → Service
service_for Read s = Sends name s.mode (length (wire_text s.mode s.file)) s.agreed
service_for Write s = Takes name s.mode s.agreed

-- the server's end as it opens
abbrev pub server_for : Kind → Sample → OpenEnd
server_for Read s =
    sending_end (asked_world Read s) (client_for Read s).address (request_for Read s) s.mode name s.file s.agreed
server_for Write s =
    receiving_end (asked_world Write s) (client_for Write s).address (request_for Write s) s.mode name s.agreed

-- the world once that has opened
abbrev pub begun_world : Kind → Sample → WorldState
begun_world kind s = opened_in (asked_world kind s) (server_for kind s)

-- the world after all deliveries
abbrev pub last_world : Kind → Sample → WorldState
last_world kind s = world_at s.host s.count (begun_world kind s) 1

-- what is left to check of it: the transfer runs as the worlds above say
pub record Runs (kind : Kind) (s : Sample) : Type 0 where
  pub may : MayOpen kind s
  pub spelled : IsSpelled (request_for kind s)
  pub accepts :
      service (asked_world kind s) false (request_for kind s) (Some (packet_in (request_for kind s)))
      ≡ service_for kind s
  pub answered : TakesAnswer s.asked kind s.mode config.limits.max_file s.agreed
  pub all : AllDelivered s.host s.count (begun_world kind s) 1

-- the client opens by a step
pub asks : (kind : Kind) (s : Sample) → MayOpen kind s →
    WorldStep (new_world_for kind s) (event_for kind s) (sent_report (new_world_for kind s)) (asked_world kind s)
asks kind s may = search rules

-- so events lead to what comes after
pub reached_by : (kind : Kind) (s : Sample) → MayOpen kind s → (events : List Event) (w : WorldState) →
    PlaysAll (asked_world kind s) events w → IsReached w
reached_by kind s may events w then_on = record {
  files = files_for kind s;
  config = config;
  events = event_for kind s ∷ events;
  max_block = (omega arith, omega arith);
  plays = (asked_world kind s, sent_report (new_world_for kind s), asks kind s may, then_on);
}

begins : (kind : Kind) (s : Sample) →
    ServiceStep (service_for kind s) (asked_world kind s) (client_for kind s).address (request_for kind s)
    (sent_report (asked_world kind s)) (begun_world kind s)
begins kind s = search rules

-- its request goes to the request port
pub is_to_port : (kind : Kind) (s : Sample) → (client_for kind s).state.position.last_sent_to ≡ request_port
is_to_port Read s = refl
is_to_port Write s = refl

-- it is a client
pub is_of_client : (kind : Kind) (s : Sample) → is_client (client_for kind s).state.role.side ≡ true
is_of_client Read s = refl
is_of_client Write s = refl

module _ (kind : Kind) (s : Sample) (runs : Runs kind s) where
  -- the server accepts the request
  pub accepted : IsAccepted (asked_world kind s) (client_for kind s) (service_for kind s)
  accepted = record {
    decoded = Some (packet_in (request_for kind s));
    says = spells (request_for kind s) runs.spelled;
    repeated = false;
    repeats = first;
    is = runs.accepts;
  } where
    first :
        IsRepeated false (client_for kind s).address (Some (packet_in (request_for kind s))) (asked_world kind s).ends
    first = (
      λ f. absurd (true≢false (sym f)),
      λ any. elim any [
        | inl again ↦ absurd (true≢false (sym (is_of_client kind s) ∙ again.still))
        | inr none ↦ absurd none
      ],
    )

  -- the server's end opens by a step
  pub opens : WorldStep (asked_world kind s) (Deliver 0) (sent_report (asked_world kind s)) (begun_world kind s)
  opens = (
    datagram (client_for kind s).address (client_for kind s).state.position.last_sent_to (request_for kind s),
    refl,
    At_request_port (is_to_port kind s) (omega arith) accepted.decoded accepted.says accepted.repeated accepted.repeats
        (subst
        (λ (is : Service).
        ServiceStep is (asked_world kind s) (client_for kind s).address (request_for kind s)
        (sent_report (asked_world kind s)) (begun_world kind s))
        (sym accepted.is) (begins kind s)),
  )

  abbrev straight : RunsStraight (new_world_for kind s) (event_for kind s) (last_world kind s)
  straight = record {
    report = sent_report (new_world_for kind s);
    asked = asked_world kind s;
    asks = asks kind s runs.may;
    reports = sent_report (asked_world kind s) ∷ reports s.host s.count (begun_world kind s) 1;
    settles = (begun_world kind s, opens, settles s.host s.count (begun_world kind s) 1 runs.all);
  }

-- ---- the results
-- a read of which all this was computed is straight
pub read_is_straight_by : (s : Sample) → Runs Read s → suc s.count ≡ read_adds s.mode s.file s.agreed →
    SomeReadIsStraight s.mode s.asked s.file s.agreed
read_is_straight_by s runs counted = (
  new_world_for Read s,
  last_world Read s,
  name,
  new_ok false ((name, s.file) ∷ []) config (omega arith, omega arith),
  record {
    run = straight Read s runs;
    accepts = record {
      path = name;
      length = length (wire_text s.mode s.file);
      there = refl;
      accepted = accepted Read s runs;
      answered = runs.answered;
    };
  },
  ap suc (count_reports s.host s.count (begun_world Read s) 1) ∙ counted,
)

-- a write of which all this was computed is straight
pub write_is_straight_by : (s : Sample) → Runs Write s → Fits (wire_text s.mode s.file) (size s.agreed) →
    AllTaken (reports s.host s.count (begun_world Write s) 1) → suc s.count ≡ write_adds s.mode s.file s.agreed →
    SomeWriteIsStraight s.mode s.asked s.file s.agreed
write_is_straight_by s runs fits taken counted = (
  new_world_for Write s,
  last_world Write s,
  name,
  new_ok false [] config (omega arith, omega arith),
  record {
    run = straight Write s runs;
    accepts = record { path = name; accepted = accepted Write s runs; answered = runs.answered; fits = fits };
    taken = (tt, taken);
  },
  ap suc (count_reports s.host s.count (begun_world Write s) 1) ∙ counted,
)

-- the first end has sent the file to the second, and both are complete
abbrev pub HaveMoved : List ℕ → Option WorldEnd → Option WorldEnd → Type 0
HaveMoved file (Some x) (Some y) =
    (is_sender (end_record x).side ≡ true) × IsReceiver y × HasPeer x (end_address y) × HasPeer y (end_address x)
    × IsComplete x × IsComplete y × (end_file x ≡ file) × (end_stored y ≡ file)
HaveMoved file _ _ = ⊥

transferred : (w : WorldState) (file : List ℕ) (i j : ℕ) (x y : Option WorldEnd) → slice_get w.ends i ≡ x →
    slice_get w.ends j ≡ y → HaveMoved file x y → IsTransferred w file
transferred w file i j x y is_x is_y moved = search rules

-- the indices of the sender and of the receiver
abbrev pub sender_at : Kind → ℕ
sender_at Read = 1
sender_at Write = 0

-- the index of the receiver
abbrev pub receiver_at : Kind → ℕ
receiver_at Read = 0
receiver_at Write = 1

-- a sample whose receiver has the file transfers it
pub transfers_by : (kind : Kind) (s : Sample) (runs : Runs kind s) →
    HaveMoved s.file (slice_get (last_world kind s).ends (sender_at kind))
    (slice_get (last_world kind s).ends (receiver_at kind)) →
    Transfers (event_for kind s) s.file
transfers_by kind s runs moved = (
  files_for kind s,
  config,
  deliveries 0 (straight kind s runs).reports,
  last_world kind s,
  (
    asked_world kind s,
    sent_report (new_world_for kind s),
    asks kind s runs.may,
    plays (asked_world kind s) 0 (straight kind s runs).reports (last_world kind s) (straight kind s runs).settles,
  ),
  transferred (last_world kind s) s.file (sender_at kind) (receiver_at kind)
      (slice_get (last_world kind s).ends (sender_at kind))
      (slice_get (last_world kind s).ends (receiver_at kind)) refl refl moved,
)
