-- The effect of an event on a world, and when it is refused.
use Rattle.std.specs.Prelude.{ℕ, ◌≡◌, ◌≢◌, ◌+◌, ◌<◌, ◌≤◌, Bool, true, false, not, if◌then◌else◌}
use Rattle.std.specs.Prelude.{List, [], ◌∷◌, length, slice_get, slice_set, Option, Some, None, ⊤}
use Rattle.std.specs.Prelude.{◌⊎◌, ◌&&◌}
use Rattle.tftp_player.specs.Common.{Packet, Files, wire_text, memory_source, Holding, EndState}
use Rattle.tftp_player.specs.Common.{is_sender, is_client, Decodes, Turn, timeout_turn, error_bytes}
use Rattle.tftp_player.specs.Common.{host_of, request_port, Elsewhere, OpenEnd, files_of, end_after}
use Rattle.tftp_player.specs.Common.{Service, Silent, Refused, Sends, Takes, Datagram, Event, Get}
use Rattle.tftp_player.specs.Common.{Put, Deliver, Timeout, Stray, Report, WorldFault}
use Rattle.tftp_player.specs.Common.{NoSuchDatagram, NoSuchEnd, NoPort, BadRequest, Memory}
use Rattle.tftp_player.specs.Common.{Endpoint}
use Rattle.tftp_file.specs.declared.fault.StoreFault.{StoreFault}
use Rattle.tftp_file.specs.declared.fault.StoreFault.TheVariants as faults
use Rattle.tftp_file.specs.Sink.{SinkMeaning}
use Rattle.tftp_ends.specs.Step.{DatagramStep}
use Rattle.tftp_player.specs.World.{StoredFile, file_at, in_the_way, ClosedEnd, WorldEnd, Open_end}
use Rattle.tftp_player.specs.World.{Closed_end, end_address, WorldState, next_port, datagram}
use Rattle.tftp_player.specs.World.{has_committed, world_after, report_of, no_report, opened_in}
use Rattle.tftp_player.specs.World.{said_in, sent_report}
use Rattle.tftp_player.specs.Openings.{reading_client, writing_client, MayGet, MayPut, sending_end}
use Rattle.tftp_player.specs.Openings.{receiving_end}
use Rattle.tftp_player.specs.Requests.{IsRepeated, service}
use Rattle.tftp_player.specs.declared.event.Event.TheVariants.{RefuseStore}

-- an append is refused only if it is set to be, or out of memory
abbrev pub may_refuse_append : Holding → List ℕ → StoreFault → Type 0
may_refuse_append holding bytes faults.Full = holding.refuses ≡ true
may_refuse_append holding bytes faults.Memory = ⊤
may_refuse_append holding bytes fault = ⊥

-- a commit is refused only if it is set to be; at the server also out of memory, or if a file is in
-- its way
abbrev pub may_refuse_commit : Bool → Option (List ℕ) → Holding → StoreFault → Type 0
may_refuse_commit true there holding faults.Full = holding.refuses ≡ true
may_refuse_commit false there holding faults.Full = (holding.refuses ≡ true) ⊎ (there ≡ None)
may_refuse_commit false there holding faults.Exists = (holding.refuses ≡ false) × (there ≢ None)
may_refuse_commit client there holding fault = ⊥

-- the model of a sink of the world whose commit may return these faults; it has no other state
abbrev pub world_sink : (Holding → StoreFault → Type 0) → SinkMeaning Holding
world_sink may_commit =
    record {
      held = λ holding. Some holding;
      may_refuse_append = may_refuse_append;
      may_refuse_commit = may_commit;
      becomes = λ before after committed. ⊤;
      after_append = λ before bytes after fault. ⊤;
      after_commit = λ before after fault. ⊤;
    }

-- the step of an open end at a datagram with its file; `there` is in the way of what it stores
abbrev pub EndStep : Bool → Option (List ℕ) → Endpoint → List ℕ → EndState → Files (List ℕ) Holding
    → Turn → Files (List ℕ) Holding → Type 0
EndStep client there from bytes e files turn files' =
    DatagramStep memory_source (world_sink (may_refuse_commit client there))
    from bytes e files turn files'

-- the bytes are under the path, where no file was in the way, and the other files are unchanged
pub record IsStored (overwrite : Bool) (path bytes : List ℕ)
    (old new : List StoredFile) : Type 0 where
  pub free : in_the_way overwrite (file_at old path) ≡ None
  pub here : file_at new path ≡ Some bytes
  pub others : (q : List ℕ) → q ≢ path → file_at new q ≡ file_at old q

-- the server's files, by whether one of its ends has committed
abbrev pub FilesAfter : Bool → Bool → List ℕ → List ℕ → List StoredFile → List StoredFile → Type 0
FilesAfter overwrite true path bytes old new = IsStored overwrite path bytes old new
FilesAfter overwrite false path bytes old new = new ≡ old

-- the end at index k has made this step at an event; `held` is its file after it
pub record Turns (old : WorldState) (k : ℕ) (x : OpenEnd) (turn : Turn)
    (held : Files (List ℕ) Holding) (report : Report) (new : WorldState) : Type 0 where
  pub files : List StoredFile
  pub stored : FilesAfter old.overwrite
      (not (is_client x.state.role.side) && has_committed x (end_after x turn held)) x.path
      (end_after x turn held).stored old.files files
  pub reports : report ≡ report_of old x turn
  pub is : new ≡ world_after old k x turn held files

-- nothing happened
pub record Stays (old : WorldState) (report : Report) (new : WorldState) : Type 0 where
  pub reports : report ≡ no_report
  pub is : new ≡ old

-- an end opened, and sent its first datagram
pub record OpeningStep (old : WorldState) (x : OpenEnd) (report : Report)
    (new : WorldState) : Type 0 where
  pub reports : report ≡ sent_report old
  pub is : new ≡ opened_in old x

-- a port is left for another end
abbrev pub HasPort : WorldState → Type 0
HasPort w = next_port w ≤ 65535

-- the effect of this service on a datagram at the request port
abbrev pub ServiceStep : Service → WorldState → Endpoint → List ℕ → Report → WorldState → Type 0
ServiceStep Silent old from bytes report new = Stays old report new
ServiceStep (Refused reply) old from bytes report new =
    (report ≡ sent_report old)
    × (new ≡ said_in old (datagram request_port from (error_bytes reply)))
ServiceStep (Sends path mode length agreed) old from bytes report new =
    (file : List ℕ) × (file_at old.files path ≡ Some file)
    × OpeningStep old (sending_end old from bytes mode path file agreed) report new
ServiceStep (Takes path mode agreed) old from bytes report new =
    OpeningStep old (receiving_end old from bytes mode path agreed) report new

-- the step of the end x of a world at this datagram
abbrev pub StepAt : WorldState → OpenEnd → Endpoint → List ℕ → Turn → Files (List ℕ) Holding
    → Type 0
StepAt w x from bytes turn held =
    EndStep (is_client x.state.role.side) (in_the_way w.overwrite (file_at w.files x.path))
    from bytes x.state (files_of x) turn held

-- a datagram arrived at an open end
pub record OnDatagram (old : WorldState) (k : ℕ) (x : OpenEnd) (from : Endpoint) (bytes : List ℕ)
    (report : Report) (new : WorldState) : Type 0 where
  pub turn : Turn
  pub held : Files (List ℕ) Holding
  pub steps : StepAt old x from bytes turn held
  pub turns : Turns old k x turn held report new

-- the effect of a datagram at its destination
pub data Delivery (old : WorldState) (from to : Endpoint) (bytes : List ℕ) (report : Report)
    (new : WorldState) : Type 0 where
  -- at the request port
  At_request_port : (to ≡ request_port) → HasPort old →
      (decoded : Option Packet) → Decodes bytes decoded →
      (repeated : Bool) → IsRepeated repeated from decoded old.ends →
      ServiceStep (service old repeated bytes decoded) old from bytes report new →
      Delivery old from to bytes report new
  -- at an open end
  At_open_end : (k : ℕ) (x : OpenEnd) → slice_get old.ends k ≡ Some (Open_end x) → x.address ≡ to →
      OnDatagram old k x from bytes report new → Delivery old from to bytes report new
  -- at a closed end
  At_closed_end : (k : ℕ) (x : ClosedEnd) → slice_get old.ends k ≡ Some (Closed_end x) →
      x.address ≡ to → Stays old report new → Delivery old from to bytes report new
  -- at no end
  At_nobody : (to ≢ request_port) →
      ((k : ℕ) (x : WorldEnd) → slice_get old.ends k ≡ Some x → end_address x ≢ to) →
      Stays old report new → Delivery old from to bytes report new

-- the effect of a timeout on the end at index k
abbrev pub TimeoutStep : WorldState → ℕ → WorldEnd → Report → WorldState → Type 0
TimeoutStep old k (Open_end x) report new =
    Turns old k x (timeout_turn x.state) (files_of x) report new
TimeoutStep old k (Closed_end x) report new = Stays old report new

-- a receiver, set to refuse its next append or commit; a sender is unchanged
abbrev pub armed_to_refuse : OpenEnd → OpenEnd
armed_to_refuse x = if is_sender x.state.role.side then x else record x { refuses = true }

-- an end, set to refuse; a closed one is unchanged
abbrev pub armed_end : WorldEnd → WorldEnd
armed_end (Open_end x) = Open_end (armed_to_refuse x)
armed_end (Closed_end x) = Closed_end x

-- the end at this port, with its index k
pub record IsAtPort (w : WorldState) (port k : ℕ) (x : WorldEnd) : Type 0 where
  pub is : port ≡ 1024 + k
  pub there : slice_get w.ends k ≡ Some x

-- the effect of an event that is not refused
abbrev pub WorldStep : WorldState → Event → Report → WorldState → Type 0
WorldStep old (Get name mode asked) report new =
    HasPort old × MayGet name mode asked
    × OpeningStep old (reading_client old name mode asked) report new
WorldStep old (Put name mode asked bytes) report new =
    HasPort old × MayPut name mode asked (length (wire_text mode bytes))
    × OpeningStep old (writing_client old name mode asked bytes) report new
WorldStep old (Deliver i) report new =
    (d : Datagram) × (slice_get old.sent i ≡ Some d) × Delivery old d.from d.to d.bytes report new
WorldStep old (Timeout port) report new =
    (k : ℕ) × (x : WorldEnd) × IsAtPort old port k x × TimeoutStep old k x report new
WorldStep old (RefuseStore port) report new =
    (k : ℕ) × (x : WorldEnd) × IsAtPort old port k x
    × (report ≡ no_report) × (new ≡ record old { ends = slice_set old.ends k (armed_end x) })
WorldStep old (Stray from to bytes) report new =
    (host_of from ≡ Elsewhere) × Delivery old from to bytes report new

-- no datagram has this index
abbrev pub FindsNone : List Datagram → ℕ → Type 0
FindsNone sent i = length sent ≤ i

-- no port is left for an end that a request could open
abbrev pub LacksPort : WorldState → Endpoint → Type 0
LacksPort w to = (to ≡ request_port) × (65535 < next_port w)

-- no end was opened at this port
abbrev pub NoneAt : WorldState → ℕ → Type 0
NoneAt w port = (port < 1024) ⊎ (next_port w ≤ port)

-- why an event is refused, except lack of memory: the first fault that applies, in the order of
-- their numbers
abbrev pub EventRefuses : WorldState → Event → WorldFault → Type 0
EventRefuses w (Deliver i) NoSuchDatagram = FindsNone w.sent i
EventRefuses w (Timeout port) NoSuchEnd = NoneAt w port
EventRefuses w (RefuseStore port) NoSuchEnd = NoneAt w port
EventRefuses w (Get name mode asked) NoPort = 65535 < next_port w
EventRefuses w (Put name mode asked bytes) NoPort = 65535 < next_port w
EventRefuses w (Deliver i) NoPort =
    (d : Datagram) × (slice_get w.sent i ≡ Some d) × LacksPort w d.to
EventRefuses w (Stray from to bytes) NoPort = LacksPort w to
EventRefuses w (Get name mode asked) BadRequest = HasPort w × (MayGet name mode asked → ⊥)
EventRefuses w (Put name mode asked bytes) BadRequest =
    HasPort w × (MayPut name mode asked (length (wire_text mode bytes)) → ⊥)
EventRefuses w event fault = ⊥

-- lack of memory is the last fault: it is returned if no other applies
abbrev pub MemoryLast : (WorldFault → Type 0) → WorldFault → Type 0
MemoryLast reason Memory = (fault : WorldFault) → reason fault → ⊥
MemoryLast reason fault = reason fault

-- why an event is refused
abbrev pub WorldRefuses : WorldState → Event → WorldFault → Type 0
WorldRefuses w event fault = MemoryLast (EventRefuses w event) fault

-- the datagrams from this index on were delivered one after another, one for each report
abbrev pub Settles : WorldState → ℕ → List Report → WorldState → Type 0
Settles old from [] new = new ≡ old
Settles old from (report ∷ reports) new =
    (mid : WorldState) × WorldStep old (Deliver from) report mid
    × Settles mid (from + 1) reports new
