-- A run without loss: a client opens, and each datagram from its request on is delivered once, in
-- order.
use Rattle.std.specs.Prelude.{ℕ, ◌≡◌, ◌≢◌, ◌+◌, ◌*◌, ◌<◌, ◌≤◌, false, Bool, ⊤, List, [], ◌∷◌}
use Rattle.std.specs.Prelude.{length, slice_get, Option, Some, None, Ok}
use Rattle.tftp_player.specs.Common.{Mode, Packet, size, Asked, Known, block_count, Fits, wire_text}
use Rattle.tftp_player.specs.Common.{Outcome, Decodes, Service, Sends, Takes, OpenEnd, Event, Get}
use Rattle.tftp_player.specs.Common.{Put, Report}
use Rattle.tftp_negotiate.specs.Agreed.{agreed_options}
use Rattle.tftp_negotiate.specs.Agreement.{agreement}
use Rattle.tftp_negotiate.specs.declared.known.Kind.{Kind}
use Rattle.tftp_negotiate.specs.declared.known.Kind.TheVariants.{Read, Write}
use Rattle.tftp_ends.specs.declared.outcome.Outcome.TheVariants.{StoreFault}
use Rattle.tftp_player.specs.Openings.{reading_client, writing_client}
use Rattle.tftp_player.specs.Requests.{IsRepeated, service}
use Rattle.tftp_player.specs.Settling.{Settled}
use Rattle.tftp_player.specs.World.{WorldState, ClosedEnd, WorldEnd, Closed_end, file_at}
use Rattle.tftp_player.specs.WorldKept.{Refines}
use Rattle.tftp_player.specs.WorldSafety.{IsComplete}
use Rattle.tftp_player.specs.WorldSteps.{WorldStep, Settles}

-- nothing is lost, repeated or late: a client opens, and all other events are deliveries
pub record RunsStraight (old : WorldState) (opening : Event) (new : WorldState) : Type 0 where
  pub report : Report
  -- the world after the client opened
  pub asked : WorldState
  pub asks : WorldStep old opening report asked
  -- the deliveries from the request on
  pub reports : List Report
  pub settles : Settles asked (length old.sent) reports new

-- no end closed because of its store
abbrev pub TookAll : Option (ℕ × Outcome) → Type 0
TookAll None = ⊤
TookAll (Some closed) = closed.1 ≢ StoreFault

-- no store refused an append or a commit
abbrev pub AllTaken : List Report → Type 0
AllTaken [] = ⊤
AllTaken (report ∷ reports) = TookAll report.closed × AllTaken reports

-- the server's port returns this for the request of the client x
pub record IsAccepted (w : WorldState) (x : OpenEnd) (accepts : Service) : Type 0 where
  pub decoded : Option Packet
  pub says : Decodes x.state.position.last_sent decoded
  pub repeated : Bool
  pub repeats : IsRepeated repeated x.address decoded w.ends
  pub is : service w repeated x.state.position.last_sent decoded ≡ accepts

-- the client accepts the answer: without an option, or by an OACK that fits its request (RFC 2347,
-- "Negotiation Protocol")
abbrev pub TakesAnswer : Asked → Kind → Mode → ℕ → List Known → Type 0
TakesAnswer asked kind mode limit [] = ⊤
TakesAnswer asked kind mode limit (known ∷ agreed) =
    (taken : List Known)
    × (agreement asked kind mode (agreed_options (known ∷ agreed)) limit ≡ Ok taken)

-- the number of datagrams of a read of that many blocks, by its first answer: DATA 1, or an OACK
-- (RFC 1350, section 2; RFC 2347, "Negotiation Protocol")
abbrev pub read_count : List Known → ℕ → ℕ
read_count [] blocks = 1 + 2 * blocks
read_count (known ∷ agreed) blocks = 3 + 2 * blocks

-- the same of a write, which ACK 0 or an OACK answers
abbrev pub write_count : ℕ → ℕ
write_count blocks = 2 + 2 * blocks

-- both ends are complete, and `count` datagrams were added
pub record IsThrough (old new : WorldState) (count : ℕ) : Type 0 where
  pub client : WorldEnd
  pub server : WorldEnd
  pub client_at : slice_get new.ends (length old.ends) ≡ Some client
  pub server_at : slice_get new.ends (length old.ends + 1) ≡ Some server
  pub client_done : IsComplete client
  pub server_done : IsComplete server
  pub counted : length new.sent ≡ length old.sent + count

-- a run of `made` deliveries ends after `count`: there are no more, before the last one a datagram
-- is to be delivered, and after it both ends are complete and none is
pub record Ends (old new : WorldState) (made count : ℕ) : Type 0 where
  pub few : made ≤ count
  pub goes_on : made < count → length new.sent ≡ length old.sent + made + 1
  pub through : made ≡ count → IsThrough old new count

-- the server accepts the client's read request, and the client accepts the answer
pub record AcceptsRead (old begun : WorldState) (name : List ℕ) (mode : Mode) (asked : Asked)
    (file : List ℕ) (agreed : List Known) : Type 0 where
  pub path : List ℕ
  pub length : ℕ
  pub there : file_at old.files path ≡ Some file
  pub accepted : IsAccepted begun (reading_client old name mode asked)
      (Sends path mode length agreed)
  pub answered : TakesAnswer asked Read mode old.limits.max_file agreed

-- the same of a write, whose blocks can be numbered
pub record AcceptsWrite (old begun : WorldState) (name : List ℕ) (mode : Mode) (asked : Asked)
    (file : List ℕ) (agreed : List Known) : Type 0 where
  pub path : List ℕ
  pub accepted : IsAccepted begun (writing_client old name mode asked file) (Takes path mode agreed)
  pub answered : TakesAnswer asked Write mode old.limits.max_file agreed
  pub fits : Fits (wire_text mode file) (size agreed)

-- a straight run of an accepted read; no event sets the client to refuse, so it stores all
pub record ReadsStraight (old new : WorldState) (name : List ℕ) (mode : Mode) (asked : Asked)
    (file : List ℕ) (agreed : List Known) : Type 0 where
  pub run : RunsStraight old (Get name mode asked) new
  pub accepts : AcceptsRead old run.asked name mode asked file agreed

-- a straight run of an accepted write
pub record WritesStraight (old new : WorldState) (name : List ℕ) (mode : Mode) (asked : Asked)
    (file : List ℕ) (agreed : List Known) : Type 0 where
  pub run : RunsStraight old (Put name mode asked file) new
  pub accepts : AcceptsWrite old run.asked name mode asked file agreed
  pub taken : AllTaken run.reports

-- the number of datagrams of a read of this file, and of a write
abbrev pub read_adds : Mode → List ℕ → List Known → ℕ
read_adds mode file agreed = read_count agreed (block_count (wire_text mode file) (size agreed))

abbrev pub write_adds : Mode → List ℕ → List Known → ℕ
write_adds mode file agreed = write_count (block_count (wire_text mode file) (size agreed))

-- a read ends with both ends complete, after that many datagrams
abbrev pub ReadsComplete : Type 0
ReadsComplete =
    (strangers : Bool) (old new : WorldState) (name : List ℕ) (mode : Mode) (asked : Asked)
    (file : List ℕ) (agreed : List Known) →
    Refines strangers old → (read : ReadsStraight old new name mode asked file agreed) →
    Ends old new (length read.run.reports) (read_adds mode file agreed)

-- a write does so, too
abbrev pub WritesComplete : Type 0
WritesComplete =
    (strangers : Bool) (old new : WorldState) (name : List ℕ) (mode : Mode) (asked : Asked)
    (file : List ℕ) (agreed : List Known) →
    Refines strangers old → (write : WritesStraight old new name mode asked file agreed) →
    Ends old new (length write.run.reports) (write_adds mode file agreed)

-- `settle` with a limit of at least as many deliveries as a read needs makes that many, and
-- completes it
abbrev pub ReadsSettle : Type 0
ReadsSettle =
    (strangers : Bool) (old begun new : WorldState) (report : Report) (name : List ℕ) (mode : Mode)
    (asked : Asked) (file : List ℕ) (agreed : List Known) (most made : ℕ) →
    Refines strangers old → WorldStep old (Get name mode asked) report begun →
    AcceptsRead old begun name mode asked file agreed →
    Settled begun (length old.sent) most made new → read_adds mode file agreed ≤ most →
    (made ≡ read_adds mode file agreed) × IsThrough old new (read_adds mode file agreed)

-- of the ends that have closed since, none has a store's fault as its outcome
abbrev pub HaveTaken : WorldState → WorldState → Type 0
HaveTaken old new =
    (k : ℕ) (x : ClosedEnd) → slice_get new.ends k ≡ Some (Closed_end x)
    → slice_get old.ends k ≢ Some (Closed_end x) → x.recorded.outcome ≢ Some StoreFault

-- the same of a write that the server's store accepts
abbrev pub WritesSettle : Type 0
WritesSettle =
    (strangers : Bool) (old begun new : WorldState) (report : Report) (name : List ℕ) (mode : Mode)
    (asked : Asked) (file : List ℕ) (agreed : List Known) (most made : ℕ) →
    Refines strangers old → WorldStep old (Put name mode asked file) report begun →
    AcceptsWrite old begun name mode asked file agreed →
    Settled begun (length old.sent) most made new → HaveTaken begun new →
    write_adds mode file agreed ≤ most →
    (made ≡ write_adds mode file agreed) × IsThrough old new (write_adds mode file agreed)

-- some read and some write of this file, with these options requested and agreed, run straight to
-- the end
abbrev pub SomeReadIsStraight : Mode → Asked → List ℕ → List Known → Type 0
SomeReadIsStraight mode asked file agreed =
    (old : WorldState) × (new : WorldState) × (name : List ℕ) × Refines false old
    × (read : ReadsStraight old new name mode asked file agreed)
    × (length read.run.reports ≡ read_adds mode file agreed)

abbrev pub SomeWriteIsStraight : Mode → Asked → List ℕ → List Known → Type 0
SomeWriteIsStraight mode asked file agreed =
    (old : WorldState) × (new : WorldState) × (name : List ℕ) × Refines false old
    × (write : WritesStraight old new name mode asked file agreed)
    × (length write.run.reports ≡ write_adds mode file agreed)
