-- Which fault an opening returns, and when.
use Rattle.std.specs.Prelude.{ℕ, ◌≡◌, ◌+◌, ◌*◌, ◌<◌, ◌≤◌, ◌⊎◌, List, [], length, Option, None}
use Rattle.std.specs.Prelude.{Result, Ok, Err}
use Rattle.std.specs.Prelude.{IsSome}
use Rattle.tftp_wire.specs.Spelling.{Spells, canonical}
use Rattle.tftp_wire.specs.declared.limits.TheConstants.{HEADER}
use Rattle.tftp_wire.specs.declared.packet.Packet.{Packet}
use Rattle.tftp_wire.specs.declared.packet.Packet.TheVariants.{Read, Write}
use Rattle.tftp_wire.specs.declared.packet.Request.{Request}
use Rattle.tftp_negotiate.specs.Agreed.{size}
use Rattle.tftp_negotiate.specs.declared.known.Kind.{Kind}
use Rattle.tftp_negotiate.specs.declared.known.Kind.TheVariants as kinds
use Rattle.tftp_negotiate.specs.declared.limits.Limits.{Limits}
use Rattle.tftp_negotiate.specs.declared.known.Known.{Known}
use Rattle.tftp_negotiate.specs.declared.refusal.Refusal.{Refusal}
use Rattle.tftp_negotiate.specs.declared.refusal.Refusal.TheVariants as refusals
use Rattle.tftp_file.specs.Memory.{memory_source}
use Rattle.tftp_ends.specs.Opening.{CannotStart, MayGet, MayAskPut, MayPut, PutsTooLarge}
use Rattle.tftp_ends.specs.Opening.{ServesRead, request_of, serving_write}
use Rattle.tftp_ends.specs.End.{EndState}
use Rattle.tftp_ends.specs.declared.endpoint.Endpoint.{Endpoint}
use Rattle.tftp_wire.specs.declared.mode.Mode.{Mode}
use Rattle.tftp_ends.specs.declared.fault.OpenFault.{OpenFault}
use Rattle.tftp_ends.specs.declared.fault.OpenFault.TheVariants.{BadRequest, Memory, TooLarge}
use Rattle.tftp_ends.specs.declared.fault.OpenFault.TheVariants.{SourceFault}
use Rattle.tftp_server.specs.CallersFiles.{asked_path}
use Rattle.tftp_server.specs.Config.{IsConfig}
use Rattle.tftp_server.specs.Port.{Ask}
use Rattle.tftp_server.specs.Request.{Admits}
use Rattle.tftp_server.specs.Shortage.{NamesAPath}
use Rattle.tftp_server.specs.State.{at}
use Rattle.tftp_server.specs.declared.fault.ServerFault.{ServerFault}
use Rattle.tftp_server.specs.declared.fault.ServerFault.TheVariants as table_faults
use Rattle.tftp_c.specs.declared.event.TftpEndpoint.{TftpEndpoint}
use Rattle.tftp_c.specs.declared.event.TftpOptions.{TftpOptions}
use Rattle.tftp_c.specs.Opens.{asked_of, mode_of}
use Rattle.tftp_c.specs.Answers.{AsksLong, answer_to}
use Rattle.tftp_c.specs.Options.{HasSize, SizeRefused, options_in}
use Rattle.tftp_c.specs.Reports.{endpoint_of}
use Rattle.tftp_c.specs.HeldServer.{Table, config_of, table_fault}
use Rattle.tftp_c.specs.ServerOpens.{limits_of, read_limits, LimitsBlocks}

-- the number of a fault of an end
abbrev pub open_fault : OpenFault → ℕ
open_fault BadRequest = 2
open_fault Memory = 3
open_fault TooLarge = 6
open_fault SourceFault = 8

-- a call returns the number of a fault that has a reason
pub record Returns (because : OpenFault → Type 0) (returned : ℕ) : Type 0 where
  pub fault : OpenFault
  pub number : returned ≡ open_fault fault
  pub why : because fault

-- the struct of the options is refused, or an opening with them fails so
abbrev pub FailsWith : List ℕ → (TftpOptions → Type 0) → ℕ → Type 0
FailsWith given fails returned =
    SizeRefused given returned ⊎ (HasSize given × fails (options_in given))

-- a buffer of this length has no room for the first datagram of an end that has opened (12)
abbrev pub FirstTooLong : EndState → ℕ → ℕ → Type 0
FirstTooLong e room returned = (returned ≡ 12) × (room < length e.position.last_sent)

-- an end that has opened is not handed out: memory is lacking for its handle (3), or for its first datagram the room
abbrev pub HandleRefused : EndState → ℕ → ℕ → Type 0
HandleRefused e room returned = (returned ≡ 3) ⊎ FirstTooLong e room returned

-- ---- a client
-- it does not get: its request is not allowed, or memory is lacking for one that is
abbrev pub GetRefused : List ℕ → TftpOptions → OpenFault → Type 0
GetRefused name options BadRequest = MayGet name (mode_of options) (asked_of options 0) → ⊥
GetRefused name options Memory = MayGet name (mode_of options) (asked_of options 0)
GetRefused name options TooLarge = ⊥
GetRefused name options SourceFault = ⊥

-- it does not put: also if the file has too many blocks
abbrev pub PutRefused : List ℕ → ℕ → TftpOptions → OpenFault → Type 0
PutRefused name whole options BadRequest =
    MayAskPut name (mode_of options) (asked_of options whole) whole → ⊥
PutRefused name whole options Memory =
    MayPut name (mode_of options) (asked_of options whole) whole
PutRefused name whole options TooLarge =
    PutsTooLarge name (mode_of options) (asked_of options whole) whole
PutRefused name whole options SourceFault = ⊥

-- its request is allowed, and does not fit a buffer of this length (12)
abbrev pub GetHasNoRoom : List ℕ → TftpOptions → ℕ → ℕ → Type 0
GetHasNoRoom name options room returned =
    (returned ≡ 12) × MayGet name (mode_of options) (asked_of options 0)
    × (room < length (canonical (Read (request_of name (mode_of options) (asked_of options 0)))))

abbrev pub PutHasNoRoom : List ℕ → ℕ → TftpOptions → ℕ → ℕ → Type 0
PutHasNoRoom name whole options room returned =
    (returned ≡ 12) × MayPut name (mode_of options) (asked_of options whole) whole
    × (room < length (canonical (Write (request_of name (mode_of options) (asked_of options whole)))))

-- it does not open, and the call returns this number
abbrev pub GetFault : List ℕ → List ℕ → ℕ → ℕ → Type 0
GetFault name given room returned =
    FailsWith given (λ options. Returns (GetRefused name options) returned
    ⊎ GetHasNoRoom name options room returned) returned

abbrev pub PutFault : List ℕ → ℕ → List ℕ → ℕ → ℕ → Type 0
PutFault name whole given room returned =
    FailsWith given (λ options. Returns (PutRefused name whole options) returned
    ⊎ PutHasNoRoom name whole options room returned) returned

-- ---- a server's end
-- an end does not send a file of this length: it has too many blocks, or, without an option, `next`
-- does not give the first block, or memory is lacking
abbrev pub SendRefused : List Known → ℕ → List ℕ → OpenFault → Type 0
SendRefused agreed whole next BadRequest = ⊥
SendRefused agreed whole next TooLarge = 65535 * size agreed ≤ whole
SendRefused agreed whole next SourceFault =
    (whole < 65535 * size agreed) × (agreed ≡ []) × CannotStart memory_source whole next
SendRefused agreed whole next Memory = whole < 65535 * size agreed

-- a request of this kind, as a packet
abbrev pub packet_of : Kind → Request → Packet
packet_of kinds.Read request = Read request
packet_of kinds.Write request = Write request

-- the datagram spells no request of this kind
abbrev pub NoRequest : Kind → List ℕ → Type 0
NoRequest kind datagram = (request : Request) → Spells (packet_of kind request) datagram → ⊥

-- the number of a refusal: a length above the server's limit (13) is answered by another ERROR than
-- the others (7)
abbrev pub refusal_fault : Refusal → ℕ
refusal_fault refusals.TooLarge = 13
refusal_fault _ = 7

-- an answer is a refusal of this number
pub record RefusedAs (answer : Result (List Known) Refusal) (returned : ℕ) : Type 0 where
  pub refusal : Refusal
  pub refuses : answer ≡ Err refusal
  pub number : returned ≡ refusal_fault refusal

-- a request is not answered: its options are refused, or memory is lacking to leave its timeout out
abbrev pub AnswerRefused : TftpOptions → Request → Kind → ℕ → Limits → ℕ → Type 0
AnswerRefused options request kind whole limits returned =
    RefusedAs (answer_to options request kind whole limits) returned
    ⊎ ((returned ≡ 3) × AsksLong options request kind whole limits)

-- the options of a read of a file of this length are not answered; the end does not open
pub record GetOptionsRefused (datagram : List ℕ) (whole : ℕ) (options : TftpOptions)
    (room returned : ℕ) : Type 0 where
  pub request : Request
  pub asked : Spells (Read request) datagram
  pub why : AnswerRefused options request kinds.Read whole (read_limits options room) returned

pub record GetUnopened (datagram : List ℕ) (whole : ℕ) (next : List ℕ) (options : TftpOptions)
    (room returned : ℕ) : Type 0 where
  pub request : Request
  pub asked : Spells (Read request) datagram
  pub agreed : List Known
  pub answers : answer_to options request kinds.Read whole (read_limits options room) ≡ Ok agreed
  pub why : Returns (SendRefused agreed whole next) returned

-- the first datagram of such an end does not fit a buffer of this length
pub record FirstIsLong (agreed : List Known) (mode : Mode) (whole retries : ℕ) (next : List ℕ)
    (room : ℕ) : Type 0 where
  pub peer : Endpoint
  pub rest : List ℕ
  pub end : EndState
  pub serves : ServesRead memory_source agreed peer mode whole retries next rest end
  pub long : room < length end.position.last_sent

-- they are answered, and a buffer of this length has no room for a DATA of the agreed size, or for the
-- first datagram (12)
pub record GetHasNoReply (datagram : List ℕ) (whole : ℕ) (next : List ℕ) (options : TftpOptions)
    (room : ℕ) : Type 0
  where
    pub request : Request
    pub asked : Spells (Read request) datagram
    pub agreed : List Known
    pub answers : answer_to options request kinds.Read whole (read_limits options room) ≡ Ok agreed
    pub why : (room < HEADER + size agreed)
        ⊎ FirstIsLong agreed request.mode whole options.retries next room

-- the same of a write
pub record PutOptionsRefused (datagram : List ℕ) (options : TftpOptions) (returned : ℕ) : Type 0
  where
    pub request : Request
    pub asked : Spells (Write request) datagram
    pub why : AnswerRefused options request kinds.Write 0 (limits_of options) returned

pub record PutAnswered (datagram : List ℕ) (options : TftpOptions) : Type 0 where
  pub request : Request
  pub asked : Spells (Write request) datagram
  pub agreed : List Known
  pub answers : answer_to options request kinds.Write 0 (limits_of options) ≡ Ok agreed

-- they are answered, and a buffer of this length has no room for the first datagram (12)
pub record PutHasNoReply (datagram : List ℕ) (options : TftpOptions) (room : ℕ) : Type 0 where
  pub request : Request
  pub asked : Spells (Write request) datagram
  pub agreed : List Known
  pub answers : answer_to options request kinds.Write 0 (limits_of options) ≡ Ok agreed
  pub peer : Endpoint
  pub long : room
      < length (serving_write agreed peer request.mode options.retries).position.last_sent

-- a read request is not served: the largest block size is none, or the datagram is no read request,
-- or its options, its end or the buffer fail it
abbrev pub GetUnserved : List ℕ → ℕ → List ℕ → TftpOptions → ℕ → ℕ → Type 0
GetUnserved datagram whole next options room returned =
    ((returned ≡ 2) × (LimitsBlocks options → ⊥))
    ⊎ ((returned ≡ 2) × NoRequest kinds.Read datagram)
    ⊎ GetOptionsRefused datagram whole options room returned
    ⊎ GetUnopened datagram whole next options room returned
    ⊎ ((returned ≡ 12) × GetHasNoReply datagram whole next options room)

-- a write request has no end: an end that is answered lacks only memory
abbrev pub PutUnopened : List ℕ → TftpOptions → ℕ → Type 0
PutUnopened datagram options returned =
    ((returned ≡ 2) × (LimitsBlocks options → ⊥))
    ⊎ ((returned ≡ 2) × NoRequest kinds.Write datagram)
    ⊎ PutOptionsRefused datagram options returned
    ⊎ ((returned ≡ 3) × PutAnswered datagram options)

-- a write request is not served: it has no end, or the buffer fails it
abbrev pub PutUnserved : List ℕ → TftpOptions → ℕ → ℕ → Type 0
PutUnserved datagram options room returned =
    ((returned ≡ 12) × PutHasNoReply datagram options room)
    ⊎ PutUnopened datagram options returned

-- the end of a handle does not open for it
abbrev pub ServeGetFault : List ℕ → ℕ → List ℕ → List ℕ → ℕ → ℕ → Type 0
ServeGetFault datagram whole next given room returned =
    FailsWith given (λ options. GetUnserved datagram whole next options room returned) returned

abbrev pub ServePutFault : List ℕ → List ℕ → ℕ → ℕ → Type 0
ServePutFault datagram given room returned =
    FailsWith given (λ options. PutUnserved datagram options room returned) returned

-- ---- a server, and a transfer of it
-- a server does not open: a number is out of its range, or memory is lacking
abbrev pub StartRefused : List ℕ → ℕ → ℕ → Type 0
StartRefused given transfers returned =
    FailsWith given
    (λ options. ((returned ≡ 2) × (IsConfig (config_of options transfers) → ⊥))
    ⊎ ((returned ≡ 3) × IsConfig (config_of options transfers))) returned

-- what the port decides for a request asks for such a file, or for none
pub record AsksFile (table : Table) (from : TftpEndpoint) (request : List ℕ)
    (such : Option (List ℕ) → Type 0) : Type 0 where
  pub ask : Ask
  pub admits : Admits table (endpoint_of from) request ask
  pub file : such (asked_path ask)

-- the end of a request is not held: its number is in use; the port admits none; memory is lacking
abbrev pub HoldRefused : ℕ → TftpEndpoint → List ℕ → Table → ServerFault → Type 0
HoldRefused tid from request table table_faults.TidInUse = IsSome (at tid table.held)
HoldRefused tid from request table table_faults.NoSuchTid =
    (IsSome (at tid table.held) → ⊥) × AsksFile table from request (λ path. path ≡ None)
HoldRefused tid from request table table_faults.Memory =
    NamesAPath table (endpoint_of from) request
    ⊎ ((IsSome (at tid table.held) → ⊥) × AsksFile table from request (λ path. IsSome path))

-- a call returns the number of such a fault
pub record ReturnsHeld (tid : ℕ) (from : TftpEndpoint) (request : List ℕ) (table : Table)
    (returned : ℕ) : Type 0 where
  pub fault : ServerFault
  pub number : returned ≡ table_fault fault
  pub why : HoldRefused tid from request table fault

-- a transfer does not open: its request is not served, or its end is not held
abbrev pub GetFails : ℕ → TftpEndpoint → List ℕ → ℕ → List ℕ → TftpOptions → Table → ℕ → ℕ → Type 0
GetFails tid from request whole next options table room returned =
    GetUnserved request whole next options room returned
    ⊎ ReturnsHeld tid from request table returned

abbrev pub PutFails : ℕ → TftpEndpoint → List ℕ → TftpOptions → Table → ℕ → ℕ → Type 0
PutFails tid from request options table room returned =
    PutUnserved request options room returned ⊎ ReturnsHeld tid from request table returned
