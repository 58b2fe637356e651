-- The tests of the request port, each a definition: the first that holds decides (RFC 1350,
-- sections 2 and 4; RFC 2347, "Negotiation Protocol").
use Rattle.std.specs.Prelude.{ℕ, Bool, true, false, ◌*◌, nat_lt, nat_le, if◌then◌else◌, List}
use Rattle.std.specs.Prelude.{Option, Some, None, Result, Ok, Err}
use Rattle.tftp_wire.specs.declared.mode.Mode.{Mode}
use Rattle.tftp_wire.specs.declared.options.RawOption.{RawOption}
use Rattle.tftp_wire.specs.declared.packet.Packet.{Packet}
use Rattle.tftp_wire.specs.declared.packet.Packet.TheVariants.{Read, Write}
use Rattle.tftp_negotiate.specs.Agreed.{size}
use Rattle.tftp_negotiate.specs.Answer.{answer}
use Rattle.tftp_negotiate.specs.declared.known.Kind.{Kind}
use Rattle.tftp_negotiate.specs.declared.known.Kind.TheVariants as kinds
use Rattle.tftp_negotiate.specs.declared.known.Known.{Known}
use Rattle.tftp_negotiate.specs.declared.limits.Limits.{Limits}
use Rattle.tftp_negotiate.specs.declared.refusal.Refusal.{Refusal}
use Rattle.tftp_negotiate.specs.declared.refusal.Refusal.TheVariants as refusals
use Rattle.tftp_file.specs.Path.{path_of_name}
use Rattle.tftp_file.specs.declared.fault.StoreFault.{StoreFault}
use Rattle.tftp_file.specs.declared.fault.StoreFault.TheVariants.{Missing, Exists, Full}
use Rattle.tftp_file.specs.declared.fault.StoreFault.TheVariants as store_faults
use Rattle.tftp_file.specs.declared.path.PathFault.{PathFault}
use Rattle.tftp_ends.specs.declared.error_reply.ErrorReply.{ErrorReply}
use Rattle.tftp_ends.specs.declared.error_reply.ErrorReply.TheVariants.{FileTooLarge, ServerBusy}
use Rattle.tftp_ends.specs.declared.error_reply.ErrorReply.TheVariants.{FileNotFound}
use Rattle.tftp_ends.specs.declared.error_reply.ErrorReply.TheVariants.{AccessViolation, DiskFull}
use Rattle.tftp_ends.specs.declared.error_reply.ErrorReply.TheVariants.{IllegalOperation}
use Rattle.tftp_ends.specs.declared.error_reply.ErrorReply.TheVariants.{FileExists, OptionRefused}
use Rattle.tftp_ends.specs.declared.error_reply.ErrorReply.TheVariants.{FileChanged}
use Rattle.tftp_ends.specs.declared.fault.OpenFault.{OpenFault}
use Rattle.tftp_ends.specs.declared.fault.OpenFault.TheVariants.{TooLarge}
use Rattle.tftp_ends.specs.declared.fault.OpenFault.TheVariants as open_faults
use Rattle.tftp_wire.specs.Reading.{has_error_opcode}
use Rattle.tftp_server.specs.declared.server.reply.Unopened.{Unopened}
use Rattle.tftp_server.specs.declared.server.reply.Unopened.TheVariants as unopened

-- what the request port does before it asks its store
pub data Ask : Type 0 where
  -- nothing
  Ignores : Ask
  -- an ERROR is sent
  Refuses : ErrorReply → Ask
  -- the store is to open the file at this path
  Reads : (path : List ℕ) → Mode → List RawOption → Ask
  -- the store is to begin a draft for this path; these options are agreed
  Writes : (path : List ℕ) → Mode → List Known → Ask

-- what the request port does
pub data Service : Type 0 where
  -- nothing
  Silent : Service
  -- an ERROR is sent
  Refused : ErrorReply → Service
  -- a transfer sends the file at this path, which has this length
  Sends : (path : List ℕ) → Mode → (length : ℕ) → List Known → Service
  -- a transfer receives a file for this path
  Takes : (path : List ℕ) → Mode → List Known → Service

-- the ERROR when no file is opened
abbrev pub open_reply : StoreFault → ErrorReply
open_reply Missing = FileNotFound
open_reply _ = AccessViolation

-- the ERROR when an opened file is not served: it has too many blocks, or its first cannot be read
abbrev pub serve_reply : OpenFault → ErrorReply
serve_reply TooLarge = FileTooLarge
serve_reply _ = FileChanged

-- the ERROR when no draft is begun
abbrev pub begin_reply : StoreFault → ErrorReply
begin_reply Exists = FileExists
begin_reply Full = DiskFull
begin_reply _ = AccessViolation

-- why no transfer opens, by the fault of the store: out of memory, or else this ERROR is sent
abbrev pub unopened_by : StoreFault → ErrorReply → Unopened
unopened_by store_faults.Memory reply = unopened.Memory
unopened_by _ reply = unopened.Refused reply

-- the same, by the fault of the end that would serve a file
abbrev pub unserved_by : OpenFault → Unopened
unserved_by open_faults.Memory = unopened.Memory
unserved_by fault = unopened.Refused (serve_reply fault)

-- an ERROR is sent, and it has this property
abbrev pub IsAnsweredBy : Unopened → (ErrorReply → Type 0) → Type 0
IsAnsweredBy (unopened.Refused reply) Has = Has reply
IsAnsweredBy unopened.Memory Has = ⊥

-- the ERROR for refused options
abbrev pub accept_reply : Refusal → ErrorReply
accept_reply refusals.TooLarge = DiskFull
accept_reply _ = OptionRefused

-- ---- before the store is asked

-- the options of a write are answered before the store is asked
abbrev pub by_options : List ℕ → Mode → Result (List Known) Refusal → Ask
by_options path mode (Err refusal) = Refuses (accept_reply refusal)
by_options path mode (Ok agreed) = Writes path mode agreed

-- a read asks the store next, a write has its options answered first
abbrev pub by_kind : Kind → Mode → List RawOption → Limits → List ℕ → Ask
by_kind kinds.Read mode options limits path = Reads path mode options
by_kind kinds.Write mode options limits path =
    by_options path mode (answer options kinds.Write mode 0 limits)

-- a repeated request is ignored
abbrev pub by_repeat : Bool → Ask → Ask
by_repeat repeated ask = if repeated then Ignores else ask

module _ (cap count : ℕ) where
  -- the server must be below its limit of transfers
  abbrev pub by_room : (List ℕ → Ask) → List ℕ → Ask
  by_room next path = if nat_le cap count then Refuses ServerBusy else next path

  -- the name must be a path
  abbrev pub by_name : (List ℕ → Ask) → Result (List ℕ) PathFault → Ask
  by_name next (Err fault) = Refuses AccessViolation
  by_name next (Ok path) = by_room next path

  -- only a request opens a transfer, and one whose transfer is still open opens no other
  abbrev pub by_packet : Bool → Limits → Option Packet → Ask
  by_packet repeated limits (Some (Read r)) =
      by_repeat repeated
      (by_name (by_kind kinds.Read r.mode r.options limits) (path_of_name r.name))
  by_packet repeated limits (Some (Write r)) =
      by_repeat repeated
      (by_name (by_kind kinds.Write r.mode r.options limits) (path_of_name r.name))
  by_packet repeated limits _ = Refuses IllegalOperation

  -- a datagram with the opcode of ERROR is never answered
  abbrev pub asks : Bool → Limits → List ℕ → Option Packet → Ask
  asks repeated limits bytes packet =
      if has_error_opcode bytes then Ignores else by_packet repeated limits packet

-- whether the store is asked
abbrev pub asks_store : Ask → Bool
asks_store Ignores = false
asks_store (Refuses reply) = false
asks_store (Reads path mode options) = true
asks_store (Writes path mode agreed) = true

-- the block size of a transfer with these options, unless they are refused
abbrev pub agreed_size : Result (List Known) Refusal → Option ℕ
agreed_size (Ok agreed) = Some (size agreed)
agreed_size (Err refusal) = None

-- the block size of the transfer that may open, whatever the length of its file
abbrev pub granted_size : Limits → Ask → Option ℕ
granted_size limits Ignores = None
granted_size limits (Refuses reply) = None
granted_size limits (Reads path mode options) =
    agreed_size (answer options kinds.Read mode 0 limits)
granted_size limits (Writes path mode agreed) = Some (size agreed)

-- ---- by what the store answers

-- the options of a read are answered, and then its blocks must be few enough to be numbered
abbrev pub by_length : List ℕ → Mode → ℕ → Result (List Known) Refusal → Service
by_length path mode length (Err refusal) = Refused (accept_reply refusal)
by_length path mode length (Ok agreed) =
    if nat_lt length (65535 * size agreed) then Sends path mode length agreed
    else Refused FileTooLarge

-- by the length of the file that was opened, or the store's fault
abbrev pub by_file : Limits → List ℕ → Mode → List RawOption → Result ℕ StoreFault → Service
by_file limits path mode options (Err fault) = Refused (open_reply fault)
by_file limits path mode options (Ok length) =
    by_length path mode length (answer options kinds.Read mode length limits)

-- by the draft that was begun, or the store's fault
abbrev pub by_draft : {D : Type 0} → List ℕ → Mode → List Known → Result D StoreFault → Service
by_draft path mode agreed (Err fault) = Refused (begin_reply fault)
by_draft path mode agreed (Ok draft) = Takes path mode agreed

-- ---- both, for a store with these answers

module _ {D : Type 0} (limits : Limits) (opened : List ℕ → Mode → Result ℕ StoreFault)
    (begun : List ℕ → Result D StoreFault) where
  -- what the port does after the store's answer
  abbrev pub answered : Ask → Service
  answered Ignores = Silent
  answered (Refuses reply) = Refused reply
  answered (Reads path mode options) = by_file limits path mode options (opened path mode)
  answered (Writes path mode agreed) = by_draft path mode agreed (begun path)

  -- all tests, for a server that holds `count` transfers
  abbrev pub service : (cap count : ℕ) → Bool → List ℕ → Option Packet → Service
  service cap count repeated bytes packet = answered (asks cap count repeated limits bytes packet)
