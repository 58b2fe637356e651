-- Why an event finds a server out of memory: a growth that was refused, or a file or a store that
-- answered `Memory`.
use Rattle.std.specs.Prelude.{ℕ, ◌≡◌, ◌⊎◌, Bool, false, List, length, Option, Some, IsOk, Result}
use Rattle.std.specs.Prelude.{Err, IfErr}
use Rattle.tftp_wire.specs.declared.mode.Mode.{Mode}
use Rattle.tftp_wire.specs.declared.options.RawOption.{RawOption}
use Rattle.tftp_wire.specs.declared.packet.Packet.{Packet}
use Rattle.tftp_wire.specs.declared.packet.Request.{Request}
use Rattle.tftp_negotiate.specs.declared.known.Kind.{Kind}
use Rattle.tftp_file.specs.Path.{path_of_name}
use Rattle.tftp_file.specs.Source.{SourceMeaning}
use Rattle.tftp_file.specs.declared.fault.StoreFault.{StoreFault}
use Rattle.tftp_file.specs.declared.fault.StoreFault.TheVariants.{Memory}
use Rattle.tftp_ends.specs.declared.endpoint.Endpoint.{Endpoint}
use Rattle.tftp_ends.specs.Action.{Decodes, timeout_response}
use Rattle.tftp_ends.specs.Room.{response_room}
use Rattle.tftp_ends.specs.Shortage.{HasNoRoom, LacksMemory}
use Rattle.tftp_ends.specs.Step.{error_bytes}
use Rattle.tftp_store.specs.declared.store.Opening.{Opening}
use Rattle.tftp_store.specs.Store.{StoreMeaning, Opens, RefusedIf}
use Rattle.tftp_server.specs.declared.server.reply.Unopened.{Unopened}
use Rattle.tftp_server.specs.declared.server.reply.Unopened.TheVariants as unopened
use Rattle.tftp_server.specs.Draft.{files_in, drafting_sink}
use Rattle.tftp_server.specs.Port.{Ask, Ignores, Refuses, Reads, Writes, Service, Refused, by_file}
use Rattle.tftp_server.specs.Request.{Admits, IsRequest, opened_length}
use Rattle.tftp_server.specs.State.{TransferState, ServerState, IsRepeated, at, with_next}

-- ---- an event of a transfer

-- `out`, of this capacity and length, has no room for the datagram of a timeout
pub record TimeoutLacksMemory {F D : Type 0} (capacity used tid : ℕ)
    (held : List (ℕ × TransferState F D)) : Type 0 where
  pub transfer : TransferState F D
  pub found : at tid held ≡ Some transfer
  pub room : HasNoRoom capacity used (response_room transfer.end
      (timeout_response transfer.end.position.retries_left transfer.end.position.phase))

module _ {S F D : Type 0} (meaning : StoreMeaning S D) (sources : SourceMeaning F) where
  -- the end of a transfer lacks memory for a datagram
  abbrev pub TransferLacksMemory : (ℕ → Type 0) → Bool → Endpoint → List ℕ → S → S
      → TransferState F D → TransferState F D → Type 0
  TransferLacksMemory too_full replace from bytes store store' transfer next =
      LacksMemory sources (drafting_sink meaning) too_full from bytes transfer.end
      (files_in store transfer.path replace transfer.files)
      (files_in store' next.path replace next.files)

  -- so does that of the transfer at the identifier
  pub record LacksMemoryAt (too_full : ℕ → Type 0) (tid : ℕ) (from : Endpoint) (bytes : List ℕ)
      (old new : ServerState S F D) : Type 0 where
    pub transfer : TransferState F D
    pub next : TransferState F D
    pub found : at tid old.held ≡ Some transfer
    pub lacks : TransferLacksMemory too_full old.config.overwrite from bytes old.store new.store
        transfer next
    pub held : new.held ≡ with_next tid next old.held

-- ---- a datagram to the request port

-- the packet is a request that is no repeat, and its name is a path
pub record NamesNewPath (repeated : Bool) (decoded : Option Packet) : Type 0 where
  pub new : repeated ≡ false
  pub kind : Kind
  pub request : Request
  pub is : IsRequest decoded (Some (kind, request))
  pub path : IsOk (path_of_name request.name)

-- it is a new request, and there is no memory for the path that it names
pub record NamesAPath {S F D : Type 0} (old : ServerState S F D) (from : Endpoint)
    (bytes : List ℕ) : Type 0 where
  pub decoded : Option Packet
  pub says : Decodes bytes decoded
  pub fresh : IsRepeated false from decoded old.held
  pub kind : Kind
  pub request : Request
  pub is : IsRequest decoded (Some (kind, request))
  pub path : IsOk (path_of_name request.name)

module _ (capacity used : ℕ) where
  -- `out`, of this capacity and length, has no room for the ERROR; the transfer that is to open
  -- instead allocates
  abbrev pub ServiceLacksMemory : Service → Type 0
  ServiceLacksMemory (Refused reply) = HasNoRoom capacity used (length (error_bytes reply))
  ServiceLacksMemory service = Unit {0}

  -- the store answered `Memory`, or the same
  abbrev pub FileLacksMemory : {F : Type 0} → Service → Result (Opening F) StoreFault → Type 0
  FileLacksMemory service (Err Memory) = Unit {0}
  FileLacksMemory service file = ServiceLacksMemory service

  -- no transfer opens for lack of memory, or `out` has no room for the ERROR
  abbrev pub LacksMemoryFor : Unopened → Type 0
  LacksMemoryFor unopened.Memory = Unit {0}
  LacksMemoryFor (unopened.Refused reply) = HasNoRoom capacity used (length (error_bytes reply))

  module _ {S F D : Type 0} (meaning : StoreMeaning S D) (sources : SourceMeaning F)
      (old : ServerState S F D) where
    -- a read: the store was asked for the file
    pub record ReadLacksMemory (path : List ℕ) (mode : Mode) (options : List RawOption)
        : Type 0 where
      pub file : Result (Opening F) StoreFault
      pub opens : Opens sources (meaning.stored old.store) path mode file
      pub refused : IfErr file (meaning.may_refuse_open old.store path)
      pub must : RefusedIf (meaning.must_refuse_open old.store path) file
      pub lacks :
          FileLacksMemory (by_file old.config.limits path mode options (opened_length file)) file

    -- what the port decided was not carried out; a write allocates all before it asks the store
    abbrev pub AskLacksMemory : Ask → Type 0
    AskLacksMemory Ignores = ⊥
    AskLacksMemory (Refuses reply) = HasNoRoom capacity used (length (error_bytes reply))
    AskLacksMemory (Reads path mode options) = ReadLacksMemory path mode options
    AskLacksMemory (Writes path mode agreed) = Unit {0}

    -- nothing was decided, or that was not carried out
    abbrev pub RequestLacksMemory : Endpoint → List ℕ → Type 0
    RequestLacksMemory from bytes =
        NamesAPath old from bytes
        ⊎ ((ask : Ask) × Admits old from bytes ask × AskLacksMemory ask)
