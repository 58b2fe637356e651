-- How the request port handles a datagram, and what it leaves (RFC 1350, section 4; RFC 2347,
-- "Negotiation Protocol").
use Rattle.std.specs.Prelude.{ℕ, Bool, ◌≡◌, ◌≢◌, List, [], ◌⊎◌, length, Option, Some, None, Result}
use Rattle.std.specs.Prelude.{Ok, Err, IfErr}
use Rattle.tftp_wire.specs.declared.mode.Mode.{Mode}
use Rattle.tftp_wire.specs.declared.options.RawOption.{RawOption}
use Rattle.tftp_wire.specs.Borrowed.{owned_request}
use Rattle.tftp_wire.specs.declared.packet.Packet.{Packet}
use Rattle.tftp_wire.specs.declared.packet.Packet.TheVariants as packets
use Rattle.tftp_wire.specs.declared.packet.Request.{Request}
use Rattle.tftp_wire.specs.declared.packet.RequestRef.{RequestRef}
use Rattle.tftp_negotiate.specs.declared.known.Kind.{Kind}
use Rattle.tftp_negotiate.specs.declared.known.Kind.TheVariants as kinds
use Rattle.tftp_negotiate.specs.declared.known.Known.{Known}
use Rattle.tftp_file.specs.Source.{SourceMeaning}
use Rattle.tftp_file.specs.declared.fault.StoreFault.{StoreFault}
use Rattle.tftp_file.specs.declared.fault.StoreFault.TheVariants.{Memory}
use Rattle.tftp_file.specs.declared.files.Files.TheVariants.{Source, Sink}
use Rattle.tftp_ends.specs.declared.endpoint.Endpoint.{Endpoint}
use Rattle.tftp_ends.specs.declared.error_reply.ErrorReply.{ErrorReply}
use Rattle.tftp_ends.specs.declared.error_reply.ErrorReply.TheVariants.{FileChanged}
use Rattle.tftp_ends.specs.End.{EndState}
use Rattle.tftp_ends.specs.Opening.{ServesRead, CannotStart, serving_write}
use Rattle.tftp_ends.specs.Action.{Decodes}
use Rattle.tftp_ends.specs.Step.{error_bytes}
use Rattle.tftp_server.specs.declared.config.Config.{Config}
use Rattle.tftp_server.specs.declared.opened.Opened.{Opened}
use Rattle.tftp_server.specs.declared.server.admission.Occupancy.{Occupancy}
use Rattle.tftp_server.specs.declared.server.admission.PortAction.{PortAction}
use Rattle.tftp_server.specs.declared.server.admission.PortAction.TheVariants as actions
use Rattle.tftp_server.specs.declared.server.reply.Unopened.{Unopened}
use Rattle.tftp_server.specs.declared.server.reply.Unopened.TheVariants as unopened
use Rattle.tftp_store.specs.declared.store.Opening.{Opening}
use Rattle.tftp_server.specs.State.{TransferState, ServerState, IsRepeated, with_new}
use Rattle.tftp_server.specs.Port.{Ask, Ignores, Refuses, Reads, Writes, Service, Refused, Sends}
use Rattle.tftp_server.specs.Port.{Takes, asks, by_file, by_draft}
use Rattle.tftp_store.specs.Store.{StoreMeaning, Opens, OpensAt, Begins, FailsIf, RefusedIf}

-- the length of a file that was opened
abbrev pub opened_length : {F : Type 0} → Result (Opening F) StoreFault → Result ℕ StoreFault
opened_length (Ok file) = Ok file.length
opened_length (Err fault) = Err fault

-- the result of a datagram to the request port
pub data Came (S F D : Type 0) : Type 0 where
  -- nothing
  Nothing : Came S F D
  -- an ERROR is sent, and this is the new store
  Error_reply : ErrorReply → S → Came S F D
  -- a transfer opens, and this is the new store
  A_transfer : TransferState F D → S → Came S F D

-- a datagram to the request port, and what the port decided for it
pub record AdmissionState : Type 0 where
  pub from : Endpoint
  pub bytes : List ℕ
  pub ask : Ask

-- what the request port leaves: the server, what it returns, and what it sends
pub record Left (S F D : Type 0) : Type 0 where
  pub new : ServerState S F D
  pub opened : Opened
  pub sent : List ℕ

module _ {S F D : Type 0} where
  -- a transfer gets the identifier and sends from its own port; an ERROR leaves the request port
  abbrev pub left_by : Came S F D → ServerState S F D → Endpoint → ℕ → Left S F D
  left_by Nothing old from tid =
      record { new = old; opened = record { tid = None; to = None }; sent = [] }
  left_by (Error_reply reply store) old from tid =
      record {
        new = record old { store = store };
        opened = record { tid = None; to = Some from };
        sent = error_bytes reply;
      }
  left_by (A_transfer held store) old from tid =
      record {
        new = record old { store = store; held = with_new tid held old.held };
        opened = record { tid = Some tid; to = Some from };
        sent = held.end.position.last_sent;
      }

module _ {S F D : Type 0} (old : ServerState S F D) (from : Endpoint) (bytes : List ℕ) where
  -- what the request port decides for a datagram before it asks its store
  pub record Admits (ask : Ask) : Type 0 where
    pub decoded : Option Packet
    pub says : Decodes bytes decoded
    pub repeated : Bool
    pub repeats : IsRepeated repeated from decoded old.held
    pub asks_for : ask ≡
        asks old.config.cap (length old.held) repeated old.config.limits bytes decoded

  -- the datagram is not ignored: the port answers it or asks its store
  abbrev pub Acts : Type 0
  Acts = (ask : Ask) × Admits ask × (ask ≢ Ignores)

-- what the request port decides for a datagram that finds these transfers, before it asks its store
abbrev pub AdmitsBeside : Config → Occupancy → List ℕ → Ask → Type 0
AdmitsBeside config occupancy bytes ask =
    (decoded : Option Packet) × Decodes bytes decoded
    × (ask ≡ asks config.cap occupancy.count occupancy.is_repeated config.limits bytes decoded)

module _ {S F D : Type 0} (meaning : StoreMeaning S D) (sources : SourceMeaning F)
    (old : ServerState S F D) (from : Endpoint) (bytes : List ℕ) where
  -- the end of a read opens with DATA 1 or the OACK
  pub record StartsSending (path : List ℕ) (mode : Mode) (length : ℕ) (agreed : List Known)
      (source : F)
      (came : Came S F D) : Type 0 where
    pub rest : F
    pub end : EndState
    pub serves : ServesRead sources agreed from mode length old.config.retries source rest end
    pub opens : came ≡ A_transfer
        (record { end = end; files = Source rest; path = path; request = bytes }) old.store

  -- or the file has changed: no option is agreed, and DATA 1 cannot be read
  abbrev pub Starts : List ℕ → Mode → ℕ → List Known → F → Came S F D → Type 0
  Starts path mode length agreed source came =
      StartsSending path mode length agreed source came
      ⊎ ((agreed ≡ []) × CannotStart sources length source
      × (came ≡ Error_reply FileChanged old.store))

  -- the result for a file that was opened, or could not be
  abbrev pub Sent : Service → Result (Opening F) StoreFault → Came S F D → Type 0
  Sent (Refused reply) file came = came ≡ Error_reply reply old.store
  Sent (Sends path mode length agreed) (Ok file) came =
      Starts path mode length agreed file.source came
  Sent service file came = ⊥

  -- a read: the store is asked for the file
  pub record AsksToRead (path : List ℕ) (mode : Mode) (options : List RawOption)
      (came : Came S F D) : Type 0 where
    pub file : Result (Opening F) StoreFault
    pub opens : Opens sources (meaning.stored old.store) path mode file
    pub refused : IfErr file (meaning.may_refuse_open old.store path)
    pub must : RefusedIf (meaning.must_refuse_open old.store path) file
    pub reads : FailsIf sources (meaning.must_fail old.store path) file
    pub opened : OpensAt sources (meaning.root old.store) path mode file
    pub memory : file ≢ Err Memory
    pub goes_on : Sent (by_file old.config.limits path mode options (opened_length file)) file
        came

  -- the result for a draft that was begun, or could not be
  abbrev pub Taken : Service → Result D StoreFault → S → Came S F D → Type 0
  Taken (Refused reply) draft store came = came ≡ Error_reply reply store
  Taken (Takes path mode agreed) (Ok draft) store came =
      came ≡ A_transfer (record {
        end = serving_write agreed from mode old.config.retries;
        files = Sink draft;
        path = path;
        request = bytes;
      }) store
  Taken service draft store came = ⊥

  -- a write: the store is asked for a draft
  pub record AsksToWrite (path : List ℕ) (mode : Mode) (agreed : List Known)
      (came : Came S F D) : Type 0 where
    pub store : S
    pub draft : Result D StoreFault
    pub begins : Begins meaning.drafted (meaning.stored old.store) (meaning.stored store) path
        old.config.overwrite draft
    pub refused : IfErr draft (meaning.may_refuse_begin old.store path old.config.overwrite)
    pub begun : meaning.begun path old.config.overwrite old.store store draft
    pub memory : draft ≢ Err Memory
    pub goes_on : Taken (by_draft path mode agreed draft) draft store came

  -- the result of what the port decided
  abbrev pub Goes : Ask → Came S F D → Type 0
  Goes Ignores came = came ≡ Nothing
  Goes (Refuses reply) came = came ≡ Error_reply reply old.store
  Goes (Reads path mode options) came = AsksToRead path mode options came
  Goes (Writes path mode agreed) came = AsksToWrite path mode agreed came

  -- what the request port leaves when it carries out its decision
  pub record CarriesOut (ask : Ask) (tid : ℕ) (result : Left S F D) : Type 0 where
    pub came : Came S F D
    pub goes : Goes ask came
    pub left : result ≡ left_by came old from tid

  -- how the request port handles a datagram
  pub record RequestStep (tid : ℕ) (result : Left S F D) : Type 0 where
    pub decoded : Option Packet
    pub says : Decodes bytes decoded
    pub repeated : Bool
    pub repeats : IsRepeated repeated from decoded old.held
    pub came : Came S F D
    pub goes : Goes
        (asks old.config.cap (length old.held) repeated old.config.limits bytes decoded) came
    pub left : result ≡ left_by came old from tid

-- the packet is a request of this kind, or no request
abbrev pub IsRequest : Option Packet → Option (Kind × Request) → Type 0
IsRequest (Some (packets.Read r)) asked = asked ≡ Some (kinds.Read, r)
IsRequest (Some (packets.Write r)) asked = asked ≡ Some (kinds.Write, r)
IsRequest packet asked = asked ≡ None

-- a kind and a request, from the values in the code
abbrev pub kind_and_request : Kind × RequestRef → Kind × Request
kind_and_request asked = (asked.0, owned_request asked.1)

-- what the port decides, from the value in the code
abbrev pub ask_of : PortAction → Ask
ask_of actions.Nothing = Ignores
ask_of (actions.Refuse reply) = Refuses reply
ask_of (actions.Read read) = Reads read.path read.mode read.options
ask_of (actions.Write write) = Writes write.path write.mode write.agreed

-- the transfer that opens, or why none does: what comes of the request, or why memory ran out
abbrev pub Decides : {S F D : Type 0} → Result (TransferState F D) Unopened → S
    → (Came S F D → Type 0) → Type 0 → Type 0
Decides (Ok held) store Comes Lacks = Comes (A_transfer held store)
Decides (Err (unopened.Refused reply)) store Comes Lacks = Comes (Error_reply reply store)
Decides (Err unopened.Memory) store Comes Lacks = Lacks

-- what has been sent by then
abbrev pub decided_bytes : {F D : Type 0} → Result (TransferState F D) Unopened → List ℕ
decided_bytes (Ok held) = held.end.position.last_sent
decided_bytes (Err why) = []
