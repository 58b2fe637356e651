-- What the calls of a server do, for C: a table of transfers, whose files are the caller's.
use Rattle.std.specs.Prelude.{ℕ, ◌≡◌, ◌+◌, ◌≤◌, ◌<◌, ◌++◌, List, [], ◌∷◌, length, take, Option}
use Rattle.std.specs.Prelude.{Some}
use Rattle.std.specs.Prelude.{None}
use Rattle.std.specs.Prelude.{IsSome, false}
use Rattle.tftp_ends.specs.End.{EndState}
use Rattle.tftp_ends.specs.Step.{error_bytes}
use Rattle.tftp_wire.specs.declared.mode.Mode.{Mode}
use Rattle.tftp_server.specs.CallersFiles.{asked_path}
use Rattle.tftp_server.specs.Port.{Ask, Ignores, Refuses, Reads, Writes}
use Rattle.tftp_server.specs.Request.{Admits}
use Rattle.tftp_server.specs.State.{TransferState, ServerState, at, with_new, with_next}
use Rattle.tftp_server.specs.Steps.{with_end}
use Rattle.tftp_server.specs.declared.config.Config.{Config}
use Rattle.tftp_server.specs.declared.fault.ServerFault.{ServerFault}
use Rattle.tftp_server.specs.declared.fault.ServerFault.TheVariants.{TidInUse, NoSuchTid, Memory}
use Rattle.tftp_c.specs.declared.elsewhere.Absent.{Absent}
use Rattle.tftp_c.specs.declared.elsewhere.Elsewhere.{Elsewhere}
use Rattle.tftp_c.specs.declared.event.TftpEndpoint.{TftpEndpoint}
use Rattle.tftp_c.specs.declared.event.TftpEvent.{TftpEvent}
use Rattle.tftp_c.specs.declared.event.TftpOptions.{TftpOptions}
use Rattle.tftp_c.specs.declared.event.TftpQuestion.{TftpQuestion}
use Rattle.tftp_c.specs.declared.held_server.HeldServer.{HeldServer}
use Rattle.tftp_c.specs.Elsewhere.{stated_in_files}
use Rattle.tftp_c.specs.Handled.{Received, Sent, TimedOut}
use Rattle.tftp_c.specs.Modes.{mode_number}
use Rattle.tftp_c.specs.Reports.{endpoint_of}
use Rattle.tftp_c.specs.Stated.{StatedBy}
use Rattle.tftp_c.specs.ServerOpens.{limits_of, ServesGet, ServesPut}

-- a transfer of such a server, and the server
abbrev pub CallersTransfer : Type 0
CallersTransfer = TransferState Absent Absent

abbrev pub Table : Type 0
Table = ServerState Elsewhere Absent Absent

-- the limits that C gives: the caller says whether a file is replaced
abbrev pub config_of : TftpOptions → ℕ → Config
config_of options transfers =
    record {
      limits = limits_of options;
      retries = options.retries;
      cap = transfers;
      overwrite = false;
    }

-- a server without transfers
pub record Starts (options : TftpOptions) (transfers : ℕ) (s : HeldServer) : Type 0 where
  pub opened_with : s.options ≡ options
  pub config : s.server.config ≡ config_of options transfers
  pub held : s.server.held ≡ []

-- a handle holds a server of which this holds
abbrev pub HoldsServer : Option HeldServer → (HeldServer → Type 0) → Type 0
HoldsServer None holds = ⊥
HoldsServer (Some s) holds = holds s

-- a call handles the server that is held, and holds it still; it holds none if none was held
abbrev pub OnServer : Option HeldServer → Option HeldServer → (HeldServer → HeldServer → Type 0) → Type 0
OnServer None after does = after ≡ None
OnServer (Some s) None does = ⊥
OnServer (Some s) (Some t) does = does s t

-- ---- a datagram to the request port

-- a path is copied to the start of a buffer, if it fits it, with a zero byte behind it, if that fits
pub record Named (path buffer : List ℕ) (count : ℕ) : Type 0 where
  pub len : count ≡ length path
  pub written : length path ≤ length buffer → take (length path) buffer ≡ path
  pub ended : length path < length buffer → take (length path + 1) buffer ≡ path ++ 0 ∷ []

-- an ERROR is copied to the start of a buffer, or does not fit, and nothing is to be sent
pub record Refused (error buffer : List ℕ) (count : ℕ) : Type 0 where
  pub whole : length error ≤ length buffer
      → (count ≡ length error) × (take (length error) buffer ≡ error)
  pub lost : length buffer < length error → count ≡ 0

-- the caller is asked for the file at a path: to open it (1), or to begin it (2)
pub record AsksPath (wants : ℕ) (path : List ℕ) (mode : Mode) (name : List ℕ)
    (question : TftpQuestion) : Type 0 where
  pub asks : question.wants ≡ wants
  pub encodes : question.mode ≡ mode_number mode
  pub named : Named path name question.name_len
  pub silent : question.send_len ≡ 0

-- it is ignored, it is answered by an ERROR, or the caller is asked for a file
abbrev pub Asks : Ask → List ℕ → List ℕ → TftpQuestion → Type 0
Asks Ignores name reply question =
    (question.wants ≡ 0) × (question.mode ≡ 0) × (question.name_len ≡ 0) × (question.send_len ≡ 0)
Asks (Refuses error) name reply question =
    (question.wants ≡ 0) × (question.mode ≡ 0) × (question.name_len ≡ 0)
    × Refused (error_bytes error) reply question.send_len
Asks (Reads path mode options) name reply question = AsksPath 1 path mode name question
Asks (Writes path mode agreed) name reply question = AsksPath 2 path mode name question

-- what the port decides is what is asked
pub record AsksFor (table : Table) (from : TftpEndpoint) (datagram name reply : List ℕ)
    (question : TftpQuestion) : Type 0 where
  pub ask : Ask
  pub admits : Admits table (endpoint_of from) datagram ask
  pub asks : Asks ask name reply question

-- a datagram from port 0 is ignored, since no answer can come to it; any other is handled
pub record AsksOf (table : Table) (from : TftpEndpoint) (datagram name reply : List ℕ)
    (question : TftpQuestion) : Type 0 where
  pub no_port : from.port ≡ 0 → Asks Ignores name reply question
  pub handled : (from.port ≡ 0 → ⊥) → AsksFor table from datagram name reply question

-- ---- the transfers

-- a request that the port admits has a new transfer, whose end serves it, and which knows the length that
-- its first datagram states; nothing else changes
pub record OpensAt (tid : ℕ) (from : TftpEndpoint) (request : List ℕ) (serves : EndState → Type 0)
    (old new : Table) : Type 0 where
  pub ask : Ask
  pub admits : Admits old (endpoint_of from) request ask
  pub transfer : CallersTransfer
  pub asked : asked_path ask ≡ Some transfer.path
  pub vacant : IsSome (at tid old.held) → ⊥
  pub by_request : transfer.request ≡ request
  pub end : serves transfer.end
  pub stated : StatedBy transfer.end.position.last_sent (stated_in_files transfer.files)
  pub held : new ≡ record old { held = with_new tid transfer old.held }

-- the transfer that has the identifier makes a step; nothing else changes
pub record StepsAt (tid : ℕ) (does : EndState → EndState → Type 0) (old new : Table) : Type 0 where
  pub transfer : CallersTransfer
  pub found : at tid old.held ≡ Some transfer
  pub end : EndState
  pub steps : does transfer.end end
  pub held : new ≡ record old { held = with_next tid (with_end end transfer) old.held }

-- a read request has a transfer that sends the file, and a write request one that receives it
pub record OpensGet (tid : ℕ) (from : TftpEndpoint) (request : List ℕ) (length : ℕ) (next : List ℕ)
    (options : TftpOptions) (reply : List ℕ) (event : TftpEvent) (old new : Table) : Type 0 where
  pub opens : OpensAt tid from request
      (λ e. ServesGet from request length next options e reply event) old new

pub record OpensPut (tid : ℕ) (from : TftpEndpoint) (request : List ℕ) (options : TftpOptions)
    (reply : List ℕ) (event : TftpEvent) (old new : Table) : Type 0 where
  pub opens : OpensAt tid from request (λ e. ServesPut from request options e reply event) old new

-- a transfer handles a datagram or a timeout, as the end of a handle does
pub record ReceivedAt (tid : ℕ) (from : TftpEndpoint) (datagram room file reply : List ℕ)
    (event : TftpEvent) (old new : Table) : Type 0 where
  pub steps : StepsAt tid (λ before e. Received from datagram before e room file reply event) old
      new

pub record SentAt (tid : ℕ) (from : TftpEndpoint) (datagram next reply : List ℕ)
    (event : TftpEvent) (old new : Table) : Type 0 where
  pub steps : StepsAt tid (λ before e. Sent from datagram before e next reply event) old new

pub record TimedOutAt (tid : ℕ) (reply : List ℕ) (event : TftpEvent) (old new : Table) : Type 0
  where
    pub steps : StepsAt tid (λ before e. TimedOut before e reply event) old new

-- the number of a fault
abbrev pub table_fault : ServerFault → ℕ
table_fault TidInUse = 10
table_fault NoSuchTid = 9
table_fault Memory = 3
