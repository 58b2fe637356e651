-- How a server's end opens for C.
use Rattle.std.specs.Prelude.{ℕ, ◌≡◌, ◌+◌, ◌-◌, ◌*◌, ◌<◌, ◌≤◌, ◌==◌, if◌then◌else◌, List}
use Rattle.std.specs.Prelude.{length, Option}
use Rattle.std.specs.Prelude.{Some, None, Ok, max, min}
use Rattle.tftp_wire.specs.Spelling.{Spells}
use Rattle.tftp_wire.specs.declared.limits.TheConstants.{HEADER, MAX_BLOCK}
use Rattle.tftp_wire.specs.declared.packet.Packet.TheVariants.{Read, Write}
use Rattle.tftp_wire.specs.declared.packet.Request.{Request}
use Rattle.tftp_negotiate.specs.Agreed as agreements
use Rattle.tftp_negotiate.specs.Ranges.{IsBlockSize}
use Rattle.tftp_negotiate.specs.declared.known.Kind.TheVariants as kinds
use Rattle.tftp_negotiate.specs.declared.known.Known.{Known}
use Rattle.tftp_negotiate.specs.declared.limits.Limits.{Limits}
use Rattle.tftp_negotiate.specs.declared.limits.TheConstants.{DEFAULT_BLOCK}
use Rattle.tftp_file.specs.Memory.{memory_source}
use Rattle.tftp_ends.specs.End.{EndState}
use Rattle.tftp_ends.specs.Opening.{ServesRead, serving_write}
use Rattle.tftp_c.specs.declared.client.Client.{Client}
use Rattle.tftp_c.specs.declared.event.TftpEndpoint.{TftpEndpoint}
use Rattle.tftp_c.specs.declared.event.TftpEvent.{TftpEvent}
use Rattle.tftp_c.specs.declared.event.TftpOptions.{TftpOptions}
use Rattle.tftp_c.specs.Answers.{answer_to}
use Rattle.tftp_c.specs.Opens.{FirstSent}
use Rattle.tftp_c.specs.Reports.{endpoint_of}

-- the limits of a server: the block size that C gives is the largest, and 0 is for any
abbrev pub limits_of : TftpOptions → Limits
limits_of options =
    record {
      max_block = if options.blksize == 0 then MAX_BLOCK else options.blksize;
      max_file = options.max_file;
    }

-- the largest block size is one (RFC 2348, "Blocksize Option Specification")
abbrev pub LimitsBlocks : TftpOptions → Type 0
LimitsBlocks options = IsBlockSize (limits_of options).max_block

-- those of a read, whose buffer for a datagram has this room: no block is longer than the buffer has
-- room for, except one of the default size
abbrev pub read_limits : TftpOptions → ℕ → Limits
read_limits options room =
    record {
      max_block = min (limits_of options).max_block (max DEFAULT_BLOCK (room - HEADER));
      max_file = options.max_file;
    }

-- a read request has such an end: its options are answered, a DATA of the agreed size fits the buffer,
-- and the `count` bytes that are sent come from `next`, of which `rest` is left
pub record AnswersGet (client : TftpEndpoint) (datagram : List ℕ) (size : ℕ) (next : List ℕ)
    (options : TftpOptions) (room : ℕ) (e : EndState) (count : ℕ) : Type 0 where
  pub limits : LimitsBlocks options
  pub request : Request
  pub asked : Spells (Read request) datagram
  pub agreed : List Known
  pub answers : answer_to options request kinds.Read size (read_limits options room) ≡ Ok agreed
  pub block_fits : HEADER + agreements.size agreed ≤ room
  pub fits : size < 65535 * agreements.size agreed
  pub rest : List ℕ
  pub serves : ServesRead memory_source agreed (endpoint_of client) request.mode size
      options.retries next rest e
  pub taken : count ≡ length next - length rest

-- a write request has such an end: its options are answered
pub record AnswersPut (client : TftpEndpoint) (datagram : List ℕ) (options : TftpOptions)
    (e : EndState) : Type 0 where
  pub limits : LimitsBlocks options
  pub request : Request
  pub asked : Spells (Write request) datagram
  pub agreed : List Known
  pub answers : answer_to options request kinds.Write 0 (limits_of options) ≡ Ok agreed
  pub state : e ≡ serving_write agreed (endpoint_of client) request.mode options.retries

-- a read request is served: its end has sent its first datagram, and `count` bytes of the file
pub record ServesGet (client : TftpEndpoint) (datagram : List ℕ) (size : ℕ) (next : List ℕ)
    (options : TftpOptions) (e : EndState) (reply : List ℕ) (event : TftpEvent) : Type 0 where
  pub count : ℕ
  pub answers : AnswersGet client datagram size next options (length reply) e count
  pub taken : event.file_len ≡ count
  pub sent : FirstSent e (endpoint_of client) reply event

-- a write request is served
pub record ServesPut (client : TftpEndpoint) (datagram : List ℕ) (options : TftpOptions)
    (e : EndState) (reply : List ℕ) (event : TftpEvent) : Type 0 where
  pub answers : AnswersPut client datagram options e
  pub file : event.file_len ≡ 0
  pub sent : FirstSent e (endpoint_of client) reply event

-- a handle holds an end of which this holds
abbrev pub HoldsSuch : Option Client → (EndState → Type 0) → Type 0
HoldsSuch None holds = ⊥
HoldsSuch (Some c) holds = holds c.end
