-- Why an event finds an end out of memory: a growth that was refused, or a file that answered
-- `Memory`.
use Rattle.std.specs.Prelude.{ℕ, ◌≡◌, ◌+◌, ◌<◌, ◌⊎◌, List, [], length, drop, Option, Err}
use Rattle.tftp_wire.specs.declared.packet.Packet.{Packet}
use Rattle.tftp_wire.specs.declared.limits.TheConstants.{HEADER}
use Rattle.tftp_wire.specs.declared.mode.Mode.{Mode}
use Rattle.tftp_wire.specs.declared.mode.Mode.TheVariants.{Octet, Netascii}
use Rattle.tftp_file.specs.Source.{SourceMeaning}
use Rattle.tftp_file.specs.Sink.{SinkMeaning}
use Rattle.tftp_file.specs.declared.fault.StoreFault.TheVariants.{Memory}
use Rattle.tftp_file.specs.declared.files.Files.{Files}
use Rattle.tftp_file.specs.declared.files.Files.TheVariants.{Source, Sink}
use Rattle.tftp_ends.specs.declared.action.Action.{Action}
use Rattle.tftp_ends.specs.declared.action.Action.TheVariants.{Respond, Send, Store}
use Rattle.tftp_ends.specs.declared.endpoint.Endpoint.{Endpoint}
use Rattle.tftp_ends.specs.Action.{Decodes, datagram_action}
use Rattle.tftp_ends.specs.End.{EndState}
use Rattle.tftp_ends.specs.Room.{room_of}
use Rattle.tftp_ends.specs.Step.{Appended, block_length}
use Rattle.tftp_ends.specs.Text.{Decoded}

module _ {S : Type 0} (sources : SourceMeaning S) where
  -- a source answered a fill of this many bytes by `Memory`: it has the same bytes left, did not
  -- have to fail, and gave no bytes
  pub record FillLacksMemory (want : ℕ) (before after : S) : Type 0 where
    pub left : sources.left after ≡ sources.left before
    pub fails : sources.fails before want → ⊥
    pub gave : sources.gives before [] after

  -- a block of this many bytes was not read: its DATA is longer than the last datagram sent, whose
  -- length the end's buffers have, and the source was not asked; or the source lacks memory
  abbrev pub SendLacksMemory : ℕ → EndState → S → S → Type 0
  SendLacksMemory want e before after =
      ((length e.position.last_sent < HEADER + want) × (after ≡ before))
      ⊎ FillLacksMemory want before after

module _ {K : Type 0} (sinks : SinkMeaning K) where
  -- a sink answered an append of the host bytes of this piece by `Memory`
  pub record AppendLacksMemory (mode : Mode) (text piece : List ℕ) (before after : K) : Type 0 where
    pub bytes : List ℕ
    pub text_after : List ℕ
    pub decoded : Decoded mode text piece bytes text_after
    pub appended : Appended sinks bytes before after (Err Memory)

  -- a piece was not stored: in netascii it was not decoded, and the sink was not called; or the
  -- sink lacks memory
  abbrev pub StoreLacksMemory : Mode → List ℕ → List ℕ → K → K → Type 0
  StoreLacksMemory Octet text piece before after = AppendLacksMemory Octet text piece before after
  StoreLacksMemory Netascii text piece before after =
      (after ≡ before) ⊎ AppendLacksMemory Netascii text piece before after

module _ {S K : Type 0} (sources : SourceMeaning S) (sinks : SinkMeaning K) where
  -- a block was not read from a source
  abbrev pub SourceLacksMemory : ℕ → EndState → Files S K → Files S K → Type 0
  SourceLacksMemory want e (Source before) (Source after) =
      SendLacksMemory sources want e before after
  SourceLacksMemory want e _ _ = ⊥

  -- a block was not stored in a sink
  abbrev pub SinkLacksMemory : List ℕ → EndState → Files S K → Files S K → Type 0
  SinkLacksMemory piece e (Sink before) (Sink after) =
      StoreLacksMemory sinks e.role.mode e.position.held_back piece before after
  SinkLacksMemory piece e _ _ = ⊥

  -- an action for a datagram of these bytes was not carried out; a response never lacks memory
  abbrev pub ActLacksMemory : Action → List ℕ → EndState → Files S K → Files S K → Type 0
  ActLacksMemory (Respond response) bytes e before after = ⊥
  ActLacksMemory (Send terms number) bytes e before after =
      SourceLacksMemory (block_length e.role.length terms.size number) e before after
  ActLacksMemory (Store terms number) bytes e before after =
      SinkLacksMemory (drop 4 bytes) e before after

  -- an open end did not handle a datagram: `out` is too full for the bytes that the action may
  -- append, and no file was asked; or the action was not carried out
  pub record LacksMemory (too_full : ℕ → Type 0) (from : Endpoint) (bytes : List ℕ) (e : EndState)
      (before after : Files S K) : Type 0 where
    pub decoded : Option Packet
    pub says : Decodes bytes decoded
    pub lacks :
        (too_full (room_of e (datagram_action e from bytes decoded)) × (after ≡ before))
        ⊎ ActLacksMemory (datagram_action e from bytes decoded) bytes e before after

-- a buffer of this capacity and length has no room for so many bytes more
abbrev pub HasNoRoom : ℕ → ℕ → ℕ → Type 0
HasNoRoom capacity used more = capacity < used + more

-- nothing is appended
abbrev pub AppendsNothing : ℕ → Type 0
AppendsNothing more = ⊥
