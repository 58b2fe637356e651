-- The packet in a datagram without a fault.
use Rattle.std.specs.Prelude.{ℕ, ◌≡◌, ◌+◌, ◌-◌, ◌<◌, length, ◌==◌, if◌then◌else◌, List, [], ◌∷◌}
use Rattle.std.specs.Prelude.{drop, Option, Some, None, unwrap_or, Result, Ok, Err}
use Rattle.std.specs.Borrow.{Bor}
use Rattle.byteorder.specs.Endian.{big_number}
use Rattle.tftp_wire.specs.declared.fault.PacketFault.{PacketFault}
use Rattle.tftp_wire.specs.declared.fault.PacketFaultKind.TheVariants.{Unterminated}
use Rattle.tftp_wire.specs.declared.mode.Mode.TheVariants.{Octet}
use Rattle.tftp_wire.specs.declared.packet.Packet.{Packet}
use Rattle.tftp_wire.specs.declared.packet.Packet.TheVariants.{Read, Write, Data, Ack, Error, Oack}
use Rattle.tftp_wire.specs.declared.packet.Request.{Request}
use Rattle.tftp_wire.specs.Texts.{texts, unended}
use Rattle.tftp_wire.specs.Options.{paired, options_in}
use Rattle.tftp_wire.specs.Reading.{mode_in, options_fault}

-- the request of these texts: a file name, a mode and options
abbrev pub request_of : List (List ℕ) → Request
request_of [] = record { name = []; mode = Octet; options = [] }
request_of (name ∷ []) = record { name = name; mode = Octet; options = [] }
request_of (name ∷ word ∷ others) =
    record { name = name; mode = unwrap_or (mode_in word) Octet; options = paired others }

-- the first of the texts
abbrev pub first_of : List (List ℕ) → List ℕ
first_of [] = []
first_of (text ∷ others) = text

-- the packet of a datagram with this opcode
abbrev pub packet_of : ℕ → List ℕ → Packet
packet_of opcode bytes =
    if opcode == 1 then Read (request_of (texts (drop 2 bytes)))
    else if opcode == 2 then Write (request_of (texts (drop 2 bytes)))
    else if opcode == 3 then Data (big_number 2 (drop 2 bytes)) (drop 4 bytes)
    else if opcode == 4 then Ack (big_number 2 (drop 2 bytes))
    else if opcode == 5 then Error (big_number 2 (drop 2 bytes)) (first_of (texts (drop 4 bytes)))
    else Oack (options_in (drop 2 bytes))

-- the packet of a datagram
abbrev pub packet_in : List ℕ → Packet
packet_in bytes = packet_of (big_number 2 bytes) bytes

-- a reader returns a value whose `view` is the given one if there is no fault, and else the fault
abbrev pub Reads : {T U E : Type 0} → (T → U) → U → Option E → Result T E → Type 0
Reads view value fault (Ok x) = (fault ≡ None) × (view x ≡ value)
Reads view value fault (Err e) = fault ≡ Some e

-- the first fault of options that begin at an offset
abbrev pub bytes_fault : ℕ → List ℕ → Option PacketFault
bytes_fault at bytes = options_fault at (texts bytes) (unended bytes)

-- the bytes begin with a text, its zero byte and this rest
abbrev pub BeginsWith : List ℕ → List ℕ → List ℕ → Type 0
BeginsWith bytes text rest =
    (texts bytes ≡ text ∷ texts rest) × (unended bytes ≡ unended rest)
    × (length bytes ≡ length text + 1 + length rest)

-- the first text of the bytes and the bytes after it, or the fault if no zero byte ends a text
abbrev pub SplitsText : ℕ → List ℕ → Result (Bor (List ℕ) × Bor (List ℕ)) PacketFault → Type 0
SplitsText at bytes (Ok parts) = BeginsWith bytes parts.0.now parts.1.now
SplitsText at bytes (Err e) =
    (texts bytes ≡ []) × (unended bytes ≡ bytes) × (e ≡ record { kind = Unterminated; at = at })

-- the first fault is that of the bytes after the option, or is in the option
abbrev pub GoesOn : ℕ → List ℕ → Result (Bor (List ℕ)) PacketFault → Type 0
GoesOn at bytes (Ok rest) =
    (bytes_fault at bytes ≡ bytes_fault (at + (length bytes - length rest.now)) rest.now)
    × (length rest.now < length bytes)
GoesOn at bytes (Err e) = bytes_fault at bytes ≡ Some e
