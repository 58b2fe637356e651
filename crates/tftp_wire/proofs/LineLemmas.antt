-- The maximum length of the line of a packet. For `line_room_ref`, `line_room` and `show_fault`.
use Rattle.std.proofs.Common.{ℕ, ◌+◌, ◌*◌, ◌<◌, ◌≤◌, ◌^◌, Bool, true, false, cond, arith, List, [], ◌∷◌, length, rules}
use Rattle.std.proofs.lemmas.Fmt.{length-decimal-le}
use Rattle.std.proofs.lemmas.List.{length-append}
use Rattle.std.specs.List.{flat_map}
use Rattle.tftp_wire.specs.declared.mode.Mode.{Mode}
use Rattle.tftp_wire.specs.declared.mode.Mode.TheVariants.{Octet, Netascii}
use Rattle.tftp_wire.specs.declared.options.RawOption.{RawOption}
use Rattle.tftp_wire.specs.declared.packet.Packet.TheVariants.{Read, Write, Data, Ack, Error, Oack}
use Rattle.tftp_wire.specs.declared.packet.Request.{Request}
use Rattle.tftp_wire.specs.declared.fault.PacketFaultKind.{PacketFaultKind}
use Rattle.tftp_wire.specs.Datagram.{fault_line}
use Rattle.tftp_wire.specs.Faults.{kind_name}
use Rattle.tftp_wire.specs.Line.{line, option_words, shown, shown_byte, shown_message_byte, is_plain}
use Rattle.tftp_wire.specs.Modes.{mode_word}
use Rattle.tftp_wire.specs.Options.{options_bytes}
use Rattle.tftp_wire.specs.Spelling.{canonical}

one_or_three : (b : Bool) (x y z w : ℕ) → length (cond b (x ∷ []) (y ∷ z ∷ w ∷ [])) ≤ 3
one_or_three true x y z w = omega arith
one_or_three false x y z w = omega arith

byte_fits : (b : ℕ) → length (shown_byte b) ≤ 3
byte_fits b = one_or_three (is_plain b) b _ _ _

message_byte_fits : (b : ℕ) → length (shown_message_byte b) ≤ 3
message_byte_fits b = one_or_three _ b _ _ _

shown_fits : (bytes : List ℕ) → length (shown bytes) ≤ 3 * length bytes
shown_fits [] = omega arith
shown_fits (b ∷ bytes) = rw length-append (omega (arith, byte_fits b, shown_fits bytes))

message_fits : (text : List ℕ) → length (flat_map shown_message_byte text) ≤ 3 * length text
message_fits [] = omega arith
message_fits (b ∷ text) = rw length-append (omega (arith, message_byte_fits b, message_fits text))

options_fit : (os : List RawOption) → length (flat_map option_words os) ≤ 3 * length (options_bytes os)
options_fit [] = omega arith
options_fit (o ∷ os) = simp length-append (omega (arith, shown_fits o.name, shown_fits o.value, options_fit os))

mode_fits : (mode : Mode) → length (mode_word mode) ≤ 8
mode_fits Octet = omega arith
mode_fits Netascii = omega arith

-- a request to read
pub read_fits : (r : Request) → length (line (Read r)) ≤ 3 * length (canonical (Read r)) + 40
read_fits r = simp length-append (omega (arith, shown_fits r.name, mode_fits r.mode, options_fit r.options))

-- a request to write
pub write_fits : (r : Request) → length (line (Write r)) ≤ 3 * length (canonical (Read r)) + 40
write_fits r = simp length-append (omega (arith, shown_fits r.name, mode_fits r.mode, options_fit r.options))

-- a DATA
pub data_fits : (block : ℕ) (bytes : List ℕ) → block < 2 ^ 16 → length bytes < 2 ^ 64
    → length (line (Data block bytes)) ≤ 40
data_fits block bytes b l =
    simp length-append
    (omega (
      arith,
      length-decimal-le 5 block (omega arith) (omega arith) (omega arith),
      length-decimal-le 20 (length bytes) (omega arith) (omega arith) (omega arith),
    ))

-- an ACK
pub ack_fits : (block : ℕ) → block < 2 ^ 16 → length (line (Ack block)) ≤ 40
ack_fits block b = search (rules, length-append, length-decimal-le)

-- an ERROR
pub error_fits : (code : ℕ) (text : List ℕ) → code < 2 ^ 16
    → length (line (Error code text)) ≤ 3 * length text + 40
error_fits code text b =
    simp length-append
    (omega (arith, message_fits text, length-decimal-le 5 code (omega arith) (omega arith) (omega arith)))

-- an OACK
pub oack_fits : (os : List RawOption) → length (line (Oack os)) ≤ 3 * length (options_bytes os) + 40
oack_fits os = simp length-append (omega (arith, options_fit os))

name_fits : (kind : PacketFaultKind) → length (kind_name kind) ≤ 12
name_fits kind = search rules

-- a fault
pub fault_fits : (kind : PacketFaultKind) (at : ℕ) → at < 2 ^ 64 → length (fault_line kind at) ≤ 40
fault_fits kind at b =
    simp length-append
    (omega (arith, name_fits kind, length-decimal-le 20 at (omega arith) (omega arith) (omega arith)))
