-- The first fault of a datagram from the left, and its offset (our own; the layouts are those of
-- RFC 1350, section 5, and RFC 2347, "Packet Formats").
use Rattle.std.specs.Prelude.{ℕ, ◌+◌, ◌==◌, ◌&&◌, nat_le, nat_lt, Bool, false, if◌then◌else◌, List, [], ◌∷◌}
use Rattle.std.specs.Prelude.{length, drop, Option, Some, None, is_none, codes}
use Rattle.std.specs.Str.{str_eq_ignore_ascii_case}
use Rattle.byteorder.specs.Endian.{big_number}
use Rattle.tftp_wire.specs.declared.fault.PacketFault.{PacketFault}
use Rattle.tftp_wire.specs.declared.fault.PacketFaultKind.{PacketFaultKind}
use Rattle.tftp_wire.specs.declared.fault.PacketFaultKind.TheVariants as kinds
use Rattle.tftp_wire.specs.declared.limits.TheConstants.{MAX_DATA, MAX_REQUEST}
use Rattle.tftp_wire.specs.declared.mode.Mode.{Mode}
use Rattle.tftp_wire.specs.declared.mode.Mode.TheVariants.{Octet, Netascii}
use Rattle.tftp_wire.specs.Texts.{texts, unended}

-- a fault of this kind at this offset
abbrev pub fault_at : PacketFaultKind → ℕ → Option PacketFault
fault_at kind at = Some (record { kind = kind; at = at })

-- a row of a table of faults: if the test holds, the fault has this kind and this offset
pub record Row : Type 0 where
  pub test : Bool
  pub kind : PacketFaultKind
  pub at : ℕ

-- the fault of the first row whose test holds, or the last argument if none holds
abbrev pub first_row : List Row → Option PacketFault → Option PacketFault
first_row [] others = others
first_row (row ∷ rows) others = if row.test then fault_at row.kind row.at else first_row rows others

-- a row
abbrev pub row : Bool → PacketFaultKind → ℕ → Row
row test kind at = record { test = test; kind = kind; at = at }

-- longer than the maximum of its kind
abbrev pub too_long : ℕ → List ℕ → Row
too_long most bytes = row (nat_lt most (length bytes)) kinds.TooLong most

-- the second number is missing
abbrev pub too_short : List ℕ → Row
too_short bytes = row (nat_lt (length bytes) 4) kinds.Short 2

-- the mode of a word
abbrev pub mode_in : List ℕ → Option Mode
mode_in word =
    if str_eq_ignore_ascii_case word (codes "octet") then Some Octet
    else if str_eq_ignore_ascii_case word (codes "netascii") then Some Netascii
    else None

-- the first fault of options, by their texts from an offset on and the bytes after the last zero
abbrev pub options_fault : ℕ → List (List ℕ) → List ℕ → Option PacketFault
options_fault at [] [] = None
options_fault at [] (b ∷ rest) = fault_at kinds.Unterminated at
options_fault at ([] ∷ others) rest = fault_at kinds.EmptyOption at
options_fault at ((c ∷ name) ∷ []) [] = fault_at kinds.NoValue (at + (length (c ∷ name) + 1))
options_fault at ((c ∷ name) ∷ []) (b ∷ rest) =
    fault_at kinds.Unterminated (at + (length (c ∷ name) + 1))
options_fault at ((c ∷ name) ∷ value ∷ others) rest =
    options_fault (at + (length (c ∷ name) + 1) + (length value + 1)) others rest

-- the first fault of a request after its file name, from an offset on
abbrev pub mode_fault : ℕ → List (List ℕ) → List ℕ → Option PacketFault
mode_fault at [] rest = fault_at kinds.Unterminated at
mode_fault at (word ∷ others) rest =
    first_row (
    row (is_none (mode_in word)) kinds.Mode at
    ∷ []) (options_fault (at + (length word + 1)) others rest)

-- the first fault of the texts of a request
abbrev pub texts_fault : List (List ℕ) → List ℕ → Option PacketFault
texts_fault [] rest = fault_at kinds.Unterminated 2
texts_fault ([] ∷ others) rest = fault_at kinds.EmptyName 2
texts_fault ((c ∷ name) ∷ others) rest = mode_fault (2 + (length (c ∷ name) + 1)) others rest

-- the first fault of a request
abbrev pub request_fault : List ℕ → Option PacketFault
request_fault bytes = first_row (
    too_long MAX_REQUEST bytes
    ∷ []) (texts_fault (texts (drop 2 bytes)) (unended (drop 2 bytes)))

-- the first fault of the number after the opcode
abbrev pub number_fault : List ℕ → Option PacketFault
number_fault bytes = first_row (
    too_short bytes
    ∷ []) None

-- the first fault of a DATA
abbrev pub data_fault : List ℕ → Option PacketFault
data_fault bytes = first_row (
    too_long MAX_DATA bytes
    ∷ too_short bytes
    ∷ row (big_number 2 (drop 2 bytes) == 0) kinds.BlockZero 2
    ∷ []) None

-- the first fault of an ACK
abbrev pub ack_fault : List ℕ → Option PacketFault
ack_fault bytes = first_row (
    too_short bytes
    ∷ row (nat_lt 4 (length bytes)) kinds.Trailing 4
    ∷ []) None

-- the first fault of the text of an ERROR
abbrev pub message_fault : List (List ℕ) → List ℕ → Option PacketFault
message_fault [] rest = fault_at kinds.Unterminated 4
message_fault (text ∷ []) [] = None
message_fault (text ∷ []) (b ∷ rest) = fault_at kinds.Trailing (4 + (length text + 1))
message_fault (text ∷ other ∷ others) rest = fault_at kinds.Trailing (4 + (length text + 1))

-- the first fault of an ERROR
abbrev pub error_fault : List ℕ → Option PacketFault
error_fault bytes = first_row (
    too_long MAX_REQUEST bytes
    ∷ too_short bytes
    ∷ []) (message_fault (texts (drop 4 bytes)) (unended (drop 4 bytes)))

-- the first fault of an OACK
abbrev pub oack_fault : List ℕ → Option PacketFault
oack_fault bytes = first_row (
    too_long MAX_REQUEST bytes
    ∷ row (length bytes == 2) kinds.EmptyOack 2
    ∷ []) (options_fault 2 (texts (drop 2 bytes)) (unended (drop 2 bytes)))

-- the first fault of a datagram with this opcode
abbrev pub opcode_fault : ℕ → List ℕ → Option PacketFault
opcode_fault opcode bytes =
    if opcode == 1 then request_fault bytes
    else if opcode == 2 then request_fault bytes
    else if opcode == 3 then data_fault bytes
    else if opcode == 4 then ack_fault bytes
    else if opcode == 5 then error_fault bytes
    else if opcode == 6 then oack_fault bytes
    else fault_at kinds.Opcode 0

-- the first fault of a datagram; none if it spells a packet
abbrev pub first_fault : List ℕ → Option PacketFault
first_fault bytes = first_row (
    row (nat_lt (length bytes) 2) kinds.Short 0
    ∷ []) (opcode_fault (big_number 2 bytes) bytes)

-- the datagram begins with the opcode of DATA
abbrev pub starts_as_data : List ℕ → Bool
starts_as_data bytes = nat_le 2 (length bytes) && (big_number 2 bytes == 3)

-- the datagram begins with the opcode of ERROR
abbrev pub has_error_opcode : List ℕ → Bool
has_error_opcode (high ∷ low ∷ rest) = high == 0 && (low == 5)
has_error_opcode (high ∷ []) = false
has_error_opcode [] = false
