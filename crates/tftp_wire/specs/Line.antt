-- A packet as a line of text (our own format).
use Rattle.std.specs.Prelude.{ℕ, ◌+◌, ◌/◌, ◌%◌, ◌==◌, ◌&&◌, ◌||◌, not, nat_lt, Bool, if◌then◌else◌}
use Rattle.std.specs.Prelude.{List, [], ◌∷◌, ◌++◌, length, codes}
use Rattle.std.specs.List.{flat_map}
use Rattle.std.specs.Fmt.{decimal}
use Rattle.tftp_wire.specs.declared.options.RawOption.{RawOption}
use Rattle.tftp_wire.specs.declared.packet.Packet.{Packet}
use Rattle.tftp_wire.specs.declared.packet.Packet.TheVariants.{Read, Write, Data, Ack, Error, Oack}
use Rattle.tftp_wire.specs.declared.packet.Request.{Request}
use Rattle.tftp_wire.specs.Modes.{mode_word}

-- a hexadecimal digit, in lower case
abbrev pub hex_digit : ℕ → ℕ
hex_digit d = if nat_lt d 10 then 48 + d else 87 + d

-- `%` and the two digits of a byte
abbrev pub percent : ℕ → List ℕ
percent b = 37 ∷ hex_digit (b / 16) ∷ hex_digit (b % 16) ∷ []

-- a visible byte other than `%` and `=`
abbrev pub is_plain : ℕ → Bool
is_plain b = nat_lt 32 b && nat_lt b 127 && not (b == 37) && not (b == 61)

-- a byte of a name or a value
abbrev pub shown_byte : ℕ → List ℕ
shown_byte b = if is_plain b then b ∷ [] else percent b

-- a byte of the text of an ERROR, in which the space and `=` are unchanged
abbrev pub shown_message_byte : ℕ → List ℕ
shown_message_byte b = if is_plain b || b == 32 || b == 61 then b ∷ [] else percent b

-- a name or a value
abbrev pub shown : List ℕ → List ℕ
shown bytes = flat_map shown_byte bytes

-- ` name=value`
abbrev pub option_words : RawOption → List ℕ
option_words o = 32 ∷ (shown o.name ++ (61 ∷ shown o.value))

-- the words of a request after `RRQ` or `WRQ`
abbrev pub request_words : Request → List ℕ
request_words r = shown r.name ++ (32 ∷ mode_word r.mode) ++ flat_map option_words r.options

-- the line, without a line end
abbrev pub line : Packet → List ℕ
line (Read r) = codes "RRQ " ++ request_words r
line (Write r) = codes "WRQ " ++ request_words r
line (Data block bytes) = codes "DATA " ++ decimal block ++ (32 ∷ decimal (length bytes))
line (Ack block) = codes "ACK " ++ decimal block
line (Error code text) =
    codes "ERROR " ++ decimal code ++ codes " (" ++ flat_map shown_message_byte text ++ codes ")"
line (Oack options) = codes "OACK" ++ flat_map option_words options
