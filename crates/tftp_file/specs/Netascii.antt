-- The wire text of host bytes, in each mode (RFC 1350, section 1; RFC 764).
use Rattle.std.specs.Prelude.{ℕ, ◌==◌, if◌then◌else◌, List, [], ◌∷◌}
use Rattle.std.specs.List.{flat_map}
use Rattle.tftp_wire.specs.declared.mode.Mode.{Mode}
use Rattle.tftp_wire.specs.declared.mode.Mode.TheVariants.{Octet, Netascii}

-- one byte in netascii: a line end as CR LF, a CR as CR NUL, every other byte unchanged
abbrev pub wire_byte : ℕ → List ℕ
wire_byte b = if b == 10 then 13 ∷ 10 ∷ [] else if b == 13 then 13 ∷ 0 ∷ [] else b ∷ []

-- the wire text of the bytes in netascii
abbrev pub netascii_text : List ℕ → List ℕ
netascii_text bytes = flat_map wire_byte bytes

-- the wire text of the bytes
abbrev pub wire_text : Mode → List ℕ → List ℕ
wire_text Octet bytes = bytes
wire_text Netascii bytes = netascii_text bytes
