-- The line of a DATA, of which only the number and the length are read.
use Rattle.std.specs.Prelude.{ℕ, ◌≡◌, true, List}
use Rattle.hex.specs.Hex.{decode_of}
use Rattle.tftp_flow.specs.DataLine.{data_line}
use Rattle.tftp_show.specs.Show.{line_shown, spells_packet}

-- digits spell a packet, whose line is that of such a DATA
abbrev pub IsShownAs : List ℕ → ℕ → ℕ → Type 0
IsShownAs digits block len =
    (spells_packet (decode_of digits) ≡ true) × (line_shown digits ≡ data_line block len)
