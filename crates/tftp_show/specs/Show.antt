-- The output of `tftp-show` for an input, and its status.
use Rattle.std.specs.Prelude.{ℕ, ◌==◌, Bool, false, if◌then◌else◌, List, [], ◌∷◌, ◌++◌}
use Rattle.std.specs.Prelude.{codes, is_none, Result, Ok, Err}
use Rattle.std.specs.List.{flat_map, list_all}
use Rattle.std.specs.Io.BufRead.{strip_last}
use Rattle.hex.specs.Hex.{decode_of}
use Rattle.hex.specs.declared.error.FromHexError.{FromHexError}
use Rattle.tftp_wire.specs.Datagram.{datagram_shown}
use Rattle.tftp_wire.specs.Reading.{first_fault}

-- a byte before the first line, or a line of it alone
abbrev pub onto_first : ℕ → List (List ℕ) → List (List ℕ)
onto_first b [] = (b ∷ []) ∷ []
onto_first b (first ∷ others) = (b ∷ first) ∷ others

-- the lines, each without its line feed; bytes after the last line feed are a line, too
abbrev pub lines_of : List ℕ → List (List ℕ)
lines_of [] = []
lines_of (b ∷ input) = if b == 10 then [] ∷ lines_of input else onto_first b (lines_of input)

-- the line for decoded digits
abbrev pub decoded_shown : Result (List ℕ) FromHexError → List ℕ
decoded_shown (Ok bytes) = datagram_shown bytes (first_fault bytes)
decoded_shown (Err e) = codes "not hex"

-- the line of digits
abbrev pub line_shown : List ℕ → List ℕ
line_shown digits = decoded_shown (decode_of digits)

-- whether digits decode to a packet
abbrev pub spells_packet : Result (List ℕ) FromHexError → Bool
spells_packet (Ok bytes) = is_none (first_fault bytes)
spells_packet (Err e) = false

-- whether all lines are packets; a carriage return at the end of a line is part of its line end
abbrev pub are_packets : List ℕ → Bool
are_packets input =
    list_all (λ line. spells_packet (decode_of (strip_last 13 line))) (lines_of input)

-- the output for an input: a line for each line
abbrev pub input_shown : List ℕ → List ℕ
input_shown input = flat_map (λ line. line_shown (strip_last 13 line) ++ 10 ∷ []) (lines_of input)

-- the status, if all could be read and written
abbrev pub shown_status : List ℕ → ℕ
shown_status input = if are_packets input then 0 else 1
