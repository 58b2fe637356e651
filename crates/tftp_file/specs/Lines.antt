-- The bytes that netascii sends as pairs, and the end of a run of other bytes (RFC 764).
use Rattle.std.specs.Prelude.{◌≡◌, ℕ, Bool, ◌||◌, ◌==◌, ◌⊎◌, List, [], ◌∷◌}

-- LF and CR
abbrev pub is_line_byte : ℕ → Bool
is_line_byte byte = byte == 10 || byte == 13

-- nothing, or a text that begins with LF or CR
abbrev pub EndsAtLine : List ℕ → Type 0
EndsAtLine [] = Unit {0}
EndsAtLine (byte ∷ rest) = (byte ≡ 10) ⊎ (byte ≡ 13)
