-- A line that is passed to the system in one call (ours).
use Rattle.std.specs.Prelude.{ℕ, ◌≡◌, ◌≢◌, ◌≤◌, ◌==◌, nat_lt, if◌then◌else◌}
use Rattle.std.specs.Prelude.{List, [], ◌∷◌, ◌++◌, length, All}
use Rattle.tftp_lines.specs.declared.whole_line.TheConstants.{LONGEST_LINE, LONGEST_TEXT}

-- no line ends in a text (LF, 10)
abbrev pub HasNoEnd : List ℕ → Type 0
HasNoEnd text = All (λ (byte : ℕ). byte ≢ 10) text

-- the text of one line: as long as one may be, and without an end
pub record IsLineText (text : List ℕ) : Type 0 where
  pub short : length text ≤ LONGEST_TEXT
  pub one : HasNoEnd text

-- a text with its end
abbrev pub ended : List ℕ → List ℕ
ended text = text ++ 10 ∷ []

-- one line, with its end
pub record IsWholeLine (bytes : List ℕ) : Type 0 where
  pub short : length bytes ≤ LONGEST_LINE
  pub text : List ℕ
  pub one : HasNoEnd text
  pub bytes_are : bytes ≡ ended text

-- a byte as a line has it: its end is a space
abbrev pub on_line : ℕ → ℕ
on_line byte = if byte == 10 then 32 else byte

-- a text and a byte behind it, which is left out where the text is as long as one may be
abbrev pub with_byte : List ℕ → ℕ → List ℕ
with_byte text byte =
    if nat_lt (length text) LONGEST_TEXT then text ++ on_line byte ∷ [] else text

-- a text and other bytes behind it
abbrev pub with_bytes : List ℕ → List ℕ → List ℕ
with_bytes text [] = text
with_bytes text (byte ∷ bytes) = with_bytes (with_byte text byte) bytes

-- the line of a text
abbrev pub line_of : List ℕ → List ℕ
line_of text = ended (with_bytes [] text)
