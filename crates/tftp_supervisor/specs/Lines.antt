-- What a supervisor prints of what its servers print (ours).
use Rattle.std.specs.Prelude.{ℕ, ◌≢◌, Bool, true, false, List, [], ◌∷◌, ◌++◌, All}
use Rattle.std.specs.Prelude.{if◌then◌else◌, codes}
use Rattle.std.specs.Fmt.{decimal}
use Rattle.std.specs.List.{list_any}
use Rattle.std.specs.Str.{bytes_eq}

-- a line with its end (LF, 10)
abbrev pub ended : List ℕ → List ℕ
ended line = line ++ 10 ∷ []

-- the text of lines
abbrev pub ended_lines : List (List ℕ) → List ℕ
ended_lines [] = []
ended_lines (line ∷ lines) = ended line ++ ended_lines lines

-- no line ends in a text
abbrev pub HasNoEnd : List ℕ → Type 0
HasNoEnd text = All (λ (byte : ℕ). byte ≢ 10) text

-- a line with its end, and before it which server printed it
abbrev pub marked : ℕ → List ℕ → List ℕ
marked server line = (codes "server " ++ decimal server ++ codes ": ") ++ ended line

abbrev pub all_marked : ℕ → List (List ℕ) → List ℕ
all_marked server [] = []
all_marked server (line ∷ lines) = marked server line ++ all_marked server lines

-- what is printed of the first line of a server, which says where it listens: the line as it is,
-- unless it is among those that servers had as their first lines before
abbrev pub first_passed : List (List ℕ) → List ℕ → List ℕ
first_passed announced line =
    if list_any (λ said. bytes_eq said line) announced then [] else ended line

-- what is printed of the lines of a server that has printed some before, or none: its first line
-- where no server had the same one, and each other with its mark
abbrev pub passed : List (List ℕ) → (has_printed : Bool) → ℕ → List (List ℕ) → List ℕ
passed announced true server lines = all_marked server lines
passed announced false server [] = []
passed announced false server (line ∷ lines) =
    first_passed announced line ++ all_marked server lines

-- what is printed of one line of a server
abbrev pub line_passed : List (List ℕ) → (has_printed : Bool) → ℕ → List ℕ → List ℕ
line_passed announced true server line = marked server line
line_passed announced false server line = first_passed announced line

-- the first lines of servers, once one that has printed some lines before, or none, has these
abbrev pub with_first : List (List ℕ) → (has_printed : Bool) → List (List ℕ) → List (List ℕ)
with_first announced true lines = announced
with_first announced false [] = announced
with_first announced false (line ∷ lines) = announced ++ line ∷ []

-- whether there is a line
abbrev pub has_any : List (List ℕ) → Bool
has_any [] = false
has_any (line ∷ lines) = true
