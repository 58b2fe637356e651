-- The line of a DATA, which has no more of it than its number and its length.
use Rattle.std.specs.Prelude.{ℕ, List, ◌∷◌, ◌++◌, codes}
use Rattle.std.specs.Fmt.{decimal}

-- the line of a DATA with this number and so many bytes
abbrev pub data_line : ℕ → ℕ → List ℕ
data_line block len = codes "DATA " ++ decimal block ++ (32 ∷ decimal len)
