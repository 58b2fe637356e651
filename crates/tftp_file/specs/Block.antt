-- The blocks of a text (RFC 1350, section 6; RFC 2348).
use Rattle.std.specs.Prelude.{ℕ, zero, suc, ◌≡◌, ◌+◌, ◌-◌, ◌*◌, ◌/◌, ◌<◌, List, [], ◌++◌, length}
use Rattle.std.specs.Prelude.{take, drop}

-- the number of blocks of a text: the last is shorter than the others, and may be empty
abbrev pub block_count : List ℕ → ℕ → ℕ
block_count text size = length text / size + 1

-- block n of the text, numbered from 1
abbrev pub block : List ℕ → ℕ → ℕ → List ℕ
block text size n = take size (drop ((n - 1) * size) text)

-- the block numbers fit two bytes
abbrev pub Fits : List ℕ → ℕ → Type 0
Fits text size = length text < 65535 * size

-- the first is a prefix of the second, possibly empty or all of it
abbrev pub IsPrefixOf : List ℕ → List ℕ → Type 0
IsPrefixOf xs ys = (rest : List ℕ) × (xs ++ rest ≡ ys)

-- the first n blocks, joined
abbrev pub first_blocks : List ℕ → ℕ → ℕ → List ℕ
first_blocks text size zero = []
first_blocks text size (suc n) = first_blocks text size n ++ block text size (suc n)
