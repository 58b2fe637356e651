-- The bytes of pairs of hexadecimal digits, by arithmetic on their codes.
use Rattle.std.specs.Prelude.{ℕ, ◌+◌, ◌*◌, ◌/◌, ◌%◌, List, [], ◌∷◌}

-- the value of a digit
abbrev pub value_of : ℕ → ℕ
value_of c = c % 16 + 9 * (c / 64)

-- the byte of two digits
abbrev pub pair_value : ℕ → ℕ → ℕ
pair_value high low = (value_of high * 16 % 256 + value_of low) % 256

-- the bytes of pairs of digits
abbrev pub bytes_of : List ℕ → List ℕ
bytes_of [] = []
bytes_of (digit ∷ []) = []
bytes_of (high ∷ low ∷ rest) = pair_value high low ∷ bytes_of rest
