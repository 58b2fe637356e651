-- A length that is read up to a limit (own).
use Rattle.std.specs.Prelude.{ℕ, nat_le, if◌then◌else◌, Option, Some, None}

-- the count, unless it is greater than the limit
abbrev pub up_to : ℕ → ℕ → Option ℕ
up_to limit count = if nat_le count limit then Some count else None
