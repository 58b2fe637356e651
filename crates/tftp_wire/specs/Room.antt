-- Text that is appended within the reserved capacity.
use Rattle.std.specs.Prelude.{ℕ, ◌≡◌, ◌+◌, ◌≤◌, List, ◌++◌, length}
use Rattle.std.specs.String.{string_bytes, string_len, string_capacity}
use Rattle.std.specs.declared.string.String.{String}

-- the capacity is enough for the text
abbrev pub HasRoom : {Z : Type 0} → List ℕ → String Z → Type 0
HasRoom text out = string_len out + length text ≤ string_capacity out

-- the text is appended, and the capacity does not shrink
pub record Puts {Z : Type 0} (text : List ℕ) (old new : String Z) : Type 0 where
  pub bytes : string_bytes new ≡ string_bytes old ++ text
  pub len : string_len new ≡ string_len old + length text
  pub capacity : string_capacity old ≤ string_capacity new
