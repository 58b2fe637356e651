-- What a reader does to the next line, part by part.
use Rattle.std.specs.Prelude.{ℕ, ◌≡◌, ◌≢◌, ◌≤◌, ◌<◌, ⊤, Bool, true, false, List, ◌++◌, length, take}
use Rattle.std.specs.Prelude.{All, Option, Some, None, IfSome}
use Rattle.std.specs.Io.{IsEmptyOrEndsWith, StopsAt}
use Rattle.std.specs.Io.BufRead.{DropsThrough, drop_through, take_through}

-- the first `count` of the buffered bytes belong to the line, which ends with them or goes on
pub record IsLinePart (buffered : List ℕ) (count : ℕ) (ends : Bool) : Type 0 where
  pub within : count ≤ length buffered
  pub some : 0 < length buffered → 0 < count
  pub goes_on : ends ≡ false → All (λ b. b ≢ 10) (take count buffered)
  pub stops : ends ≡ true → StopsAt (take count buffered) 10
  pub feed : ends ≡ true → IsEmptyOrEndsWith (take count buffered) 10

-- `was` grew to `now` by the next line, and the reader has the bytes after it
abbrev pub AppendsLine : Option (List ℕ) → Option (List ℕ) → List ℕ → List ℕ → Type 0
AppendsLine old new was now =
    IfSome old (λ bytes. now ≡ was ++ take_through 10 bytes) × DropsThrough old new 10

-- `was` grew to `now` by a part of the next line, and the reader has the rest of the line next
abbrev pub AppendsPart : Option (List ℕ) → Option (List ℕ) → List ℕ → List ℕ → Type 0
AppendsPart None new was now = ⊤
AppendsPart (Some bytes) None was now = ⊥
AppendsPart (Some bytes) (Some left) was now =
    (now ++ take_through 10 left ≡ was ++ take_through 10 bytes)
    × (drop_through 10 left ≡ drop_through 10 bytes)

-- the line was read to its end, or in part
abbrev pub ReadsLine : Bool → Option (List ℕ) → Option (List ℕ) → List ℕ → List ℕ → Type 0
ReadsLine true old new was now = AppendsLine old new was now
ReadsLine false old new was now = AppendsPart old new was now
