-- Texts, each with the zero byte that ends it (RFC 1350, section 5).
use Rattle.std.specs.Prelude.{ℕ, ◌≢◌, ◌==◌, if◌then◌else◌, List, [], ◌∷◌, ◌++◌}
use Rattle.std.specs.List.{AllByRecursion}

-- contains no zero byte
abbrev pub IsText : List ℕ → Type 0
IsText bytes = AllByRecursion (λ b. b ≢ 0) bytes

-- a text and its zero byte
abbrev pub zero_ended : List ℕ → List ℕ
zero_ended text = text ++ 0 ∷ []

-- the byte is prepended to the first text, if there is one
abbrev pub with_first : ℕ → List (List ℕ) → List (List ℕ)
with_first b [] = []
with_first b (text ∷ others) = (b ∷ text) ∷ others

-- the texts that a zero byte ends, from the left
abbrev pub texts : List ℕ → List (List ℕ)
texts [] = []
texts (b ∷ bytes) = if b == 0 then [] ∷ texts bytes else with_first b (texts bytes)

-- the byte and the rest, if no text ends after it
abbrev pub unended_with : ℕ → List ℕ → List (List ℕ) → List ℕ
unended_with b rest [] = b ∷ rest
unended_with b rest (text ∷ others) = rest

-- the bytes after the last zero byte
abbrev pub unended : List ℕ → List ℕ
unended [] = []
unended (b ∷ bytes) = if b == 0 then unended bytes else unended_with b (unended bytes) (texts bytes)
