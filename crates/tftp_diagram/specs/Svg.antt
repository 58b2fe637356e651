-- The text of a picture.
use Rattle.std.specs.Prelude.{ℕ, ◌≡◌, List, ◌++◌, codes}

-- an element `svg`, from its first byte to its last
abbrev pub IsSvg : List ℕ → Type 0
IsSvg text =
    (content : List ℕ)
    × (text ≡ codes "<svg xmlns=\"http://www.w3.org/2000/svg\" " ++ (content ++ codes "</svg>\n"))
