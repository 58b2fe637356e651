-- Text in a picture, as in XML (XML 1.0, sections 2.2, 2.4 and 4.6).
use Rattle.std.specs.Prelude.{ℕ, ◌==◌, ◌&&◌, not, nat_lt, Bool, if◌then◌else◌, List, [], ◌∷◌, codes}
use Rattle.std.specs.List.{flat_map}

-- a space, or visible ASCII
abbrev pub is_visible : ℕ → Bool
is_visible b = nat_lt 31 b && nat_lt b 127

-- a byte as a letter: a question mark for what is not visible
abbrev pub ascii_byte : ℕ → ℕ
ascii_byte b = if is_visible b then b else 63

-- a byte of text: `&lt;` for `<`, and so on; a question mark for what is not visible
abbrev pub escaped_byte : ℕ → List ℕ
escaped_byte b =
    if b == 60 then codes "&lt;"
    else if b == 62 then codes "&gt;"
    else if b == 38 then codes "&amp;"
    else if b == 34 then codes "&quot;"
    else if is_visible b then b ∷ [] else codes "?"

-- a text
abbrev pub escaped : List ℕ → List ℕ
escaped text = flat_map escaped_byte text

-- a byte that ends neither an element's text nor the value of an attribute: visible, and not `<`,
-- `>` or `"`
abbrev pub is_text_byte : ℕ → Bool
is_text_byte b = is_visible b && not (b == 60) && not (b == 62) && not (b == 34)
