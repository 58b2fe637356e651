-- What is escaped has no byte that XML would read as markup.
use Rattle.std.proofs.Common.{◌≡◌, ℕ, ◌==◌, ◌&&◌, not, Bool, true, false, if◌then◌else◌, List, [], ◌∷◌, codes, refl, ap}
use Rattle.std.proofs.Common.{◌∙◌}
use Rattle.std.specs.List.{list_all}
use Rattle.std.proofs.lemmas.List.Folds.{list_all-append}
use Rattle.tftp_diagram.specs.Escape.{is_visible, escaped_byte, escaped, is_text_byte}

-- both hold
both : (p q : Bool) → p ≡ true → q ≡ true → (p && q) ≡ true
both true q e h = h
both false q e h = e

-- whichever of the tests holds
chosen_is_text :
    (lt gt amp quot visible : Bool) (b : ℕ) → is_text_byte b ≡ (visible && not lt && not gt && not quot)
    → list_all is_text_byte
    (if lt then codes "&lt;" else if gt then codes "&gt;" else if amp then codes "&amp;" else if quot then codes
    "&quot;"
    else if visible then b ∷ [] else codes "?") ≡ true
chosen_is_text true gt amp quot visible b e = refl
chosen_is_text false true amp quot visible b e = refl
chosen_is_text false false true quot visible b e = refl
chosen_is_text false false false true visible b e = refl
chosen_is_text false false false false true b e = both (is_text_byte b) true e refl
chosen_is_text false false false false false b e = refl

-- a byte
byte_is_text : (b : ℕ) → list_all is_text_byte (escaped_byte b) ≡ true
byte_is_text b = chosen_is_text (b == 60) (b == 62) (b == 38) (b == 34) (is_visible b) b refl

-- a text
pub escaped_is_text : (text : List ℕ) → list_all is_text_byte (escaped text) ≡ true
escaped_is_text [] = refl
escaped_is_text (b ∷ text) =
    list_all-append is_text_byte (escaped_byte b) (escaped text)
    ∙ both (list_all is_text_byte (escaped_byte b)) (list_all is_text_byte (escaped text)) (byte_is_text b)
    (escaped_is_text text)
