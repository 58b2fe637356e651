-- Texts behind one another.
use Rattle.std.proofs.Common.{◌≡◌, ◌∙◌, ℕ, List, ◌++◌, ap}

-- two equal texts, one behind the other
pub then_text : {a b c d : List ℕ} → a ≡ b → c ≡ d → a ++ c ≡ b ++ d
then_text {a} {b} {c} {d} first second =
    ap (λ (text : List ℕ). text ++ c) first ∙ ap (λ (text : List ℕ). b ++ text) second
