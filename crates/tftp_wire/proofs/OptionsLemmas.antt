-- Bytes that begin with an option. For `OptionsIterIterator::next`.
use Rattle.std.proofs.Common.{ℕ, ◌≡◌, refl, List, [], ◌∷◌, ◌++◌, rules}
use Rattle.std.proofs.lemmas.List.{append_assoc, append_cancel_left}
use Rattle.tftp_wire.specs.Texts.{IsText, zero_ended}
use Rattle.tftp_wire.specs.Options.{options_in, AreOptions}
use Rattle.tftp_wire.proofs.TextsLemmas.{texts_first, texts_none}

-- a name alone is no option
pub options_name : (bytes name after : List ℕ) → IsText name × (bytes ≡ zero_ended name ++ after) → IsText after
    → options_in bytes ≡ []
options_name bytes name after n h = rw (n.1, texts_first name after n.0, texts_none after h) refl

-- the first option, and those after it
pub options_first : (bytes name after value rest : List ℕ) → IsText name × (bytes ≡ zero_ended name ++ after)
    → IsText value × (after ≡ zero_ended value ++ rest)
    → options_in bytes ≡ record { name = name; value = value } ∷ options_in rest
options_first bytes name after value rest n v = search (rules, texts_first)

-- the bytes after the first option are options
pub options_rest : (bytes name after value rest : List ℕ) → IsText name × (bytes ≡ zero_ended name ++ after)
    → IsText value × (after ≡ zero_ended value ++ rest) → AreOptions bytes → AreOptions rest
options_rest bytes name after value rest n v o =
    search (rules, options_first, append_assoc, append_cancel_left)
