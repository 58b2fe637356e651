-- An empty path, and a lack of memory, are found first.
use Rattle.tftp_client.proofs.Common.{arith, ◌≡◌, ℕ, List, [], ◌∷◌, length, refl, sym, ◌∙◌}
use Rattle.std.proofs.Common.{eqb-true}
use Rattle.tftp_client.specs.Place.FindsNone.{HasNoMemory, IsEmpty}
use Rattle.tftp_client.proofs.part_file.Place.of.Goals as goal

has_none : (text : List ℕ) → length text ≡ 0 → text ≡ []
has_none [] none = refl
has_none (byte ∷ text) none = absurd (omega (arith, none))

pub returns-then-is_empty-clause-refused : goal.returns-then-is_empty-clause-refused
returns-then-is_empty-clause-refused g c =
    IsEmpty (has_none _ (eqb-true (length c.args.local.now) 0 (sym c.is_empty.ensures ∙ c.if-is_empty.true)))

pub returns-in-Err-clause-refused : goal.returns-in-Err-clause-refused
returns-in-Err-clause-refused g c = HasNoMemory c.from.ensures
