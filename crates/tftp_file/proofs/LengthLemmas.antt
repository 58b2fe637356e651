-- The length on the wire of a text that is read piece by piece. For `wire_length_up_to` and PrefixLemmas.
use Rattle.std.proofs.Common.{◌≡◌, ℕ, ◌+◌, List, ◌++◌, refl, length, Option, Some, None}
use Rattle.tftp_wire.specs.declared.mode.Mode.{Mode}
use Rattle.tftp_wire.specs.declared.mode.Mode.TheVariants.{Octet, Netascii}
use Rattle.tftp_file.specs.Netascii.{wire_text}
use Rattle.tftp_file.proofs.NetasciiLemmas.{netascii-append}

-- if a reader's bytes are known, those that it returned have this length on the wire
abbrev pub Leaves : Mode → Option (List ℕ) → Option (List ℕ) → ℕ → Type 0
Leaves mode None now total = Unit {0}
Leaves mode (Some all) None total = ⊥
Leaves mode (Some all) (Some left) total = length (wire_text mode all) ≡ total + length (wire_text mode left)

-- the wire text of two parts is that of the first and then that of the second
pub wire-append : (mode : Mode) (xs ys : List ℕ) → wire_text mode (xs ++ ys) ≡ wire_text mode xs ++ wire_text mode ys
wire-append Octet xs ys = refl
wire-append Netascii xs ys = netascii-append xs ys
