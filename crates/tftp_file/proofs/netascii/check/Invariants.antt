-- The text so far is the wire text of some bytes.
use Rattle.std.proofs.Common.{◌≡◌, ◌++◌, ℕ, List, length}
use Rattle.tftp_file.specs.Netascii.{netascii_text}
use Rattle.tftp_file.proofs.netascii.check.Given as goal

abbrev pub invariant-loop-remaining : goal.invariant-loop-remaining
invariant-loop-remaining l = (bytes : List ℕ) × (l.text ≡ netascii_text bytes ++ l.left)

abbrev pub decreases-loop-remaining : goal.decreases-loop-remaining
decreases-loop-remaining l = length l.left
