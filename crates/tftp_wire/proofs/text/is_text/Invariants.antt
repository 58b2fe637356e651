-- The bytes are a text exactly if those from the index on are.
use Rattle.std.proofs.Common.{drop}
use Rattle.std.specs.Prelude.{◌↔◌}
use Rattle.tftp_wire.specs.Texts.{IsText}
use Rattle.tftp_wire.proofs.text.is_text.Given as goal

abbrev pub invariant-loop-byte : goal.invariant-loop-byte
invariant-loop-byte l = IsText (drop l.byte-index l.bytes) ↔ IsText l.bytes
