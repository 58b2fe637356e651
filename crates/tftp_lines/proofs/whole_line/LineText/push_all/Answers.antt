-- A byte more.
use Rattle.std.proofs.Common.{◌≡◌, List, ℕ, get_or, subst, sym, take}
use Rattle.std.proofs.lemmas.List.{take_more}
use Rattle.tftp_lines.specs.WholeLine.{with_bytes}
use Rattle.tftp_lines.proofs.WholeLines.{pushes_more}
use Rattle.tftp_lines.proofs.whole_line.LineText.push_all.Goals as goal

pub loop-byte-preserved : goal.loop-byte-preserved
loop-byte-preserved c =
    subst (λ (taken : List ℕ). c.push.new.self ≡ with_bytes c.args.self.now taken)
    (sym (take_more c.args.bytes.now c.loop-byte.byte-index 0 c.loop-byte-test.true))
    (pushes_more (take c.loop-byte.byte-index c.args.bytes.now) c.args.self.now c.loop-byte.self c.push.new.self
    (get_or c.args.bytes.now c.loop-byte.byte-index 0) c.loop-byte.invariant c.push.ensures)
