use Rattle.std.proofs.Common.{ℕ, List, refl, subst}
use Rattle.std.specs.Fmt.{HasWritten}
use Rattle.tftp_status.proofs.Texts.{then_text}
use Rattle.tftp_status.proofs.status_text.FixedDisplay.fmt.Goals as goal

pub returns-clause-writes : goal.returns-clause-writes
returns-clause-writes g c plain ok =
    subst (λ (bytes : List ℕ). HasWritten {W = g.row.W.Denot} g.W.Write.write_str_gives c.args.f.now bytes
    c.write.new.self)
    (then_text c.gauge-limit.ensures (then_text c.gauge-start.ensures
    (then_text c.gauge-time.ensures refl)))
    (c.write.ensures.writes plain ok)
