use Rattle.std.proofs.Common.{ℕ, List, ◌++◌, codes, ap, refl, subst}
use Rattle.std.specs.Fmt.{HasWritten}
use Rattle.tftp_status.specs.StatusText.{head_text}
use Rattle.tftp_status.specs.declared.status_text.Kind.TheVariants.{Counter}
use Rattle.tftp_status.proofs.Texts.{then_text}
use Rattle.tftp_status.proofs.status_text.AmountsDisplay.fmt.Goals as goal

pub returns-clause-writes : goal.returns-clause-writes
returns-clause-writes g c plain ok =
    subst (λ (bytes : List ℕ). HasWritten {W = g.row.W.Denot} g.W.Write.write_str_gives c.args.f.now bytes
    c.write.new.self)
    (ap (λ (bytes : List ℕ). head_text (codes "tftpd_bytes_total") Counter
    (codes "Bytes of DATA of closed transfers, each block once.") ++ bytes)
    (then_text c.direction-read.ensures (then_text c.direction-written.ensures refl)))
    (c.write.ensures.writes plain ok)
