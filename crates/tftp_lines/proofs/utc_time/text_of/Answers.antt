use Rattle.std.proofs.Common.{ap, ◌∙◌}
use Rattle.jiff_core.specs.declared.timestamp.Timestamp.{Timestamp}
use Rattle.tftp_lines.proofs.UtcTexts.{utc_text}
use Rattle.tftp_lines.proofs.utc_time.text_of.Goals as goal

pub returns : goal.returns
returns c =
    utc_text c.args._millis c.new.result c.precision-printer.result c.to_plain.result _ c.new.ensures
    c.precision-printer.ensures (ap (λ (t : Timestamp). t.nanosecond) c.to_plain.ensures ∙ c.requires)
    c.timestamp_text.ensures
