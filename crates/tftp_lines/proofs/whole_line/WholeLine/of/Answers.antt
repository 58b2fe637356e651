-- What the calls of the writer give.
use Rattle.tftp_lines.proofs.WholeLines.{line_of_calls}
use Rattle.tftp_lines.proofs.whole_line.WholeLine.of.Goals as goal

pub returns-in-Ok : goal.returns-in-Ok
returns-in-Ok g c =
    line_of_calls (g.D.Display.output c.args.value) c.new-text.result c.write.new.self c.into_line.result
    c.new-text.ensures c.in-Ok.ensures.writes c.into_line.ensures
