-- So far a part of the line is read.
use Rattle.std.proofs.Common.{◌≡◌, ◌≤◌, vec_len, vec_items}
use Rattle.tftp_show.specs.Lines.{AppendsPart}
use Rattle.tftp_show.proofs.show.lines.read_line.Given as goal

abbrev pub invariant-loop : goal.invariant-loop
invariant-loop g l =
    (l.start ≡ vec_len l.initial.line) × (l.start ≤ vec_len l.line)
    × AppendsPart (g.R.Read.remaining l.initial.input) (g.R.Read.remaining l.input) (vec_items l.initial.line)
    (vec_items l.line)
