-- What is written and what is due for the bytes that are left is due for all.
use Rattle.tftp_show.proofs.ShowLemmas.{GoesOn}
use Rattle.tftp_show.proofs.show.show_lines.Given as goal

abbrev pub invariant-loop : goal.invariant-loop
invariant-loop g l =
    GoesOn (g.R.Read.remaining l.initial.input) (g.R.Read.remaining l.input) (g.W.Write.contents l.initial.output)
    (g.W.Write.contents l.output) l.packets
