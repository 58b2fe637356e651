-- The last part follows those before it, and a line without a byte is at the end.
use Rattle.std.proofs.Common.{arith, subst}
use Rattle.std.proofs.BufReadLemmas.{IsAtEnd-of_take_through}
use Rattle.tftp_show.specs.Lines.{ReadsLine}
use Rattle.tftp_show.proofs.LinesLemmas.{parts_end}
use Rattle.tftp_show.proofs.show.lines.read_line.Goals as goal

pub returns-then-branch-clause-end : goal.returns-then-branch-clause-end
returns-then-branch-clause-end g c =
    let part =
    subst (λ ends. ReadsLine ends (g.R.Read.remaining c.loop.input) (g.R.Read.remaining c.append_buffered.new.input)
    c.loop.line.items c.append_buffered.new.line.items) c.if-branch.true c.in_ok-append_buffered.ensures.reads in
    let line = parts_end _ _ _ _ _ _ c.loop.invariant.2 part in
    λ none. IsAtEnd-of_take_through 10 _ c.args.line.now.items c.append_buffered.new.line.items line.0
    (omega (
      arith,
      none,
      c.len.ensures,
      c.len-start.ensures,
      c.loop.invariant.0,
      c.loop.invariant.1,
      c.in_ok-append_buffered.ensures.grows,
      c.append_buffered.new.line.ok.0,
      c.args.line.now.ok.0,
    ))
