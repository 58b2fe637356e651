-- The buffered part of the line is appended and consumed, or the read is to be tried again.
use Rattle.std.proofs.Common.{subst}
use Rattle.std.specs.Io.BufRead.{FillKeeps}
use Rattle.std.proofs.BufReadLemmas.{Consumes_shown}
use Rattle.tftp_show.specs.Lines.{IsLinePart}
use Rattle.tftp_show.proofs.LinesLemmas.{part_read, unread}
use Rattle.tftp_show.proofs.show.lines.append_buffered.Goals as goal

pub returns-clause-reads : goal.returns-clause-reads
returns-clause-reads g c =
    let part : IsLinePart c.in-Ok.buffered.now c.line_part-count.result.0 c.line_part-count.result.1 =
    c.line_part-count.ensures in
    let rested = c.fill_buf.follows.lender-at-none in
    let filled =
    subst (FillKeeps _ (g.R.Read.remaining rested) (g.R.BufRead.consumable_len rested)) c.in-Ok.is
    c.fill_buf.follows.holds-at-none in
    let moved =
    Consumes_shown _ _ _ _ c.in-Ok.buffered.now _ part.within c.in-Ok.ensures.front c.in-Ok.ensures.end filled.0
    filled.1 c.consume.ensures.bytes in
    part_read _ _ _ _ _ c.in-Ok.buffered.now _ part c.in_ok-extend_from_slice.ensures.items moved.0 moved.1

pub returns-in-Err-clause-reads : goal.returns-in-Err-clause-reads
returns-in-Err-clause-reads g c =
    unread _ _ _ _ c.unless_interrupted.ensures.goes_on c.fill_buf.follows.holds-at-none.0
