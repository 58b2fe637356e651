-- A source that did not give DATA 1 cannot start, and has the bytes left that the fill left.
use Rattle.tftp_ends.proofs.Sending.{fails_to_start}
use Rattle.tftp_ends.proofs.end.End.send_first.Goals as goal

pub returns-in-Changed-clause-source : goal.returns-in-Changed-clause-source
returns-in-Changed-clause-source g c = λ _.
    let reads = rw (c.block_length-want.ensures, c.in-Changed.is) at c.in_ok-read_data.ensures.reads in
    fails_to_start g.S.Source.meaning c.args.role.length _ _ _ _ reads
