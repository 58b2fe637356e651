-- A whole block is sent, and a source that changed ends the transfer.
use Rattle.tftp_ends.proofs.Common.{rules}
use Rattle.tftp_ends.proofs.Sending.{sent_whole, sent_error}
use Rattle.tftp_ends.proofs.end.End.send.Goals as goal

pub returns-in-Whole-clause-sends : goal.returns-in-Whole-clause-sends
returns-in-Whole-clause-sends g c =
    let reads =
    rw (c.block_length-want.ensures, c.in-Whole.is) at c.in_ok-read_data.ensures.reads in
    rw (← c.self.view_is)
    (sent_whole _ _ _ _ _ _ _ c.read_data.new.last_sent.items reads _ _ (search rules) (search rules))

pub returns-in-Changed-clause-sends : goal.returns-in-Changed-clause-sends
returns-in-Changed-clause-sends g c =
    let reads =
    rw (c.block_length-want.ensures, c.in-Changed.is) at c.in_ok-read_data.ensures.reads in
    rw (← c.self.view_is)
    (sent_error _ _ _ _ _ _ _ c.read_data.new.last_sent.items reads _ _ (search rules) (search rules))
