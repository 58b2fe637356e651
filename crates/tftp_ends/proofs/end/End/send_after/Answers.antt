-- A whole block is sent, and a source that changed ends the transfer.
use Rattle.tftp_ends.proofs.Common.{◌≡◌, Some, ap, rules, terms_of}
use Rattle.tftp_ends.proofs.Sending.{sent_whole, sent_error}
use Rattle.tftp_ends.proofs.end.End.send_after.Goals as goal

pub returns-in-Whole-clause-sends : goal.returns-in-Whole-clause-sends
returns-in-Whole-clause-sends g c =
    let reads =
    rw (c.block_length-want.ensures, c.in-Whole.is) at c.in_ok-read_data.ensures.reads in
    rw (← c.self.view_is)
    (sent_whole _ _ _ _ _ _ _ c.read_data.new.last_sent.items reads _ _ (search rules) (search rules))

pub returns-in-Changed-clause-sends : goal.returns-in-Changed-clause-sends
returns-in-Changed-clause-sends g c =
    let reads =
    rw (c.block_length-want.ensures, c.in-Changed.is) at c.in_ok-read_data.ensures.reads in
    let known : terms_of c.args.self.now.position.phase ≡ Some c.args.next.terms = ap terms_of c.requires.phase in
    rw (← c.self.view_is)
    (sent_error _ _ _ _ _ _ _ c.read_data.new.last_sent.items reads _ _ (search (rules, known)) (search rules))
