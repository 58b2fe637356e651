-- A piece is readable if the decoder accepts it.
use Rattle.std.proofs.Common.{rules}
use Rattle.tftp_ends.proofs.Common.{length, nat_lt}
use Rattle.tftp_ends.proofs.TextLemmas.{readable_more, readable_last, wrong_unreadable}
use Rattle.tftp_ends.proofs.receiver.is_readable.Goals as goal

pub returns-then-piece-from : goal.returns-then-piece-from
returns-then-piece-from c = search (rules, readable_more)

pub returns-else-piece-from : goal.returns-else-piece-from
returns-else-piece-from c = search (rules, readable_last)

pub returns-in-Err : goal.returns-in-Err
returns-in-Err c =
    rw c.in-Netascii.is
    (wrong_unreadable c.args.decoder c.args.piece.now
    (nat_lt (length c.args.piece.now) c.args.size) c.in-Err.field-0 c.in-Err.ensures.refused)
