-- An end that opens holds nothing back.
use Rattle.std.proofs.Common.{rules}
use Rattle.tftp_ends.proofs.end.End.opened.Goals as goal

pub invariant_of-result : goal.invariant_of-result
invariant_of-result c = search rules
