-- The step that appends its answer is the one that lends it.
use Rattle.std.proofs.Common.{rules}
use Rattle.tftp_ends.proofs.end.End.on_timeout.Goals as goal

pub returns-clause-steps : goal.returns-clause-steps
returns-clause-steps c = search rules
