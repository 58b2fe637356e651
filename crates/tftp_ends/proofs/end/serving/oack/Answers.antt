-- An OACK has at most three options.
use Rattle.std.proofs.Common.{rules as std_rules}
use Rattle.tftp_ends.proofs.end.serving.oack.Goals as goal

pub returns-clause-short : goal.returns-clause-short
returns-clause-short c = search std_rules
