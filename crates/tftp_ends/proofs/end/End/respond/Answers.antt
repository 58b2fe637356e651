-- The report of a response is that of its turn.
use Rattle.tftp_ends.proofs.Common.{rules}
use Rattle.tftp_ends.proofs.end.End.respond.Goals as goal

pub returns-clause-step : goal.returns-clause-step
returns-clause-step c = search rules
