-- A source that does not give DATA 1 cannot start.
use Rattle.tftp_ends.proofs.Common.{rules}
use Rattle.tftp_ends.proofs.end.End.serve_source.Goals as goal

pub returns-then-is_empty-clause-source : goal.returns-then-is_empty-clause-source
returns-then-is_empty-clause-source g c = λ fault. (search rules, c.send_first.ensures.source fault)
