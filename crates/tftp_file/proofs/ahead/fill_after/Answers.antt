-- The bytes of the source are after the held bytes.
use Rattle.std.proofs.Common.{rules}
use Rattle.tftp_file.proofs.AheadLemmas.{fills_after}
use Rattle.tftp_file.proofs.ahead.fill_after.Goals as goal

pub returns-in-Ok-fill-clause-ok : goal.returns-in-Ok-fill-clause-ok
returns-in-Ok-fill-clause-ok g c = search (rules, fills_after)
