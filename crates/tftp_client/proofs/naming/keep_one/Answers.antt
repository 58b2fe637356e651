-- The folder was not synced, and then the name was removed.
use Rattle.std.proofs.Common.{rules}
use Rattle.tftp_client.proofs.naming.keep_one.Goals as goal

pub returns-in-Err-clause-err : goal.returns-in-Err-clause-err
returns-in-Err-clause-err g c = search rules
