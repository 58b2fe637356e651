-- The transfer that is held is the server's new one.
use Rattle.std.proofs.Common.{rules}
use Rattle.tftp_server.proofs.server.Server.hold.Goals as goal

pub returns-in-Err-clause-in_use : goal.returns-in-Err-clause-in_use
returns-in-Err-clause-in_use g c = search rules

pub returns-in-Err-clause-no_such_tid : goal.returns-in-Err-clause-no_such_tid
returns-in-Err-clause-no_such_tid g c = search rules

pub returns-in-Err-clause-memory : goal.returns-in-Err-clause-memory
returns-in-Err-clause-memory g c = search rules

pub returns-in-Ok-clause-held : goal.returns-in-Ok-clause-held
returns-in-Ok-clause-held g c = search rules

pub returns-in-Ok-clause-in_use : goal.returns-in-Ok-clause-in_use
returns-in-Ok-clause-in_use g c = search rules

pub returns-in-Ok-clause-no_such_tid : goal.returns-in-Ok-clause-no_such_tid
returns-in-Ok-clause-no_such_tid g c = search rules

pub returns-in-Ok-clause-memory : goal.returns-in-Ok-clause-memory
returns-in-Ok-clause-memory g c = search rules

pub returns-in-Ok-clause-err : goal.returns-in-Ok-clause-err
returns-in-Ok-clause-err g c = search rules
