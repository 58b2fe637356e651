-- By what becomes of an existing file.
use Rattle.std.proofs.Common.{rules}
use Rattle.tftp_client.proofs.naming.put_name.Goals as goal

pub returns-in-Refused-clause-ok : goal.returns-in-Refused-clause-ok
returns-in-Refused-clause-ok g c = rw (c.in-Refused.is) c.name_new.ensures.ok

pub returns-in-Replaced-clause-ok : goal.returns-in-Replaced-clause-ok
returns-in-Replaced-clause-ok g c = search rules
