-- What is behind the last slash is the second part of a split there.
use Rattle.std.proofs.Common.{None, Some}
use Rattle.tftp_daemon.proofs.LastParts.{name_split}
use Rattle.tftp_daemon.proofs.status.name_in.Goals as goal

pub returns-in-Some : goal.returns-in-Some
returns-in-Some c = name_split c.args.path.now (Some (c.in-Some.field-0-0, c.in-Some.name)) c.in-Some.ensures.cases

pub returns-in-None : goal.returns-in-None
returns-in-None c = name_split c.args.path.now None c.in-None.ensures.cases
