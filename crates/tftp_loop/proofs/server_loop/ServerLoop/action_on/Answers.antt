-- Without answers the search takes seconds.
use Rattle.std.proofs.Common.{rules}
use Rattle.tftp_loop.proofs.server_loop.ServerLoop.action_on.Goals as goal

pub returns-then-not-may_open : goal.returns-then-not-may_open
returns-then-not-may_open g c = search rules

pub returns-in_default : goal.returns-in_default
returns-in_default g c = search rules

pub returns : goal.returns
returns g c = search rules
