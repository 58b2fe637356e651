-- Setting by setting.
use Rattle.std.proofs.Common.{rules}
use Rattle.tftp_daemon.proofs.options.bare_command.Goals as goal

pub returns : goal.returns
returns c = search rules
