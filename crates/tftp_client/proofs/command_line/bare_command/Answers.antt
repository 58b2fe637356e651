-- Setting by setting.
use Rattle.std.proofs.Common.{rules}
use Rattle.tftp_client.proofs.command_line.bare_command.Goals as goal

pub returns : goal.returns
returns c = search rules
