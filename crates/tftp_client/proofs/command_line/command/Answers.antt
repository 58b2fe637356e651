-- Subcommand by subcommand.
use Rattle.tftp_client.proofs.Commands.{subcommand_added, subcommand_added_last}
use Rattle.tftp_client.proofs.command_line.command.Goals as goal

pub returns : goal.returns
returns c =
    let get = subcommand_added c.in_ok-command.ensures c.in_ok-get_command.ensures c.in_ok-command-2.ensures in
    subcommand_added_last c.subcommand-2.result get c.in_ok-put_command.ensures c.subcommand-2.ensures
