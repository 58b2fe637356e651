-- The job of the subcommand's matches.
use Rattle.std.proofs.Common.{rules}
use Rattle.tftp_client.proofs.Commands.{by_rows, names_by, subcommand_met}
use Rattle.tftp_client.proofs.command_line.read_matches.Goals as goal

pub returns-in-Some-job_of-clause-names : goal.returns-in-Some-job_of-clause-names
returns-in-Some-job_of-clause-names g c = search (rules, subcommand_met, names_by, by_rows)
