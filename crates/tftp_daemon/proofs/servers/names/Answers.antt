use Rattle.std.proofs.Common.{map, subst}
use Rattle.std.specs.String.{string_bytes}
use Rattle.tftp_daemon.specs.CommandLine.{IfRun}
use Rattle.tftp_daemon.specs.Words.{WordsConfigure}
use Rattle.tftp_daemon.specs.declared.command_line.CommandLine.{CommandLine}
use Rattle.tftp_daemon.proofs.servers.names.Goals as goal

pub returns-in-Ok-Run : goal.returns-in-Ok-Run
returns-in-Ok-Run g c is_server =
    record {
      own = c.in-Ok-Run.own;
      named = subst (λ (line : CommandLine). IfRun line (WordsConfigure (map (λ x. string_bytes x) c.args.words.now)))
          c.in-Ok-Run.field-0-is c.in-Ok-Run.ensures.names;
      is_server = c.is_server.ensures is_server;
    }
