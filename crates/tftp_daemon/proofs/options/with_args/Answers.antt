use Rattle.tftp_arguments.proofs.Commands.{rules_added_last}
use Rattle.tftp_daemon.proofs.options.with_args.Goals as goal

pub returns-in-Ok : goal.returns-in-Ok
returns-in-Ok c app rules is have =
    rules_added_last c.args-in-Ok.result rules _ is (rw (c.in-Ok.is) at have) c.args-in-Ok.ensures
