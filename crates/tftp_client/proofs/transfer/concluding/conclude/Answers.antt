-- After its line the client returns, or dallies.
use Rattle.std.proofs.Common.{rules}
use Rattle.tftp_client.proofs.Common.{sym, state_of, Begins, printed}
use Rattle.tftp_client.specs.Runs.{line_by}
use Rattle.tftp_client.proofs.transfer.concluding.conclude.Goals as goal

pub returns-then-not-job-clause-goes : goal.returns-then-not-job-clause-goes
returns-then-not-job-clause-goes g c =
    record {
      last =
          printed (line_by c.print_complete-status.result c.args.count) (state_of c.args.conversation (g.N.Udp.log
          c.args.net.now));
      converses = Begins;
      events = sym c.print_complete-status.ensures.noted;
      over = search rules;
    }

pub returns-clause-goes : goal.returns-clause-goes
returns-clause-goes g c = search rules
