-- The status is that of the result of the loop.
use Rattle.tftp_daemon.proofs.ConfiguredLemmas.{serves_at}
use Rattle.tftp_daemon.proofs.daemon.serve_folder.Goals as goal

pub returns-in-Ok-clause-runs : goal.returns-in-Ok-clause-runs
returns-in-Ok-clause-runs g c =
    serves_at c.service_at-service.ensures c.requires.alone c.requires.at_one_address c.requires.listens c.in-Ok.ensures
    (record {
      result = c.serve.result;
      is_status = c.ended.ensures.same;
      serves = c.serve.ensures.runs;
    })
