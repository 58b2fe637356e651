-- What the device is made of is no event.
use Rattle.tftp_daemon.proofs.ConfiguredLemmas.{from_same}
use Rattle.tftp_daemon.proofs.daemon.serve_alone.Goals as goal

pub returns-in-Ok-clause-runs : goal.returns-in-Ok-clause-runs
returns-in-Ok-clause-runs g c = from_same c.setup_of.ensures.log c.serve_with.ensures.runs
