-- Each call keeps them.
use Rattle.tftp_daemon.proofs.WithinLimits.{stays_within}
use Rattle.tftp_daemon.proofs.laws.a_run_stays_within_its_limits.Goals as goal

pub returns : goal.returns
returns g c = stays_within _ _ _ c.keeps_within_its_limits.ensures
