-- Its store refuses writes, and stays within its limits.
use Rattle.tftp_daemon.proofs.WithinLimits as within
use Rattle.tftp_daemon.proofs.laws.a_read_only_run_changes_nothing.Goals as goal

pub returns : goal.returns
returns g c =
    within.read_only_changes_nothing _ _ _ c.a_run_stays_within_its_limits.ensures
    c.read_only_changes_nothing.ensures
