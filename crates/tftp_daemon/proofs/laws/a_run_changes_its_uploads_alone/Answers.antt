-- Its drafts and their places are in the folder that takes all writes.
use Rattle.tftp_daemon.proofs.WithinLimits.{uploads_change_below}
use Rattle.tftp_daemon.proofs.laws.a_run_changes_its_uploads_alone.Goals as goal

pub returns : goal.returns
returns g c = uploads_change_below _ _ _ c.a_run_stays_within_its_limits.ensures
