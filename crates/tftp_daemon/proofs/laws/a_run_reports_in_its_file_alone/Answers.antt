-- Its report is that of its configuration.
use Rattle.tftp_daemon.proofs.Reporting.{reports_alone}
use Rattle.tftp_daemon.proofs.laws.a_run_reports_in_its_file_alone.Goals as goal

pub returns : goal.returns
returns c = reports_alone
