-- The status of the configuration that the command line has is that of what was reported.
use Rattle.std.proofs.Common.{sym}
use Rattle.tftp_daemon.proofs.ConfiguredLemmas.{with_status}
use Rattle.tftp_daemon.proofs.program.serve_command_line.Goals as goal

pub returns-in-Run-clause-runs : goal.returns-in-Run-clause-runs
returns-in-Run-clause-runs g c =
    rw (c.in-Run.is) (with_status (sym c.report.ensures) c.serve-served.ensures.runs)

pub returns-in-Run-clause-several : goal.returns-in-Run-clause-several
returns-in-Run-clause-several g c = rw (c.in-Run.is, c.report.ensures) c.serve-served.ensures.several

pub returns-in-Run-clause-reports : goal.returns-in-Run-clause-reports
returns-in-Run-clause-reports g c = rw (c.in-Run.is) c.serve-served.ensures.reports
