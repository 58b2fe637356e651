-- A server ran, or a supervisor of several; or there is no configuration and nothing was done.
use Rattle.std.proofs.Common.{map}
use Rattle.tftp_daemon.proofs.ConfiguredLemmas.{serves_words}
use Rattle.tftp_daemon.proofs.Reporting.{none_reported, reports_words}
use Rattle.tftp_daemon.proofs.Supervising.{supervises_words}
use Rattle.tftp_daemon.proofs.program.tftpd_on.Goals as goal

pub returns-in-Ok-read_words-clause-runs : goal.returns-in-Ok-read_words-clause-runs
returns-in-Ok-read_words-clause-runs g c =
    serves_words (map g.S.AsStr.text c.args.words.now) c.in-Ok-read_words.line c.in-Ok-read_words.ensures.names c.in-Ok-read_words.ensures.text
    c.serve_command_line.ensures.runs c.serve_command_line.ensures.none c.serve_command_line.ensures.same

pub returns-in-Ok-read_words-clause-several : goal.returns-in-Ok-read_words-clause-several
returns-in-Ok-read_words-clause-several g c =
    supervises_words (map g.S.AsStr.text c.args.words.now) c.in-Ok-read_words.line c.in-Ok-read_words.ensures.names c.in-Ok-read_words.ensures.text
    c.serve_command_line.ensures.several c.serve_command_line.ensures.same

pub returns-in-Ok-read_words-clause-reports : goal.returns-in-Ok-read_words-clause-reports
returns-in-Ok-read_words-clause-reports g c =
    reports_words (map g.S.AsStr.text c.args.words.now) c.in-Ok-read_words.line c.serve_command_line.result.1.reporting.report
    (λ report. report.status) c.in-Ok-read_words.ensures.names c.serve_command_line.ensures.reports
    c.serve_command_line.ensures.unreported

pub returns-in_default-clause-reports : goal.returns-in_default-clause-reports
returns-in_default-clause-reports g c = none_reported _ _ c.into_devices.ensures.none

pub returns-in-Err-clause-reports : goal.returns-in-Err-clause-reports
returns-in-Err-clause-reports g c = none_reported _ _ c.into_devices-in-Err.ensures.none
