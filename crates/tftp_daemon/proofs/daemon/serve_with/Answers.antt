-- The device is made of what the configuration says, and its reports go on.
use Rattle.tftp_daemon.proofs.Reporting.{all_reported, reports_on}
use Rattle.tftp_daemon.proofs.daemon.serve_with.Goals as goal

pub returns-clause-runs : goal.returns-clause-runs
returns-clause-runs g c =
    rw (c.into_devices.ensures.net, ← c.new-device.ensures.net) c.serve_folder-result.ensures.runs

pub returns-clause-reports : goal.returns-clause-reports
returns-clause-reports g c =
    let report = c.new-device.result.reporting.report in
    rw (c.into_devices.ensures.reporting)
    (reports_on c.args.config.now report c.serve_folder-result.new.device.reporting.report (λ report. report.status)
    c.serve_folder-result.ensures.file c.keeps_counts.ensures
    (all_reported c.args.config.now c.args.setup.reports report (λ settings. settings.paths) (λ report. report.status)
    c.new-device.ensures.begun c.requires.file c.new-device.ensures.file))
