-- The end that is held is the one that is reported.
use Rattle.tftp_c.proofs.HoldingLemmas.{first_sent, opened_held}
use Rattle.tftp_c.proofs.holding.open.Goals as goal

pub report_at-requires : goal.report_at-requires
report_at-requires c = opened_held _ _ _ _ _ (c.hold-fault.ensures.ok (search c.if-fault-eq0.true))

pub returns-then-fault-eq0-clause-sent : goal.returns-then-fault-eq0-clause-sent
returns-then-fault-eq0-clause-sent c = λ held.
    first_sent c.args.tid c.args.from.now c.endpoint.result c.args.request.now c.args.end c.args.server.now
    c.hold-fault.new.server c.opening_step-step.result c.report_at.new.reply c.report_at.new.event
    (c.hold-fault.ensures.ok held) c.endpoint.ensures c.opening_step-step.ensures
    c.report_at.ensures.sends c.report_at.ensures.reports c.report_at.ensures.progress c.report_at.ensures.waits
    (rw (c.report_at.auto.reply) (c.fits.ensures.0 c.if-not-fits.false))
