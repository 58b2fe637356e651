use Rattle.tftp_loop.proofs.Common.{ap, take, MOST_AT_ONCE, Start}
use Rattle.tftp_loop.proofs.Receipts.{answered_asked, answered_few, answered_run, answered_settled}
use Rattle.tftp_loop.proofs.server_loop.ServerLoop.take_pending.Goals as goal

pub returns-in_default-clause-works : goal.returns-in_default-clause-works
returns-in_default-clause-works g c = Start

pub returns-clause-works : goal.returns-clause-works
returns-clause-works g c =
    answered_run g.S.Store.meaning g.S.Source.Source.meaning c.args.request.now (take c.min.result c.args.request.now)
    c.args.self.now c.carry_out.new.self _ _ c.in-Some.from c.in-Some.count
    c.in-Some.is (ap (λ n. take n c.args.request.now) c.min.ensures) c.carry_out.ensures.answers

pub returns-clause-settled : goal.returns-clause-settled
returns-clause-settled g c =
    λ settled.
    answered_settled g.S.Store.meaning g.S.Source.Source.meaning (take c.min.result c.args.request.now) c.args.self.now
    c.carry_out.new.self _ _ c.in-Some.from c.carry_out.ensures.answers settled

pub returns-clause-asked : goal.returns-clause-asked
returns-clause-asked g c =
    answered_asked g.S.Store.meaning g.S.Source.Source.meaning (take c.min.result c.args.request.now) c.args.self.now
    c.carry_out.new.self _ _ c.in-Some.from c.carry_out.ensures.answers

pub returns-clause-few : goal.returns-clause-few
returns-clause-few g c =
    λ few.
    answered_few g.S.Store.meaning g.S.Source.Source.meaning MOST_AT_ONCE (take c.min.result c.args.request.now)
    c.args.self.now c.carry_out.new.self _ _ c.in-Some.from c.carry_out.ensures.answers few
