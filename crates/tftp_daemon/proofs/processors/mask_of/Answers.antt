-- Each line is the next one, and the first with a mask is the one.
use Rattle.std.proofs.Common.{◌∙◌, sym, length, arith}
use Rattle.std.proofs.lemmas.Iterator.Consumers.{YieldsList-end, YieldsList-turn}
use Rattle.std.proofs.lemmas.Iterator.Splits.{YieldsList-from_lines}
use Rattle.std.proofs.lemmas.List.{at_drop_all, length_push}
use Rattle.std.specs.Str.Lines.{lines}
use Rattle.tftp_daemon.specs.Processors.{mask_in}
use Rattle.tftp_daemon.proofs.ProcessorCounts.{mask_here, mask_later}
use Rattle.tftp_daemon.proofs.processors.mask_of.Goals as goal

pub returns-in-Some-mask_behind : goal.returns-in-Some-mask_behind
returns-in-Some-mask_behind c =
    let at = YieldsList-turn (YieldsList-from_lines c.args.status.now cc) c.loop-line.yielded _ c.loop-line.yielded_by _ _ c.in-Some.line
    c.in-Some.is c.next.ensures.steps in
    mask_here (lines c.args.status.now) (length c.loop-line.yielded) c.in-Some.line.now c.in-Some-mask_behind.mask.now at
    c.in-Some-mask_behind.ensures c.loop-line.invariant

pub loop-line-preserved : goal.loop-line-preserved
loop-line-preserved c =
    let at = YieldsList-turn (YieldsList-from_lines c.args.status.now cc) c.loop-line.yielded _ c.loop-line.yielded_by _ _ c.in-Some.line
    c.in-Some.is c.next.ensures.steps in
    rw (length_push c.loop-line.yielded c.in-Some.line)
    (mask_later (lines c.args.status.now) (length c.loop-line.yielded) c.in-Some.line.now at c.in_default.ensures
    c.loop-line.invariant)

pub returns : goal.returns
returns c =
    let all = YieldsList-end (YieldsList-from_lines c.args.status.now cc) c.loop-line.yielded _ c.loop-line.yielded_by _ _
    c.in-None.is c.next.ensures.steps in
    sym (at_drop_all mask_in (lines c.args.status.now) (length c.loop-line.yielded) (omega (arith, all.1)))
    ∙ c.loop-line.invariant
