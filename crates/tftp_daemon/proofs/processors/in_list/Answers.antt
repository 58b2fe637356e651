-- Each range is the next one.
use Rattle.std.proofs.Common.{◌∙◌, ℕ, Bor, List, ap, sym, map, min, sum_by, lit<}
use Rattle.std.proofs.lemmas.Iterator.Consumers.{YieldsList-at, YieldsList-end}
use Rattle.std.proofs.lemmas.Iterator.Splits.{YieldsList-from_str_split}
use Rattle.std.proofs.lemmas.List.{map_push}
use Rattle.tftp_daemon.specs.Processors.{in_range}
use Rattle.tftp_daemon.proofs.ProcessorCounts.{sum_capped}
use Rattle.tftp_daemon.proofs.processors.in_list.Goals as goal

pub loop-range-preserved : goal.loop-range-preserved
loop-range-preserved c =
    let now = λ (range : Bor (List ℕ)). range.now in
    c.saturating_add-count.ensures
    ∙ (sum_capped in_range (map now c.loop-range.yielded) c.in-Some.range.now c.loop-range.count c.in_range.result
    c.loop-range.invariant c.in_range.ensures
    ∙ ap (λ (ranges : List (List ℕ)). min (sum_by in_range ranges) 255) (sym (map_push now c.loop-range.yielded c.in-Some.range)))

pub returns : goal.returns
returns c =
    let given = c.split-range-items.ensures in
    let parts = YieldsList-from_str_split 44 c.trim.result.now (lit< tt) given.text given.has_more given.pattern in
    let all = YieldsList-end (YieldsList-at c.into_iter-range-iterator.ensures.into_iter_gives parts) c.loop-range.yielded _
    c.loop-range.yielded_by _ _ c.in-None.is c.next.ensures.steps in
    rw (← c.trim.ensures.trim, ← all.0) c.loop-range.invariant
