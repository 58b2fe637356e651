-- A range is split at its first dash.
use Rattle.std.proofs.Common.{None, Some, lit<}
use Rattle.std.proofs.lemmas.Str.Pattern.{split_once_first}
use Rattle.tftp_daemon.proofs.ProcessorCounts.{range_alone, range_split}
use Rattle.tftp_daemon.proofs.processors.in_range.Goals as goal

pub returns-in-Some : goal.returns-in-Some
returns-in-Some c =
    let at = split_once_first 45 c.args.range.now (Some (c.in-Some.first, c.in-Some.last)) c.in-Some.ensures.cases (lit< tt) in
    range_split c.args.range.now c.in-Some.first.now c.in-Some.last.now c.size_of.result at (cc)

pub returns-in-None : goal.returns-in-None
returns-in-None c =
    let at = split_once_first 45 c.args.range.now None c.in-None.ensures.cases (lit< tt) in
    range_alone c.args.range.now c.size_of-in-None.result at (cc)
