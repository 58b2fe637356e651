use Rattle.std.proofs.Common.{rules}
use Rattle.std.proofs.lemmas.Grind.{put_two}
use Rattle.tftp_status.specs.StatusText.{outcomes_text}
use Rattle.tftp_status.proofs.Texts.{then_text}
use Rattle.tftp_status.proofs.status_text.OutcomesDisplay.fmt.Goals as goal

pub returns-clause-writes : goal.returns-clause-writes
returns-clause-writes g c plain ok =
    let all = c.args.self.now in
    let first = c.write.ensures.writes plain (search rules) in
    let second = c.write-2.ensures.writes first.plain ok in
    put_two g.W.Write.write_str_gives c.args.f.now c.write.new.self c.write-2.new.self _ _
    (outcomes_text all.way.now all.labels all.counts) first second
    (then_text
    (then_text c.outcome-complete.ensures (then_text c.outcome-timed_out.ensures
    (then_text c.outcome-peer_error.ensures (then_text c.outcome-illegal.ensures
    c.outcome-refused.ensures))))
    (then_text c.outcome-too_large.ensures (then_text c.outcome-store_fault.ensures
    (then_text c.outcome-source_fault.ensures c.outcome-not_netascii.ensures))))
