-- The next byte is the first of the text left.
use Rattle.std.proofs.Common.{◌∙◌, sym, arith}
use Rattle.std.proofs.lemmas.Grind.{common_steps}
use Rattle.tftp_file.specs.Encoding.{netascii_left}
use Rattle.tftp_file.proofs.PieceLemmas.{one_more}
use Rattle.tftp_file.proofs.encoding.encode.Goals as goal

pub loop-count-preserved : goal.loop-count-preserved
loop-count-preserved c =
    let left = sym c.loop-count.invariant.rest ∙ c.in-Some.ensures.moves in
    let more = one_more c.loop-count.count (netascii_left c.args.held c.args.bytes.now) c.in-Some.byte _ left in
    grind (arith, common_steps)
