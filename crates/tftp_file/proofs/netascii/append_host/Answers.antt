-- A text that begins a wire text has no wrong byte.
use Rattle.tftp_file.proofs.DecodingLemmas.{begins_or_wrong, wrong_taken}
use Rattle.tftp_file.proofs.netascii.append_host.Goals as goal

pub returns-in_default-2 : goal.returns-in_default-2
returns-in_default-2 c =
    let i = c.loop-byte.invariant.taken in
    let wrong = rw c.in_default.is at c.split_pair.ensures.wrong in
    absurd (begins_or_wrong c.args.text.now c.in_default.field-0 c.requires.begins
    (wrong_taken c.args.text.now c.loop-byte.left.now c.split_run.result.0.now c.split_run.result.1.now i.0
    c.in_default.field-0 i.1 c.split_run.ensures.parts c.split_run.ensures.unescaped wrong))
