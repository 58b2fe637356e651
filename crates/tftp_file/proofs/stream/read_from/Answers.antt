-- One more read continues at the offset before it.
use Rattle.std.proofs.Common.{rules}
use Rattle.tftp_file.proofs.Reading.{read_more, front_stays}
use Rattle.tftp_file.proofs.stream.read_from.Goals as goal

pub loop-at-preserved : goal.loop-at-preserved
loop-at-preserved g c = search (rules, front_stays, read_more)
