-- Nothing was read since the start.
use Rattle.tftp_disk.specs.Measuring.{calls_on}
use Rattle.tftp_folder.proofs.SourceLemmas.{nothing_given}
use Rattle.tftp_folder.proofs.wire_lengths.WireLengths.netascii_length.Goals as goal

pub of-requires-clause-start : goal.of-requires-clause-start
of-requires-clause-start g c = nothing_given (calls_on c.args.file.now) c.requires.start
