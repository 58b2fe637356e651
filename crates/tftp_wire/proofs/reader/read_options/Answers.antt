-- Bytes whose options have no fault are options.
use Rattle.std.proofs.Common.{rules}
use Rattle.tftp_wire.proofs.ReadingLemmas.{options_fine, nothing_left}
use Rattle.tftp_wire.proofs.reader.read_options.Goals as goal

pub new-requires : goal.new-requires
new-requires c = search (rules, options_fine, nothing_left)
