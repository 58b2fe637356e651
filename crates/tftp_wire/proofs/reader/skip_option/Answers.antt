-- After an option without a fault, the first fault is that of the rest.
use Rattle.std.proofs.Common.{rules}
use Rattle.std.proofs.lemmas.Bool.{eqb-false}
use Rattle.tftp_wire.proofs.ReadingLemmas.{option_skipped}
use Rattle.tftp_wire.proofs.reader.skip_option.Goals as goal

pub returns : goal.returns
returns c = search (rules, option_skipped, eqb-false)
