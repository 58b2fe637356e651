-- The fill moves the bytes read in place.
use Rattle.std.proofs.lemmas.Grind.{common_steps}
use Rattle.std.proofs.Common.{arith}
use Rattle.std.proofs.lemmas.List.{with_items_is, places}
use Rattle.tftp_file.proofs.Streaming.{fills_at_end, front_kept, cut_at}
use Rattle.tftp_file.proofs.stream.fill_octet.Goals as goal

pub returns-clause-fills : goal.returns-clause-fills
returns-clause-fills g c = grind (arith, common_steps, fills_at_end, places, front_kept, cut_at, with_items_is) steps
    1000000
