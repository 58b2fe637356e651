-- A readable piece begins a wire text.
use Rattle.std.proofs.Common.{rules}
use Rattle.tftp_ends.proofs.TextLemmas.{readable_begins}
use Rattle.tftp_ends.proofs.end.storing.store_piece.Goals as goal

pub decode_into-requires : goal.decode_into-requires
decode_into-requires g c = search (rules, readable_begins)
