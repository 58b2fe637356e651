-- A text that begins a wire text has no wrong byte.
use Rattle.tftp_ends.proofs.TextLemmas.{refused_for_memory}
use Rattle.tftp_ends.proofs.end.storing.decode_into.Goals as goal

pub unreachable-requires : goal.unreachable-requires
unreachable-requires c = refused_for_memory _ _ c.requires c.in_default.not-Memory c.in-Err.ensures.refused
