-- The bytes spell the copy, and copying fails only when out of memory.
use Rattle.std.proofs.Common.{rules}
use Rattle.tftp_wire.proofs.SpellingLemmas.{copied_only, copied_fault}
use Rattle.tftp_wire.proofs.owned.decode.Goals as goal

pub returns-in_err-decode_ref-clause-only : goal.returns-in_err-decode_ref-clause-only
returns-in_err-decode_ref-clause-only c p s = absurd (c.in_err-decode_ref.ensures.only p s)

pub returns-clause-only : goal.returns-clause-only
returns-clause-only c p s =
    copied_only _ _ p c.to_packet.ensures.ok c.to_packet.ensures.err (c.in_ok-decode_ref.ensures.only p s)

pub returns-clause-fault : goal.returns-clause-fault
returns-clause-fault c = search (rules, copied_fault)
