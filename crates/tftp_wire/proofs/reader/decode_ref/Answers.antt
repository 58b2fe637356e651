-- The bytes spell the packet that `packet_in` computes.
use Rattle.std.proofs.Common.{arith}
use Rattle.tftp_wire.proofs.SpellingLemmas.{found_spells, only_spelled}
use Rattle.tftp_wire.proofs.reader.decode_ref.Goals as goal

pub returns-clause-found : goal.returns-clause-found
returns-clause-found c = found_spells _ _ (λ i. omega (arith, c.type_inv.bytes i)) c.read_packet.ensures

pub returns-clause-only : goal.returns-clause-only
returns-clause-only c p s = only_spelled _ _ p s c.read_packet.ensures
