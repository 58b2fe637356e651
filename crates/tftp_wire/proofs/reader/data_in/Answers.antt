-- What is read of a datagram with the opcode of DATA is the block that its bytes spell.
use Rattle.std.proofs.Common.{arith, ◌∙◌, subst, sym, Bor, IfOk, List, ℕ, Result}
use Rattle.tftp_wire.specs.declared.fault.PacketFault.{PacketFault}
use Rattle.tftp_wire.specs.declared.packet.Packet.TheVariants.{Data}
use Rattle.tftp_wire.specs.Spelling.{Spells}
use Rattle.tftp_wire.proofs.SpellingLemmas.{block_found, opcode_of_data}
use Rattle.tftp_wire.proofs.reader.data_in.Goals as goal

pub returns-in-Ok-clause-found : goal.returns-in-Ok-clause-found
returns-in-Ok-clause-found c =
    let begun = opcode_of_data _ (sym c.begins_as_data.ensures ∙ c.if-not-begins_as_data.false) in
    let found = block_found _ _ (λ i. omega (arith, c.type_inv.bytes i)) begun.0 begun.1 c.read_block.ensures
    in
    subst (λ (r : Result (ℕ × Bor (List ℕ)) PacketFault). IfOk r (λ d. Spells (Data d.0 d.1.now) c.args.bytes.now))
    c.in-Ok.is found
