-- The lemmas that are the law.
use Rattle.tftp_wire.proofs.SpellingLemmas.{fault_where_nothing, spelled_has_no_fault}
use Rattle.tftp_wire.proofs.laws.fault_or_packet.Goals as goal

pub returns-clause-nothing : goal.returns-clause-nothing
returns-clause-nothing c = fault_where_nothing

pub returns-clause-spelled : goal.returns-clause-spelled
returns-clause-spelled c = spelled_has_no_fault
