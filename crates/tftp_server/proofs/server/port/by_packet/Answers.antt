-- A request that is no repeat is decided by its name.
use Rattle.std.proofs.Common.{rules}
use Rattle.tftp_server.proofs.RequestLemmas.{acts_by_name}
use Rattle.tftp_server.proofs.server.port.by_packet.Goals as goal

pub returns-else-is_repeated-clause-asks : goal.returns-else-is_repeated-clause-asks
returns-else-is_repeated-clause-asks c = search rules

pub returns-else-is_repeated-clause-acts : goal.returns-else-is_repeated-clause-acts
returns-else-is_repeated-clause-acts c = search (rules, acts_by_name)

pub returns-else-is_repeated-clause-why : goal.returns-else-is_repeated-clause-why
returns-else-is_repeated-clause-why c = search rules
