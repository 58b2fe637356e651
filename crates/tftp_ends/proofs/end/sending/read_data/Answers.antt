-- A block with fewer bytes than requested is not whole.
use Rattle.std.proofs.Common.{rules as std_rules}
use Rattle.tftp_ends.proofs.end.sending.read_data.Goals as goal

pub returns-else-count-want-clause-reads : goal.returns-else-count-want-clause-reads
returns-else-count-want-clause-reads g c = search std_rules
