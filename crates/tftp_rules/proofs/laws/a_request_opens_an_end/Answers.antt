-- The lemmas that are the law.
use Rattle.tftp_rules.proofs.EndOpenings.{opens_to_send, opens_to_store}
use Rattle.tftp_rules.proofs.Granted.{answer_granted}
use Rattle.tftp_rules.proofs.laws.a_request_opens_an_end.Goals as goal

pub returns-clause-granted : goal.returns-clause-granted
returns-clause-granted g = answer_granted

pub returns-clause-reads : goal.returns-clause-reads
returns-clause-reads g = opens_to_send

pub returns-clause-writes : goal.returns-clause-writes
returns-clause-writes g = opens_to_store
