-- The lemmas that are the law.
use Rattle.tftp_client.proofs.Witness.{some_sent, some_stored}
use Rattle.tftp_client.proofs.laws.some_transfers_are_complete.Goals as goal

pub returns-clause-stored : goal.returns-clause-stored
returns-clause-stored c = some_stored

pub returns-clause-sent : goal.returns-clause-sent
returns-clause-sent c = some_sent
