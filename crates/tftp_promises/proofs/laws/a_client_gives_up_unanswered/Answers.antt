-- The lemmas that are the law.
use Rattle.tftp_promises.proofs.GivingUp.{clients_seen, clients_time_out_so, transfers_give_up_unanswered}
use Rattle.tftp_promises.proofs.laws.a_client_gives_up_unanswered.Goals as goal

pub returns-clause-clients : goal.returns-clause-clients
returns-clause-clients g c = clients_seen _ _ _ _

pub returns-clause-all : goal.returns-clause-all
returns-clause-all g c = clients_time_out_so _ _ _ _

pub returns-clause-transfers : goal.returns-clause-transfers
returns-clause-transfers g c = transfers_give_up_unanswered _ _ _ _
