-- The lemmas that are the law.
use Rattle.tftp_ends.proofs.SharedRowLemmas.{wrong_peer_is_refused, error_of_wrong_peer_is_nothing}
use Rattle.tftp_ends.proofs.SharedRowLemmas.{malformed_error_closes_sender, malformed_error_closes_receiver}
use Rattle.tftp_ends.proofs.SharedRowLemmas.{malformed_error_closes_waiting, timeout_retransmits, last_timeout_closes}
use Rattle.tftp_ends.proofs.SharedRowLemmas.{first_dally_timeout_is_counted, second_dally_timeout_completes}
use Rattle.tftp_ends.proofs.laws.shared_rows.Goals as goal

pub returns-clause-wrong_peer : goal.returns-clause-wrong_peer
returns-clause-wrong_peer g c = wrong_peer_is_refused g.S.Source.meaning g.K.Sink.meaning

pub returns-clause-error_of_wrong_peer : goal.returns-clause-error_of_wrong_peer
returns-clause-error_of_wrong_peer g c = error_of_wrong_peer_is_nothing g.S.Source.meaning g.K.Sink.meaning

pub returns-clause-error_at_sender : goal.returns-clause-error_at_sender
returns-clause-error_at_sender g c = malformed_error_closes_sender g.S.Source.meaning g.K.Sink.meaning

pub returns-clause-error_at_receiver : goal.returns-clause-error_at_receiver
returns-clause-error_at_receiver g c = malformed_error_closes_receiver g.S.Source.meaning g.K.Sink.meaning

pub returns-clause-error_at_waiting : goal.returns-clause-error_at_waiting
returns-clause-error_at_waiting g c = malformed_error_closes_waiting g.S.Source.meaning g.K.Sink.meaning

pub returns-clause-timeout : goal.returns-clause-timeout
returns-clause-timeout g c = timeout_retransmits

pub returns-clause-last_timeout : goal.returns-clause-last_timeout
returns-clause-last_timeout g c = last_timeout_closes

pub returns-clause-first_dally : goal.returns-clause-first_dally
returns-clause-first_dally g c = first_dally_timeout_is_counted

pub returns-clause-second_dally : goal.returns-clause-second_dally
returns-clause-second_dally g c = second_dally_timeout_completes
