-- The lemmas that are the law.
use Rattle.tftp_ends.proofs.ReceiverRowLemmas.{last_data_is_acked_again, dally_ignores_others, dally_ignores_malformed}
use Rattle.tftp_ends.proofs.ReceiverRowLemmas.{newest_data_is_acked_again, old_data_is_nothing, early_data_is_illegal}
use Rattle.tftp_ends.proofs.ReceiverRowLemmas.{long_data_is_illegal, blocks_run_out, next_data_is_stored}
use Rattle.tftp_ends.proofs.ReceiverRowLemmas.{error_closes_receiver, oack_is_acked_again, late_oack_is_nothing}
use Rattle.tftp_ends.proofs.ReceiverRowLemmas.{receiver_refuses_others, receiver_refuses_malformed}
use Rattle.tftp_ends.proofs.laws.receiver_rows.Goals as goal

pub returns-clause-dally_last : goal.returns-clause-dally_last
returns-clause-dally_last g c = last_data_is_acked_again g.S.Source.meaning g.K.Sink.meaning

pub returns-clause-dally_others : goal.returns-clause-dally_others
returns-clause-dally_others g c = dally_ignores_others g.S.Source.meaning g.K.Sink.meaning

pub returns-clause-dally_malformed : goal.returns-clause-dally_malformed
returns-clause-dally_malformed g c = dally_ignores_malformed g.S.Source.meaning g.K.Sink.meaning

pub returns-clause-newest_data : goal.returns-clause-newest_data
returns-clause-newest_data g c = newest_data_is_acked_again g.S.Source.meaning g.K.Sink.meaning

pub returns-clause-old_data : goal.returns-clause-old_data
returns-clause-old_data g c = old_data_is_nothing g.S.Source.meaning g.K.Sink.meaning

pub returns-clause-early_data : goal.returns-clause-early_data
returns-clause-early_data g c = early_data_is_illegal g.S.Source.meaning g.K.Sink.meaning

pub returns-clause-long_data : goal.returns-clause-long_data
returns-clause-long_data g c = long_data_is_illegal g.S.Source.meaning g.K.Sink.meaning

pub returns-clause-last_number : goal.returns-clause-last_number
returns-clause-last_number g c = blocks_run_out g.S.Source.meaning g.K.Sink.meaning

pub returns-clause-next_data : goal.returns-clause-next_data
returns-clause-next_data g c = next_data_is_stored g.S.Source.meaning g.K.Sink.meaning

pub returns-clause-error : goal.returns-clause-error
returns-clause-error g c = error_closes_receiver g.S.Source.meaning g.K.Sink.meaning

pub returns-clause-oack : goal.returns-clause-oack
returns-clause-oack g c = oack_is_acked_again g.S.Source.meaning g.K.Sink.meaning

pub returns-clause-late_oack : goal.returns-clause-late_oack
returns-clause-late_oack g c = late_oack_is_nothing g.S.Source.meaning g.K.Sink.meaning

pub returns-clause-others : goal.returns-clause-others
returns-clause-others g c = receiver_refuses_others g.S.Source.meaning g.K.Sink.meaning

pub returns-clause-malformed : goal.returns-clause-malformed
returns-clause-malformed g c = receiver_refuses_malformed g.S.Source.meaning g.K.Sink.meaning
