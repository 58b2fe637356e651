-- The lemmas that are the law.
use Rattle.tftp_ends.proofs.WaitingRowLemmas.{first_data_is_stored, oack_opens_reader, reader_takes_no_other}
use Rattle.tftp_ends.proofs.WaitingRowLemmas.{first_ack_begins, oack_opens_writer, writer_takes_no_other}
use Rattle.tftp_ends.proofs.WaitingRowLemmas.{error_closes_waiting, malformed_closes_waiting}
use Rattle.tftp_ends.proofs.laws.waiting_rows.Goals as goal

pub returns-clause-first_data : goal.returns-clause-first_data
returns-clause-first_data g c = first_data_is_stored g.S.Source.meaning g.K.Sink.meaning

pub returns-clause-reader_oack : goal.returns-clause-reader_oack
returns-clause-reader_oack g c = oack_opens_reader g.S.Source.meaning g.K.Sink.meaning

pub returns-clause-reader_others : goal.returns-clause-reader_others
returns-clause-reader_others g c = reader_takes_no_other g.S.Source.meaning g.K.Sink.meaning

pub returns-clause-first_ack : goal.returns-clause-first_ack
returns-clause-first_ack g c = first_ack_begins g.S.Source.meaning g.K.Sink.meaning

pub returns-clause-writer_oack : goal.returns-clause-writer_oack
returns-clause-writer_oack g c = oack_opens_writer g.S.Source.meaning g.K.Sink.meaning

pub returns-clause-writer_others : goal.returns-clause-writer_others
returns-clause-writer_others g c = writer_takes_no_other g.S.Source.meaning g.K.Sink.meaning

pub returns-clause-error : goal.returns-clause-error
returns-clause-error g c = error_closes_waiting g.S.Source.meaning g.K.Sink.meaning

pub returns-clause-malformed : goal.returns-clause-malformed
returns-clause-malformed g c = malformed_closes_waiting g.S.Source.meaning g.K.Sink.meaning
