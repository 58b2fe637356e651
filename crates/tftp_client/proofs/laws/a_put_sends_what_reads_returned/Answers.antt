-- The lemmas that are the law.
use Rattle.tftp_client.proofs.PutLaws.{sends_what_its_file_gave}
use Rattle.tftp_client.proofs.ReadFile.{sends_the_text_whole, sends_what_reads_returned}
use Rattle.tftp_client.proofs.laws.a_put_sends_what_reads_returned.Goals as goal

pub returns-clause-given : goal.returns-clause-given
returns-clause-given g c = sends_what_its_file_gave _ g.K.Sink.meaning

pub returns-clause-reads : goal.returns-clause-reads
returns-clause-reads g c = sends_what_reads_returned _ g.K.Sink.meaning c.gives_in_order.ensures

pub returns-clause-text : goal.returns-clause-text
returns-clause-text g c = sends_the_text_whole _ g.K.Sink.meaning c.gives_in_order.ensures
