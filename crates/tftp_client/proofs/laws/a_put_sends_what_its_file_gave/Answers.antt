-- The lemmas that are the law.
use Rattle.tftp_client.proofs.PutLaws.{counts_what_it_sent, sends_what_its_file_gave}
use Rattle.tftp_client.proofs.laws.a_put_sends_what_its_file_gave.Goals as goal

pub returns-clause-given : goal.returns-clause-given
returns-clause-given g c = sends_what_its_file_gave g.S.Source.meaning g.K.Sink.meaning

pub returns-clause-counted : goal.returns-clause-counted
returns-clause-counted g c = counts_what_it_sent g.S.Source.meaning g.K.Sink.meaning
