-- The lemmas that are the law.
use Rattle.tftp_client.proofs.Silent.{times_out_alone, waits_for_each_sending}
use Rattle.tftp_client.proofs.laws.a_client_alone_times_out.Goals as goal

pub returns-clause-waits : goal.returns-clause-waits
returns-clause-waits g c = waits_for_each_sending g.S.Source.meaning g.K.Sink.meaning

pub returns-clause-outcome : goal.returns-clause-outcome
returns-clause-outcome g c = times_out_alone g.S.Source.meaning g.K.Sink.meaning
