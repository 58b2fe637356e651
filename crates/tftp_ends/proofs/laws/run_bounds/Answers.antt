-- The lemmas that are the law.
use Rattle.tftp_ends.proofs.RunLemmas.{progress_bound, timeout_bound, data_bound, answers, datagrams_bound}
use Rattle.tftp_ends.proofs.laws.run_bounds.Goals as goal

pub returns-clause-progress : goal.returns-clause-progress
returns-clause-progress g c = progress_bound g.S.Source.meaning g.K.Sink.meaning

pub returns-clause-timeouts : goal.returns-clause-timeouts
returns-clause-timeouts g c = timeout_bound g.S.Source.meaning g.K.Sink.meaning

pub returns-clause-sent : goal.returns-clause-sent
returns-clause-sent g c = data_bound g.S.Source.meaning g.K.Sink.meaning

pub returns-clause-answers : goal.returns-clause-answers
returns-clause-answers g c = answers g.S.Source.meaning g.K.Sink.meaning

pub returns-clause-datagrams : goal.returns-clause-datagrams
returns-clause-datagrams g c = datagrams_bound
