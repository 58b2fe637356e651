-- The lemmas that are the law.
use Rattle.tftp_client.proofs.ByTheClock.{passes_with_the_clock, times_out_by_the_clock}
use Rattle.tftp_client.proofs.Idling.{closes_by_the_clock, closes_without_progress}
use Rattle.tftp_client.proofs.laws.a_client_times_out_by_the_clock.Goals as goal

pub returns-clause-passes : goal.returns-clause-passes
returns-clause-passes g c = passes_with_the_clock g.S.Source.meaning g.K.Sink.meaning

pub returns-clause-outcome : goal.returns-clause-outcome
returns-clause-outcome g c = times_out_by_the_clock g.S.Source.meaning g.K.Sink.meaning

pub returns-clause-closes : goal.returns-clause-closes
returns-clause-closes g c = closes_by_the_clock g.S.Source.meaning g.K.Sink.meaning

pub returns-clause-idle : goal.returns-clause-idle
returns-clause-idle g c = closes_without_progress g.S.Source.meaning g.K.Sink.meaning
