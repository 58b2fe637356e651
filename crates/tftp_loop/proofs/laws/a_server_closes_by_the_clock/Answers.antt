-- The lemmas that are the law.
use Rattle.tftp_loop.proofs.ByTheClock.{closes_by_the_clock, closes_over_age_by_the_clock, passes_with_the_clock}
use Rattle.tftp_loop.proofs.ByTheClock.{times_out_by_the_clock}
use Rattle.tftp_loop.proofs.laws.a_server_closes_by_the_clock.Goals as goal

pub returns-clause-closes : goal.returns-clause-closes
returns-clause-closes g c = closes_by_the_clock g.T.Store.meaning g.T.Source.Source.meaning

pub returns-clause-silent : goal.returns-clause-silent
returns-clause-silent g c = times_out_by_the_clock g.T.Store.meaning g.T.Source.Source.meaning

pub returns-clause-over_age : goal.returns-clause-over_age
returns-clause-over_age g c = closes_over_age_by_the_clock g.T.Store.meaning g.T.Source.Source.meaning

pub returns-clause-passes : goal.returns-clause-passes
returns-clause-passes g c = passes_with_the_clock g.T.Store.meaning g.T.Source.Source.meaning
