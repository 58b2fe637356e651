-- The lemmas that are the law.
use Rattle.tftp_loop.proofs.BackoffLemmas.{closes_after_doubling, closes_after_intervals}
use Rattle.tftp_loop.proofs.Expiring.{closes_over_age, closes_without_progress, times_out_in_silence}
use Rattle.tftp_loop.proofs.laws.a_server_closes_what_makes_no_progress.Goals as goal

pub returns-clause-closes : goal.returns-clause-closes
returns-clause-closes g c = closes_without_progress g.T.Store.meaning g.T.Source.Source.meaning

pub returns-clause-silent : goal.returns-clause-silent
returns-clause-silent g c = times_out_in_silence g.T.Store.meaning g.T.Source.Source.meaning

pub returns-clause-over_age : goal.returns-clause-over_age
returns-clause-over_age g c = closes_over_age g.T.Store.meaning g.T.Source.Source.meaning

pub returns-clause-intervals : goal.returns-clause-intervals
returns-clause-intervals g c = closes_after_intervals

pub returns-clause-doubling : goal.returns-clause-doubling
returns-clause-doubling g c = closes_after_doubling
