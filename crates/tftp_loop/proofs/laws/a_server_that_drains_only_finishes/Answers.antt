-- The lemmas that are the law.
use Rattle.tftp_loop.proofs.Draining.{drains_by_a_signal, only_finishes}
use Rattle.tftp_loop.proofs.laws.a_server_that_drains_only_finishes.Goals as goal

pub returns-clause-finishes : goal.returns-clause-finishes
returns-clause-finishes g c = only_finishes g.T.Store.meaning g.T.Source.Source.meaning

pub returns-clause-signal : goal.returns-clause-signal
returns-clause-signal g c = drains_by_a_signal g.T.Store.meaning g.T.Source.Source.meaning
