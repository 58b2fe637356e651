-- Reading ahead below does not change the source above it.
use Rattle.tftp_store.proofs.FaultLemmas.{reads_ahead}
use Rattle.tftp_store.proofs.fault_store.OpenedSourceSource.read_ahead.Goals as goal

pub returns-clause-ahead : goal.returns-clause-ahead
returns-clause-ahead g c =
    rw (← c.self.view_is) (reads_ahead g.F.Source.meaning _ _ c.read_ahead.ensures.ahead c.self.inside.fails)
