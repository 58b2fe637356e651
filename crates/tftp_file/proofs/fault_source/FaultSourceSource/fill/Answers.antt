-- The bytes from the source in memory are the first of the text left.
use Rattle.tftp_file.proofs.FrontLemmas.{moved_front}
use Rattle.tftp_file.proofs.fault_source.FaultSourceSource.fill.Goals as goal

pub returns-clause-fills : goal.returns-clause-fills
returns-clause-fills c =
    rw (← c.self.view_is) (moved_front _ _ _ _ _ _ _ _ c.self.invariant c.min-count.ensures c.in_ok-given.ensures.fills)
