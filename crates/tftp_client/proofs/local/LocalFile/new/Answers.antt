-- Nothing is made yet.
use Rattle.tftp_client.proofs.TriedOnce.{untried_left}
use Rattle.tftp_client.proofs.local.LocalFile.new.Goals as goal

pub invariant_of-result-clause-left : goal.invariant_of-result-clause-left
invariant_of-result-clause-left g c open_file = untried_left c.new.result c.new.ensures.untried
