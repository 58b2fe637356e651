-- Without the reserved entry, index and slots are as before.
use Rattle.std.proofs.Common.{rules}
use Rattle.tftp_server.proofs.TableLemmas.{joined-kept, removes_inserted}
use Rattle.tftp_server.proofs.table.Spot.give_up.Goals as goal

pub invariant_of-result : goal.invariant_of-result
invariant_of-result g c = search (rules, removes_inserted)

pub returns : goal.returns
returns g c held spot = search (rules, removes_inserted, joined-kept)
