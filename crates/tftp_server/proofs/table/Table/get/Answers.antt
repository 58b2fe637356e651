-- The value in the slot that the index names is the identifier's.
use Rattle.std.proofs.Common.{rules}
use Rattle.tftp_server.proofs.TableLemmas.{joined-lookup, joined-absent}
use Rattle.tftp_server.proofs.table.Table.get.Goals as goal

pub returns-in-Some : goal.returns-in-Some
returns-in-Some g c = search (rules, joined-lookup)

pub returns-in-None : goal.returns-in-None
returns-in-None g c = search (rules, joined-absent)
