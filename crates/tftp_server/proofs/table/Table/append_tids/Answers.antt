-- The keys of the index are the identifiers.
use Rattle.std.proofs.Common.{rules}
use Rattle.tftp_server.proofs.TableLemmas.{joined-keys, joined-length}
use Rattle.tftp_server.proofs.table.Table.append_tids.Goals as goal

pub returns-clause-ok : goal.returns-clause-ok
returns-clause-ok g c = search (rules, joined-keys)

pub returns-clause-why : goal.returns-clause-why
returns-clause-why g c = search (rules, joined-length)
