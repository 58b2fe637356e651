-- An identifier is in the table exactly if it is in the index.
use Rattle.std.proofs.Common.{rules}
use Rattle.tftp_server.proofs.TableLemmas.{joined-has}
use Rattle.tftp_server.proofs.table.Table.contains.Goals as goal

pub returns : goal.returns
returns g c = search (rules, joined-has)
