-- A request is repeated under a key of the index exactly if it is in the table.
use Rattle.std.proofs.Common.{rules}
use Rattle.tftp_server.proofs.RepeatLemmas.{repeats_joined, joined_repeats}
use Rattle.tftp_server.proofs.table.Table+Transfer+F+D.is_repeated.Goals as goal

pub returns-in-Some : goal.returns-in-Some
returns-in-Some g c = search (rules, repeats_joined, joined_repeats)
