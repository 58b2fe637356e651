use Rattle.tftp_loop.proofs.Common.{map, timer_of, woken_if}
use Rattle.std.proofs.Common.{rules}
use Rattle.std.proofs.lemmas.List.{with_items_is, places}
use Rattle.tftp_loop.proofs.Waits.{timers_woken}
use Rattle.tftp_loop.proofs.server_loop.ServerLoop.mark.Goals as goal

pub returns-clause-transfers : goal.returns-clause-transfers
returns-clause-transfers g c = search (rules, with_items_is, places, map, timer_of, woken_if, timers_woken)
