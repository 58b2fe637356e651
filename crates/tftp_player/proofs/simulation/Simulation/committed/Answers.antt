-- Whether the end at the port has committed, if there is one.
use Rattle.tftp_player.proofs.Common.{rules}
use Rattle.tftp_player.proofs.HostEnds.{list_get}
use Rattle.tftp_player.proofs.PlayLemmas.{committed_here, committed_nowhere}
use Rattle.tftp_player.proofs.simulation.Simulation.committed.Goals as goal

pub returns-in-None : goal.returns-in-None
returns-in-None c =
    committed_nowhere c.self.inside.config c.self.inside.sent.items c.self.inside.ends.server
    c.self.inside.ends.players.items c.args.self.now c.self.view_is c.args.port c.in-None.ensures.none

pub returns-in-Some : goal.returns-in-Some
returns-in-Some c = search (rules, committed_here, list_get)
