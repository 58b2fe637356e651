-- A datagram at a client, or at a transfer, is one at its end.
use Rattle.tftp_player.proofs.Common.{rules}
use Rattle.tftp_player.proofs.PlayerLemmas.{client_takes, ended_as}
use Rattle.tftp_player.proofs.ServedLemmas.{served_takes, took_kept}
use Rattle.tftp_player.proofs.played_end.PlayedEnd.on_datagram.Goals as goal

pub returns-in-Client-clause-takes : goal.returns-in-Client-clause-takes
returns-in-Client-clause-takes c = search (rules, client_takes, ended_as)

pub returns-in-Server-clause-kept : goal.returns-in-Server-clause-kept
returns-in-Server-clause-kept c = search (rules, took_kept, ended_as)

pub returns-in-Server-clause-takes : goal.returns-in-Server-clause-takes
returns-in-Server-clause-takes c = search (rules, served_takes, ended_as)
