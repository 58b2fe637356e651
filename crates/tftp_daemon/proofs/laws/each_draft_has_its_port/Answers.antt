-- A draft is begun with the name of the port that its store is set to, and keeps it.
use Rattle.tftp_daemon.proofs.OwnDrafts.{each_at_its_port, no_two_share}
use Rattle.tftp_daemon.proofs.laws.each_draft_has_its_port.Goals as goal

pub returns-clause-port : goal.returns-clause-port
returns-clause-port g c = each_at_its_port _ _

pub returns-clause-apart : goal.returns-clause-apart
returns-clause-apart g c = no_two_share _ _ (each_at_its_port _ _)
