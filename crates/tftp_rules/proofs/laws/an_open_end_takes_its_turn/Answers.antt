-- The lemmas that are the law.
use Rattle.tftp_rules.proofs.EndTurns.{datagram_goes, timeout_goes}
use Rattle.tftp_rules.proofs.laws.an_open_end_takes_its_turn.Goals as goal

pub returns-clause-datagrams : goal.returns-clause-datagrams
returns-clause-datagrams g = datagram_goes

pub returns-clause-timeouts : goal.returns-clause-timeouts
returns-clause-timeouts g = timeout_goes
