use Rattle.std.proofs.Common.{rules}
use Rattle.tftp_loop.proofs.VisitLemmas.{serves_onward}
use Rattle.tftp_loop.proofs.port_visit.PortVisit.take_due.Goals as goal

pub returns-clause-serves : goal.returns-clause-serves
returns-clause-serves g c = search (rules, serves_onward)
