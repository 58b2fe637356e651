-- The lemmas that are the law.
use Rattle.tftp_loop.proofs.Handling.{handles_before_it_sleeps, handles_by_the_next_wait, reads_the_request_port}
use Rattle.tftp_loop.proofs.laws.a_server_handles_before_it_sleeps.Goals as goal

pub returns-clause-reads : goal.returns-clause-reads
returns-clause-reads g c = reads_the_request_port g.T.Store.meaning g.T.Source.Source.meaning

pub returns-clause-handles : goal.returns-clause-handles
returns-clause-handles g c = handles_before_it_sleeps g.T.Store.meaning g.T.Source.Source.meaning

pub returns-clause-soon : goal.returns-clause-soon
returns-clause-soon g c = handles_by_the_next_wait g.T.Store.meaning g.T.Source.Source.meaning
