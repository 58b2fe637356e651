-- The lemmas that are the law.
use Rattle.tftp_loop.proofs.Counting.{counted_along, few_along}
use Rattle.tftp_loop.proofs.PortCounts.{few_at_a_port}
use Rattle.tftp_loop.proofs.laws.a_server_receives_few_between_waits.Goals as goal

pub returns-clause-counts : goal.returns-clause-counts
returns-clause-counts g c = counted_along g.T.Store.meaning g.T.Source.Source.meaning

pub returns-clause-few : goal.returns-clause-few
returns-clause-few g c = few_along g.T.Store.meaning g.T.Source.Source.meaning

pub returns-clause-trace : goal.returns-clause-trace
returns-clause-trace g c = few_at_a_port g.T.Store.meaning g.T.Source.Source.meaning
