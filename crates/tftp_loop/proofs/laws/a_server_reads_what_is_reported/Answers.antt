-- The lemma that is the law.
use Rattle.tftp_loop.proofs.Reporting.{reads_what_is_reported}
use Rattle.tftp_loop.proofs.laws.a_server_reads_what_is_reported.Goals as goal

pub returns : goal.returns
returns g c = reads_what_is_reported g.T.Store.meaning g.T.Source.Source.meaning
