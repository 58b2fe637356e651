-- The lemmas that are the law.
use Rattle.std.proofs.Common.{rules}
use Rattle.tftp_file.proofs.CutLemmas.{pieces_join, whole_taken, refused_at}
use Rattle.tftp_file.proofs.laws.any_cut.Goals as goal

pub returns-clause-joined : goal.returns-clause-joined
returns-clause-joined c = search (rules, pieces_join, whole_taken)

pub returns-clause-refused : goal.returns-clause-refused
returns-clause-refused c = refused_at
