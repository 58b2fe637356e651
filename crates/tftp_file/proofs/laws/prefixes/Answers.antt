-- The lemmas that are the law.
use Rattle.tftp_file.proofs.PrefixLemmas.{host_begins, wire_begins}
use Rattle.tftp_file.proofs.laws.prefixes.Goals as goal

pub returns : goal.returns
returns c = λ mode xs ys. (wire_begins mode xs ys, host_begins mode xs ys)
