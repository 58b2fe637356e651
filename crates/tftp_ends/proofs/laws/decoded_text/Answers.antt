-- The lemmas that are the law.
use Rattle.tftp_ends.proofs.TextLemmas.{decoded_begins, decoded_ends}
use Rattle.tftp_ends.proofs.laws.decoded_text.Goals as goal

pub returns-clause-begins : goal.returns-clause-begins
returns-clause-begins c = decoded_begins

pub returns-clause-ends : goal.returns-clause-ends
returns-clause-ends c = decoded_ends
