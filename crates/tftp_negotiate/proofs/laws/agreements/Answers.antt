-- The lemmas that are the law.
use Rattle.tftp_negotiate.proofs.LawsLemmas.{answers_may_be_agreed, taken_may_be_agreed, agreements_are_short}
use Rattle.tftp_negotiate.proofs.LawsLemmas.{agreements_have_block_sizes}
use Rattle.tftp_negotiate.proofs.laws.agreements.Goals as goal

pub returns-clause-answered : goal.returns-clause-answered
returns-clause-answered c = answers_may_be_agreed

pub returns-clause-taken : goal.returns-clause-taken
returns-clause-taken c = taken_may_be_agreed

pub returns-clause-short : goal.returns-clause-short
returns-clause-short c = agreements_are_short

pub returns-clause-sized : goal.returns-clause-sized
returns-clause-sized c = agreements_have_block_sizes
