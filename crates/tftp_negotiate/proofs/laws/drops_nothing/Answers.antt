-- The lemmas that are the law.
use Rattle.tftp_negotiate.proofs.KeptLemmas.{answers_what_is_known, too_large_for_writes, takes_what_was_asked}
use Rattle.tftp_negotiate.proofs.laws.drops_nothing.Goals as goal

pub returns-clause-answered : goal.returns-clause-answered
returns-clause-answered c = answers_what_is_known

pub returns-clause-too_large : goal.returns-clause-too_large
returns-clause-too_large c = too_large_for_writes

pub returns-clause-taken : goal.returns-clause-taken
returns-clause-taken c = takes_what_was_asked
