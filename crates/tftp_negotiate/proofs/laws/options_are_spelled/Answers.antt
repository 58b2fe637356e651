-- The lemmas that are the law.
use Rattle.tftp_negotiate.proofs.SpellingLemmas.{known_are_options, asked_are_options}
use Rattle.tftp_negotiate.proofs.laws.options_are_spelled.Goals as goal

pub returns-clause-known : goal.returns-clause-known
returns-clause-known c = known_are_options

pub returns-clause-asked : goal.returns-clause-asked
returns-clause-asked c = asked_are_options
