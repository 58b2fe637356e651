-- The lemmas that are the law.
use Rattle.tftp_words.proofs.NamedPuts.{puts_are_named, puts_name_their_files}
use Rattle.tftp_words.proofs.OneHasTheName.{one_has_it}
use Rattle.tftp_words.proofs.laws.one_put_has_the_name.Goals as goal

pub returns-clause-named : goal.returns-clause-named
returns-clause-named g = puts_are_named

pub returns-clause-files : goal.returns-clause-files
returns-clause-files g = puts_name_their_files

pub returns-clause-one : goal.returns-clause-one
returns-clause-one g = one_has_it
