-- The lemmas that are the law.
use Rattle.tftp_words.proofs.SharedDraftsLemmas.{held_is_left, names_their_own}
use Rattle.tftp_words.proofs.laws.no_put_takes_anothers_file.Goals as goal

pub returns-clause-held : goal.returns-clause-held
returns-clause-held c = held_is_left c.drafts_are_taken_by_their_holders.ensures

pub returns-clause-named : goal.returns-clause-named
returns-clause-named c = names_their_own c.drafts_are_taken_by_their_holders.ensures
