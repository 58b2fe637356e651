-- The lemma that is the law.
use Rattle.tftp_words.proofs.WitnessSeveral.{some_meet_all}
use Rattle.tftp_words.proofs.laws.some_commands_meet_all_premises.Goals as goal

pub returns : goal.returns
returns c = some_meet_all
