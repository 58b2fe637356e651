-- The lemma that is the law.
use Rattle.tftp_words.proofs.SharedWitness.{they_share}
use Rattle.tftp_words.proofs.laws.some_puts_share_a_folder.Goals as goal

pub returns : goal.returns
returns c = they_share
