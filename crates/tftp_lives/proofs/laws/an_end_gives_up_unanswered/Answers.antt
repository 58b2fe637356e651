-- The lemmas that are the law.
use Rattle.tftp_lives.proofs.Answering.{ends_answer}
use Rattle.tftp_lives.proofs.Unanswered.{give_up_unanswered, give_up_unheard}
use Rattle.tftp_lives.proofs.laws.an_end_gives_up_unanswered.Goals as goal

pub returns-clause-unanswered : goal.returns-clause-unanswered
returns-clause-unanswered g c = give_up_unanswered _ _ _ _

pub returns-clause-unheard : goal.returns-clause-unheard
returns-clause-unheard g c = give_up_unheard _ _

pub returns-clause-answers : goal.returns-clause-answers
returns-clause-answers g c = ends_answer _ _
