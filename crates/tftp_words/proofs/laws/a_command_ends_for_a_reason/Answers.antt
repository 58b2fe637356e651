-- The lemmas that are the law.
use Rattle.tftp_words.proofs.Common.{HoldsOfEach}
use Rattle.tftp_promises.specs.Explained.{EachIsExplained}
use Rattle.tftp_words.proofs.WordsMade.{one_holds, several_hold}
use Rattle.tftp_words.proofs.laws.a_command_ends_for_a_reason.Goals as goal

pub returns-clause-one : goal.returns-clause-one
returns-clause-one g c =
    one_holds c.a_server_is_one_run.ensures c.a_client_is_one_run.ensures.programs EachIsExplained
    c.a_client_ends_for_a_reason.ensures.one c.programs_keep_promises.ensures.alone

pub returns-clause-several : goal.returns-clause-several
returns-clause-several g c =
    several_hold c.a_server_is_one_run.ensures c.a_client_is_one_run.ensures.programs (HoldsOfEach EachIsExplained)
    c.a_client_ends_for_a_reason.ensures.several
