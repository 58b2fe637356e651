-- The lemmas that are the law.
use Rattle.tftp_words.proofs.Common.{KeepAnyFiles}
use Rattle.tftp_words.proofs.EndToEndMade.{several_move, words_move}
use Rattle.tftp_words.proofs.WordsMade.{one_holds, several_hold}
use Rattle.tftp_words.proofs.laws.words_keep_promises.Goals as goal

pub returns-clause-one : goal.returns-clause-one
returns-clause-one g c =
    one_holds c.a_server_is_one_run.ensures c.a_client_is_one_run.ensures.programs KeepAnyFiles
    c.programs_keep_promises.ensures.any_files c.programs_keep_promises.ensures.alone

pub returns-clause-files : goal.returns-clause-files
returns-clause-files g c = words_move (returns-clause-one g c)

pub returns-clause-several : goal.returns-clause-several
returns-clause-several g c =
    several_hold c.a_server_is_one_run.ensures c.a_client_is_one_run.ensures.programs _ (λ several order. (
      c.each_client_keeps_promises.ensures.any_files several order,
      λ i server k client at found over.
          (c.each_client_keeps_promises.ensures.passed_over several order i server k client at found over).1,
    ))

pub returns-clause-several_files : goal.returns-clause-several_files
returns-clause-several_files g c = several_move (returns-clause-several g c)
