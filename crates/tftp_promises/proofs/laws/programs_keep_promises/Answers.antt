-- The lemmas that are the law.
use Rattle.tftp_promises.proofs.OthersTaken.{alone_joined}
use Rattle.tftp_promises.proofs.EachAlone.{programs_keep_any}
use Rattle.tftp_promises.proofs.laws.programs_keep_promises.Goals as goal

pub returns-clause-any_files : goal.returns-clause-any_files
returns-clause-any_files g c = programs_keep_any _ _ _ _

pub returns-clause-alone : goal.returns-clause-alone
returns-clause-alone g c = alone_joined _ _ _ _
