-- The lemmas that are the law.
use Rattle.tftp_promises.proofs.EachAlone.{of_each}
use Rattle.tftp_promises.proofs.UnblamedPrograms.{programs_unblamed}
use Rattle.tftp_promises.proofs.laws.no_program_is_blamed.Goals as goal

pub returns-clause-programs : goal.returns-clause-programs
returns-clause-programs g c = programs_unblamed _ _ _ _

pub returns-clause-several : goal.returns-clause-several
returns-clause-several g c = of_each _ _ _ _ (programs_unblamed _ _ _ _)
