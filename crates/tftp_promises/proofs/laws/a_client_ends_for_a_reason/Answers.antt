-- The lemmas that are the law.
use Rattle.tftp_promises.proofs.EachAlone.{of_each}
use Rattle.tftp_promises.proofs.Explaining.{programs_explained}
use Rattle.tftp_promises.proofs.laws.a_client_ends_for_a_reason.Goals as goal

pub returns-clause-one : goal.returns-clause-one
returns-clause-one g c = programs_explained _ _ _ _

pub returns-clause-several : goal.returns-clause-several
returns-clause-several g c = of_each _ _ _ _ (programs_explained _ _ _ _)
