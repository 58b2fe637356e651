-- The lemmas that are the law.
use Rattle.tftp_promises.proofs.EachAlone.{each_joined, each_takes_one, of_each, programs_keep_any}
use Rattle.tftp_promises.proofs.PassedOver.{others_nothing}
use Rattle.tftp_promises.proofs.laws.each_client_keeps_promises.Goals as goal

pub returns-clause-joined : goal.returns-clause-joined
returns-clause-joined g c = each_joined _ _ _ _

pub returns-clause-any_files : goal.returns-clause-any_files
returns-clause-any_files g c = of_each _ _ _ _ (programs_keep_any _ _ _ _)

pub returns-clause-passed_over : goal.returns-clause-passed_over
returns-clause-passed_over g c = others_nothing _ _ _ _

pub returns-clause-takes_one : goal.returns-clause-takes_one
returns-clause-takes_one g c = each_takes_one _ _ _ _
