-- The lemmas that are the law.
use Rattle.tftp_file.proofs.DecodingLemmas.{begins_or_wrong}
use Rattle.tftp_file.proofs.CutLemmas.{either, begins_front, once, wrong_once}
use Rattle.tftp_file.proofs.laws.one_reading.Goals as goal

pub returns-clause-either : goal.returns-clause-either
returns-clause-either c = either

pub returns-clause-apart : goal.returns-clause-apart
returns-clause-apart c = λ text at fault b w. begins_or_wrong text fault b (at, w)

pub returns-clause-front : goal.returns-clause-front
returns-clause-front c = begins_front

pub returns-clause-decoded_once : goal.returns-clause-decoded_once
returns-clause-decoded_once c = once

pub returns-clause-wrong_once : goal.returns-clause-wrong_once
returns-clause-wrong_once c = wrong_once
