-- The step that appends its answer is the one that lends it.
use Rattle.std.proofs.Common.{rules as std_rules}
use Rattle.tftp_ends.proofs.Appending.{file_is_answered, passed}
use Rattle.tftp_ends.proofs.end.End.on_datagram.Goals as goal

pub returns-in-Ok-clause-steps : goal.returns-in-Ok-clause-steps
returns-in-Ok-clause-steps g c = search std_rules

pub returns-in_err-reserve_answer-clause-why : goal.returns-in_err-reserve_answer-clause-why
returns-in_err-reserve_answer-clause-why g c = search std_rules

pub returns-in_err-reserve_answer-clause-err : goal.returns-in_err-reserve_answer-clause-err
returns-in_err-reserve_answer-clause-err g c = search std_rules

pub returns-in_err-reserve_answer-clause-same : goal.returns-in_err-reserve_answer-clause-same
returns-in_err-reserve_answer-clause-same g c = search std_rules

pub returns-in-Err-clause-memory : goal.returns-in-Err-clause-memory
returns-in-Err-clause-memory g c = search (std_rules, file_is_answered, passed)

pub returns-in-Err-clause-why : goal.returns-in-Err-clause-why
returns-in-Err-clause-why g c = search std_rules
