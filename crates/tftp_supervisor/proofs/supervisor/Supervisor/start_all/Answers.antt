-- One server after another is started.
use Rattle.std.proofs.Common.{ap, rules}
use Rattle.tftp_supervisor.specs.ProcessEvent.{started_in}
use Rattle.tftp_supervisor.proofs.Following.{always_starting}
use Rattle.tftp_supervisor.proofs.Starting.{are_all, are_first, first_of_same, one_more}
use Rattle.tftp_supervisor.proofs.supervisor.Supervisor.start_all.Goals as goal

pub loop-line-init : goal.loop-line-init
loop-line-init g c = record { starting = c.requires.starting; started = ap started_in c.requires.nothing }

pub returns-in_err-start-clause-started : goal.returns-in_err-start-clause-started
returns-in_err-start-clause-started g c = search (rules, first_of_same, are_first)

pub returns-in_err-start-clause-always : goal.returns-in_err-start-clause-always
returns-in_err-start-clause-always g c = search (rules, always_starting)

pub loop-line-preserved : goal.loop-line-preserved
loop-line-preserved g c = search (rules, one_more)

pub returns-clause-all : goal.returns-clause-all
returns-clause-all g c = search (rules, are_all)

pub returns-clause-started : goal.returns-clause-started
returns-clause-started g c = search (rules, are_first)

pub returns-clause-always : goal.returns-clause-always
returns-clause-always g c = search (rules, always_starting)
