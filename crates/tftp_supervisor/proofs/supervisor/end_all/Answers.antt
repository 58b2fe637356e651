-- One server after another is ended.
use Rattle.std.proofs.Common.{rules}
use Rattle.tftp_supervisor.proofs.Starting.{ended_more, goes_on_ended}
use Rattle.tftp_supervisor.proofs.supervisor.end_all.Goals as goal

pub loop-before-init : goal.loop-before-init
loop-before-init g c = search rules

pub end-requires : goal.end-requires
end-requires g c = search rules

pub loop-before-preserved : goal.loop-before-preserved
loop-before-preserved g c = search (rules, goes_on_ended, ended_more)

pub returns-clause-ended : goal.returns-clause-ended
returns-clause-ended g c k below = search rules
