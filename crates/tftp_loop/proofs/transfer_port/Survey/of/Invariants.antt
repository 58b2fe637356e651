use Rattle.tftp_loop.proofs.Common.{◌≤◌, drop, length}
use Rattle.tftp_loop.specs.MayWait.{IsSurveyOf}
use Rattle.tftp_loop.proofs.transfer_port.Survey.of.Given as goal

-- the ports from the index on were surveyed
abbrev pub invariant-loop-index : goal.invariant-loop-index
invariant-loop-index l =
    (l.index ≤ length l.fn.ports) × IsSurveyOf (drop l.index l.fn.ports) l.survey

abbrev pub decreases-loop-index : goal.decreases-loop-index
decreases-loop-index l = l.index
