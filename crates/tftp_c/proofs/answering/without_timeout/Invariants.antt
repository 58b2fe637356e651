-- What is kept, and what is kept of the options that are left, is what is kept of all.
use Rattle.tftp_c.proofs.Common.{◌≡◌, ◌++◌}
use Rattle.std.proofs.Common.{length}
use Rattle.tftp_c.specs.Answers.{without_timeout}
use Rattle.tftp_c.proofs.answering.without_timeout.Given as goal

abbrev pub invariant-loop-option : goal.invariant-loop-option
invariant-loop-option l = l.kept.items ++ without_timeout l.options ≡ without_timeout l.fn.options

abbrev pub decreases-loop-option : goal.decreases-loop-option
decreases-loop-option l = length l.options
