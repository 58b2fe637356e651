-- Each part that is passed over leaves less.
use Rattle.tftp_capture.proofs.input.skip.Given as goal

abbrev pub decreases-loop-left : goal.decreases-loop-left
decreases-loop-left g l = l.left
