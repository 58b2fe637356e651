use Rattle.std.proofs.Common.{length}
use Rattle.tftp_daemon.proofs.refused.+has_stdin.Given as goal

abbrev pub decreases-has_stdin : goal.decreases-has_stdin
decreases-has_stdin l = length l.words.now
