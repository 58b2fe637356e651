-- The mask in all lines is the one in those that are left.
use Rattle.std.proofs.Common.{◌≡◌, drop, length}
use Rattle.std.specs.Str.Lines.{lines}
use Rattle.tftp_daemon.specs.Processors.{mask_in}
use Rattle.tftp_daemon.proofs.processors.mask_of.Given as goal

abbrev pub invariant-loop-line : goal.invariant-loop-line
invariant-loop-line l = mask_in (drop (length l.yielded) (lines l.status)) ≡ mask_in (lines l.status)
