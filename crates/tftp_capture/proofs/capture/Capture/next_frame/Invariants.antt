-- The buffer stays within the longest record from block to block.
use Rattle.std.proofs.Common.{vec_len}
use Rattle.tftp_capture.specs.Record.{StaysWithin}
use Rattle.tftp_capture.proofs.capture.Capture.next_frame.Given as goal

abbrev pub invariant-loop : goal.invariant-loop
invariant-loop g l = StaysWithin (vec_len l.initial.bytes) (vec_len l.bytes)
