-- What is printed of the bytes before the index.
use Rattle.std.proofs.Common.{take}
use Rattle.tftp_supervisor.specs.Lines.{HasNoEnd}
use Rattle.tftp_supervisor.specs.Output.{PassesOn, lines_in}
use Rattle.tftp_supervisor.proofs.output.Output.pass_on.Given as goal

abbrev pub invariant-loop-byte : goal.invariant-loop-byte
invariant-loop-byte l =
    HasNoEnd l.initial.self.begun.items
    → PassesOn (lines_in l.initial.announced.items) (lines_in l.announced.items) (take l.byte-index l.bytes) l.initial.self l.self l.out.items
